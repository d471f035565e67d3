-- No objection is an answer that says the page vouches.
use Rattle.std.proofs.Common.{◌≡◌, ℕ, Bool, true, false, cond, List, is_err, Ok, Err, Result, sym, refl, ap, ◌∙◌}
use Rattle.bounds.specs.Kinds.{Kind}
use Rattle.zone_pages.specs.Comparison.{partners_unsound, places_differ, bound_exceeds}
use Rattle.zone_pages.proofs.Comparison.{vouches_from, none_lacks}
use Rattle.std.proofs.lemmas.Bool.{true≢false, cond-false}
use Rattle.zones.specs.Vouching.{Vouches}
use Rattle.zones.specs.Zones.{Zone}
use Rattle.zone_pages.specs.declared.objections.Objection.{Objection}
use Rattle.zone_pages.specs.declared.objections.Objection.TheVariants.{Partner, Place, Bound}
use Rattle.zone_pages.specs.Objections.{objection_of, Means}

abbrev first_test : Bool → Bool → Bool → Result (Unit {0}) Objection
first_test a b c = cond a (Err Partner) (cond b (Err Place) (cond c (Err Bound) (Ok tt)))

no_test : (a b c : Bool) → first_test a b c ≡ Ok tt → (a ≡ false) × (b ≡ false) × (c ≡ false)
no_test true b c e = absurd (true≢false (ap is_err e))
no_test false true c e = absurd (true≢false (ap is_err e))
no_test false false true e = absurd (true≢false (ap is_err e))
no_test false false false e = (refl, refl, refl)

module _ {B : Type 0} (kind : Kind B) (page asked : Zone B) (pairing : List ℕ) where
  vouches : objection_of kind page asked pairing ≡ Ok tt → Vouches kind page asked pairing
  vouches e =
      let none = no_test (partners_unsound page.places asked.places pairing) (places_differ page.places asked.places pairing) (bound_exceeds kind page.bound asked.bound pairing) e in
      vouches_from kind page asked pairing none.0 none.1 none.2

  pub nothing : Vouches kind page asked pairing → objection_of kind page asked pairing ≡ Ok tt
  nothing v =
      let lacks = none_lacks kind page asked pairing v in
      cond-false (partners_unsound page.places asked.places pairing) _ _ lacks.0 ∙ (cond-false (places_differ page.places asked.places pairing) _ _ lacks.1 ∙ cond-false (bound_exceeds kind page.bound asked.bound pairing) _ _ lacks.2)

  pub means : (answer : Result (Unit {0}) Objection) → answer ≡ objection_of kind page asked pairing → Means kind page asked pairing answer
  means answer is = record { vouches = λ e. vouches (sym is ∙ e); nothing = λ v. is ∙ nothing v }
