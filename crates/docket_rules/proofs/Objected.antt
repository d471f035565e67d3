-- What it means that nothing stands against a page's vouching; and the same stands for zones with the
-- same places and bounds, asked for or vouching.
use Rattle.std.proofs.Common.{◌≡◌, ℕ, Bool, true, false, cond, List, Ok, Err, Result, sym, refl, ap, ◌∙◌}
use Rattle.std.proofs.lemmas.Bool.{true≢false}
use Rattle.zone_pages.proofs.Means.{means}
use Rattle.zone_pages.specs.Objections.{objection_of}
use Rattle.zone_pages.specs.declared.objections.Objection.{Objection}
use Rattle.zone_pages.specs.declared.objections.Objection.TheVariants.{Partner, Place, Bound}
use Rattle.bounds.specs.Kinds.{Kind}
use Rattle.zone_pages.specs.Comparison.{bound_exceeds, partners_unsound, places_differ}
use Rattle.zone_pages.proofs.Comparison.{none_lacks, vouches_from}
use Rattle.docket_dues.specs.Answered.{SameZone}
use Rattle.docket_dues.proofs.Same.{voucher_same, vouches_same}
use Rattle.zone_walks.specs.Walks.{Matrix}
use Rattle.zones.specs.Vouching.{Vouches}
use Rattle.zones.specs.Zones.{Zone}

abbrev pub Tried : Type 0
Tried = Result (Unit {0}) Objection

abbrev tried : Bool → Bool → Bool → Tried
tried a b c = cond a (Err Partner) (cond b (Err Place) (cond c (Err Bound) (Ok tt)))

-- the last test tells the same of both, where the others hold of neither
last_alike : (a b c e : Bool) → (a ≡ false → b ≡ false → c ≡ false → e ≡ false) → (a ≡ false → b ≡ false → e ≡ false → c ≡ false) → tried a b c ≡ tried a b e
last_alike true b c e there back = refl
last_alike false true c e there back = refl
last_alike false false false e there back = ap (λ t. tried false false t) (sym (there refl refl refl))
last_alike false false true true there back = refl
last_alike false false true false there back = absurd (true≢false (back refl refl refl))

module _ {B : Type 0} (kind : Kind B) (page : Zone B) (pairing : List ℕ) where
  pub unobjected : (x : Zone B) → objection_of kind page x pairing ≡ Ok tt → Vouches kind page x pairing
  unobjected x = (means kind page x pairing (objection_of kind page x pairing) refl).vouches

  module _ (places : List ℕ) (x y : Matrix B) where
    abbrev one : Zone B
    one = record { places = places; bound = x }

    abbrev other : Zone B
    other = record { places = places; bound = y }

    same_tried : SameZone one other → SameZone other one → objection_of kind page one pairing ≡ objection_of kind page other pairing
    same_tried there back =
        last_alike (partners_unsound page.places places pairing) (places_differ page.places places pairing) (bound_exceeds kind page.bound x pairing) (bound_exceeds kind page.bound y pairing)
        (λ a b c. (none_lacks kind page other pairing (vouches_same kind other one page pairing back (vouches_from kind page one pairing a b c))).2)
        (λ a b c. (none_lacks kind page one pairing (vouches_same kind one other page pairing there (vouches_from kind page other pairing a b c))).2)

  pub same_objection : (x y : Zone B) → SameZone x y → objection_of kind page x pairing ≡ objection_of kind page y pairing
  same_objection x y same =
      same_tried x.places x.bound y.bound
      (record { places = refl; bounds = same.bounds })
      (record { places = refl; bounds = λ j i p q. sym (same.bounds j i p q) })
      ∙ ap (λ ps. objection_of kind page (record { places = ps; bound = y.bound }) pairing) (sym same.places)

-- the same stands against either of two that vouch
module _ {B : Type 0} (kind : Kind B) where
  module _ (asked : Zone B) (pairing places : List ℕ) (x y : Matrix B) where
    abbrev first : Zone B
    first = record { places = places; bound = x }

    abbrev second : Zone B
    second = record { places = places; bound = y }

    either_tried : SameZone first second → SameZone second first → objection_of kind first asked pairing ≡ objection_of kind second asked pairing
    either_tried there back =
        last_alike (partners_unsound places asked.places pairing) (places_differ places asked.places pairing) (bound_exceeds kind x asked.bound pairing) (bound_exceeds kind y asked.bound pairing)
        (λ a b c. (none_lacks kind second asked pairing (voucher_same kind second first asked pairing back (vouches_from kind first asked pairing a b c))).2)
        (λ a b c. (none_lacks kind first asked pairing (voucher_same kind first second asked pairing there (vouches_from kind second asked pairing a b c))).2)

  pub same_against : (asked x y : Zone B) (pairing : List ℕ) → SameZone x y → objection_of kind x asked pairing ≡ objection_of kind y asked pairing
  same_against asked x y pairing same =
      either_tried asked pairing x.places x.bound y.bound
      (record { places = refl; bounds = same.bounds })
      (record { places = refl; bounds = λ j i p q. sym (same.bounds j i p q) })
      ∙ ap (λ ps. objection_of kind (record { places = ps; bound = y.bound }) asked pairing) (sym same.places)
