-- A call that was taken: no rule of its table holds, and so it came in the stage that it asks for.
use Rattle.std.proofs.Common.{◌≡◌, ℕ, Bool, true, false, List, [], ◌∷◌, Ok, Some, is_some, refl, ap, ⊎_elim}
use Rattle.std.proofs.lemmas.Bool.{false≢true}
use Rattle.docket_dues.specs.declared.item.Item.{Item}
use Rattle.nets.specs.Nets.{Net}
use Rattle.docket_rules.specs.Logs.{Log, Opening, still_due, proving_stage, stage_said}
use Rattle.docket_rules.specs.Tables.{Answer, Answers, Begins, Rule, number_of, is_blank, is_listing, is_proving}

-- ---- rules
abbrev pub taken : Answer
taken = Ok tt

taken_not_refused : (number : ℕ) → number_of taken ≡ Some number → ⊥
taken_not_refused number e = false≢true (ap is_some e)

abbrev pub NoneHolds : List Rule → Type 0
NoneHolds [] = Unit {0}
NoneHolds (r ∷ rows) = (r.when → ⊥) × NoneHolds rows

pub none_holds : (rows : List Rule) → Answers rows taken → NoneHolds rows
none_holds [] answers = tt
none_holds (r ∷ rows) answers =
    ⊎_elim (λ h. absurd (taken_not_refused r.number h.1)) (λ h. (h.0, none_holds rows h.1)) answers

pub none_begins : (rows : List Rule) → Begins rows taken → NoneHolds rows
none_begins [] begins = tt
none_begins (r ∷ rows) begins =
    ⊎_elim (λ h. absurd (taken_not_refused r.number h.1)) (λ h. (h.0, none_begins rows h.1)) begins

-- ---- stages
pub proving_not_blank : (later : List Item) → is_blank (proving_stage later) ≡ false
proving_not_blank [] = refl
proving_not_blank (d ∷ later) = refl

pub proving_not_listing : (later : List Item) → is_listing (proving_stage later) ≡ false
proving_not_listing [] = refl
proving_not_listing (d ∷ later) = refl

module _ {B : Type 0} (net : Net B) (log : Log B) (o : Opening B) where
  -- opened is not blank
  pub opened_not_blank : (closed : Bool) → is_blank (stage_said net log (Some o) closed) ≡ false
  opened_not_blank false = refl
  opened_not_blank true = proving_not_blank (still_due net log)

  -- listing is before the close
  pub listing_not_closed : (closed : Bool) → (is_listing (stage_said net log (Some o) closed) ≡ false → ⊥) → closed ≡ false
  listing_not_closed false other = refl
  listing_not_closed true other = absurd (other (proving_not_listing (still_due net log)))

  -- proving is after it
  pub proving_closed : (closed : Bool) → (is_proving (stage_said net log (Some o) closed) ≡ false → ⊥) → closed ≡ true
  proving_closed false other = absurd (other refl)
  proving_closed true other = refl
