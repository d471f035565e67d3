-- How the closed forms may be worked out, over every kind.
use Rattle.std.proofs.Common.{◌≡◌, false, ◌||◌, sym, ap, ◌∙◌, ⊎_elim}
use Rattle.std.proofs.lemmas.Bool.{cases_Bool, or_left, or_right, or_from}
use Rattle.bounds.specs.Kinds.{Kind}
use Rattle.zone_walks.specs.Walks.{lesser}
use Rattle.zone_walks.proofs.Lessers.{lesser_left, lesser_right, lesser_cases}
use Rattle.zone_closed_forms.specs.ClockRows.{ClockRowLaws}
use Rattle.zone_closed_forms.proofs.Alike.{all_alike, next_narrowed, done_narrowed, fired_alike}
use Rattle.zone_closed_forms.proofs.Kept.{kept_delayed, kept_places, kept_whole}

module _ {B : Type 0} (kind : Kind B) where
  lesser_compared : (a b c : B) → kind.at_most (lesser kind a b) c ≡ (kind.at_most a c || kind.at_most b c)
  lesser_compared a b c =
      ⊎_elim
      (λ e. kind.transitive _ a c (lesser_left kind a b) e ∙ sym (or_left (kind.at_most a c) (kind.at_most b c) e))
      (λ e. ⊎_elim
      (λ f. kind.transitive _ b c (lesser_right kind a b) f ∙ sym (or_right (kind.at_most a c) (kind.at_most b c) f))
      (λ f. neither e f ∙ sym (or_from (kind.at_most a c) (kind.at_most b c) e f))
      (cases_Bool (kind.at_most b c)))
      (cases_Bool (kind.at_most a c))
    where
      neither : kind.at_most a c ≡ false → kind.at_most b c ≡ false → kind.at_most (lesser kind a b) c ≡ false
      neither e f = ⊎_elim (λ g. ap (λ d. kind.at_most d c) g ∙ e) (λ g. ap (λ d. kind.at_most d c) g ∙ f) (lesser_cases kind a b)

  pub clock_row_laws : ClockRowLaws kind
  clock_row_laws =
      record {
        next = next_narrowed kind;
        done = done_narrowed kind;
        alike = all_alike kind;
        whole = λ z own j k h alike. kept_whole kind z own h alike j k;
        places = λ z own. kept_places kind z own;
        delayed = λ z own. kept_delayed kind z own;
        fired = fired_alike kind;
        compared = lesser_compared;
      }
