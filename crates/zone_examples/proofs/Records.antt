-- What the bytes of the examples' records say.
use Rattle.std.proofs.Common.{◌≡◌, ℕ, zero, suc, ◌≤◌, Bool, true, false, not, ◌&&◌, ◌||◌, [], ◌∷◌, List, leb, pos, sym, refl, ap, arith}
use Rattle.std.proofs.lemmas.Bool.{lt-leb}
use Rattle.bounds.specs.Kinds.{Kind}
use Rattle.zone_walks.proofs.Closed.{Same}
use Rattle.docket_records.specs.ZoneRecords.{bound_at, has_mark, mark_at, mark_under_plain, no_such_place, not_zero, number_at, place_at, some_bound, some_in_row, some_token, spare_set, tokens_of, too_many, wrong_length, zone_of}
use Rattle.zone_examples.specs.WorkedExamples.{at_least_3, at_most_2, at_most_3, below_2, below_3, free, minus, one_token, plus, record_of_none, record_of_one, strictly}

-- no fault but marks, under a net of so many places
pub record Well (places : ℕ) (bytes : List ℕ) : Type 0 where
  pub long : wrong_length bytes ≡ false
  pub clean : not_zero bytes ≡ false
  pub few : too_many bytes ≡ false
  pub placed : no_such_place places bytes ≡ false

leb_none : (places : ℕ) → 1 ≤ places → leb places 0 ≡ false
leb_none places some = lt-leb places 0 (omega (arith, some))

unmarked : (marks : Bool) → not marks && false ≡ false
unmarked true = refl
unmarked false = refl

-- ---- record_of_one at_least_3 at_most_2
pub two_well : (places : ℕ) → 1 ≤ places → Well places (record_of_one at_least_3 at_most_2)
unfolding spare_set some_token some_bound some_in_row tokens_of place_at mark_at number_at
two_well places some =
    record { long = refl; clean = refl; few = refl; placed = ap (λ t. t || false) (leb_none places some) }

pub two_zone : {B : Type 0} (kind : Kind B) → zone_of kind (record_of_one at_least_3 at_most_2) ≡ record { places = 0 ∷ []; bound = bound_at kind (record_of_one at_least_3 at_most_2) }
unfolding spare_set some_token some_bound some_in_row tokens_of place_at mark_at number_at
two_zone kind = refl

pub two_plain : (marks : Bool) → mark_under_plain marks (record_of_one at_least_3 at_most_2) ≡ false
unfolding spare_set some_token some_bound some_in_row tokens_of place_at mark_at number_at
two_plain marks = unmarked marks

pub two_bounds : {B : Type 0} (kind : Kind B) → Same 2 (one_token kind 0 (plus kind 2) (minus kind 3)).bound (bound_at kind (record_of_one at_least_3 at_most_2))
unfolding spare_set some_token some_bound some_in_row tokens_of place_at mark_at number_at
two_bounds kind zero zero p q = refl
two_bounds kind zero (suc zero) p q = refl
two_bounds kind (suc zero) zero p q = refl
two_bounds kind (suc zero) (suc zero) p q = refl
two_bounds kind zero (suc (suc i)) p q = absurd (omega (arith, q))
two_bounds kind (suc zero) (suc (suc i)) p q = absurd (omega (arith, q))
two_bounds kind (suc (suc j)) i p q = absurd (omega (arith, p))

-- ---- record_of_one at_least_3 at_most_3
pub three_well : (places : ℕ) → 1 ≤ places → Well places (record_of_one at_least_3 at_most_3)
unfolding spare_set some_token some_bound some_in_row tokens_of place_at mark_at number_at
three_well places some =
    record { long = refl; clean = refl; few = refl; placed = ap (λ t. t || false) (leb_none places some) }

pub three_zone : {B : Type 0} (kind : Kind B) → zone_of kind (record_of_one at_least_3 at_most_3) ≡ record { places = 0 ∷ []; bound = bound_at kind (record_of_one at_least_3 at_most_3) }
unfolding spare_set some_token some_bound some_in_row tokens_of place_at mark_at number_at
three_zone kind = refl

pub three_plain : (marks : Bool) → mark_under_plain marks (record_of_one at_least_3 at_most_3) ≡ false
unfolding spare_set some_token some_bound some_in_row tokens_of place_at mark_at number_at
three_plain marks = unmarked marks

pub three_bounds : {B : Type 0} (kind : Kind B) → Same 2 (one_token kind 0 (plus kind 3) (minus kind 3)).bound (bound_at kind (record_of_one at_least_3 at_most_3))
unfolding spare_set some_token some_bound some_in_row tokens_of place_at mark_at number_at
three_bounds kind zero zero p q = refl
three_bounds kind zero (suc zero) p q = refl
three_bounds kind (suc zero) zero p q = refl
three_bounds kind (suc zero) (suc zero) p q = refl
three_bounds kind zero (suc (suc i)) p q = absurd (omega (arith, q))
three_bounds kind (suc zero) (suc (suc i)) p q = absurd (omega (arith, q))
three_bounds kind (suc (suc j)) i p q = absurd (omega (arith, p))

-- ---- record_of_one at_least_3 below_3
pub strict_three_well : (places : ℕ) → 1 ≤ places → Well places (record_of_one at_least_3 below_3)
unfolding spare_set some_token some_bound some_in_row tokens_of place_at mark_at number_at
strict_three_well places some =
    record { long = refl; clean = refl; few = refl; placed = ap (λ t. t || false) (leb_none places some) }

pub strict_three_zone : {B : Type 0} (kind : Kind B) → zone_of kind (record_of_one at_least_3 below_3) ≡ record { places = 0 ∷ []; bound = bound_at kind (record_of_one at_least_3 below_3) }
unfolding spare_set some_token some_bound some_in_row tokens_of place_at mark_at number_at
strict_three_zone kind = refl

pub strict_three_marked : (marks : Bool) → marks ≡ true → mark_under_plain marks (record_of_one at_least_3 below_3) ≡ false
strict_three_marked marks m = ap (λ t. not t && some_bound (has_mark (record_of_one at_least_3 below_3))) m

pub strict_three_bounds : {B : Type 0} (kind : Kind B) → kind.marks ≡ true → Same 2 (one_token kind 0 (strictly kind 3) (minus kind 3)).bound (bound_at kind (record_of_one at_least_3 below_3))
unfolding spare_set some_token some_bound some_in_row tokens_of place_at mark_at number_at
strict_three_bounds kind m zero zero p q = refl
strict_three_bounds kind m zero (suc zero) p q = refl
strict_three_bounds kind m (suc zero) zero p q = ap (λ t. kind.number (pos 3) t) (sym m)
strict_three_bounds kind m (suc zero) (suc zero) p q = refl
strict_three_bounds kind m zero (suc (suc i)) p q = absurd (omega (arith, q))
strict_three_bounds kind m (suc zero) (suc (suc i)) p q = absurd (omega (arith, q))
strict_three_bounds kind m (suc (suc j)) i p q = absurd (omega (arith, p))

-- ---- record_of_one free at_most_2
pub at_two_well : (places : ℕ) → 1 ≤ places → Well places (record_of_one free at_most_2)
unfolding spare_set some_token some_bound some_in_row tokens_of place_at mark_at number_at
at_two_well places some =
    record { long = refl; clean = refl; few = refl; placed = ap (λ t. t || false) (leb_none places some) }

pub at_two_zone : {B : Type 0} (kind : Kind B) → zone_of kind (record_of_one free at_most_2) ≡ record { places = 0 ∷ []; bound = bound_at kind (record_of_one free at_most_2) }
unfolding spare_set some_token some_bound some_in_row tokens_of place_at mark_at number_at
at_two_zone kind = refl

pub at_two_plain : (marks : Bool) → mark_under_plain marks (record_of_one free at_most_2) ≡ false
unfolding spare_set some_token some_bound some_in_row tokens_of place_at mark_at number_at
at_two_plain marks = unmarked marks

pub at_two_bounds : {B : Type 0} (kind : Kind B) → Same 2 (one_token kind 0 (plus kind 2) kind.no_limit).bound (bound_at kind (record_of_one free at_most_2))
unfolding spare_set some_token some_bound some_in_row tokens_of place_at mark_at number_at
at_two_bounds kind zero zero p q = refl
at_two_bounds kind zero (suc zero) p q = refl
at_two_bounds kind (suc zero) zero p q = refl
at_two_bounds kind (suc zero) (suc zero) p q = refl
at_two_bounds kind zero (suc (suc i)) p q = absurd (omega (arith, q))
at_two_bounds kind (suc zero) (suc (suc i)) p q = absurd (omega (arith, q))
at_two_bounds kind (suc (suc j)) i p q = absurd (omega (arith, p))

-- ---- record_of_one free below_2
pub below_two_well : (places : ℕ) → 1 ≤ places → Well places (record_of_one free below_2)
unfolding spare_set some_token some_bound some_in_row tokens_of place_at mark_at number_at
below_two_well places some =
    record { long = refl; clean = refl; few = refl; placed = ap (λ t. t || false) (leb_none places some) }

pub below_two_zone : {B : Type 0} (kind : Kind B) → zone_of kind (record_of_one free below_2) ≡ record { places = 0 ∷ []; bound = bound_at kind (record_of_one free below_2) }
unfolding spare_set some_token some_bound some_in_row tokens_of place_at mark_at number_at
below_two_zone kind = refl

pub below_two_marked : (marks : Bool) → marks ≡ true → mark_under_plain marks (record_of_one free below_2) ≡ false
below_two_marked marks m = ap (λ t. not t && some_bound (has_mark (record_of_one free below_2))) m

pub below_two_bounds : {B : Type 0} (kind : Kind B) → kind.marks ≡ true → Same 2 (one_token kind 0 (strictly kind 2) kind.no_limit).bound (bound_at kind (record_of_one free below_2))
unfolding spare_set some_token some_bound some_in_row tokens_of place_at mark_at number_at
below_two_bounds kind m zero zero p q = refl
below_two_bounds kind m zero (suc zero) p q = refl
below_two_bounds kind m (suc zero) zero p q = ap (λ t. kind.number (pos 2) t) (sym m)
below_two_bounds kind m (suc zero) (suc zero) p q = refl
below_two_bounds kind m zero (suc (suc i)) p q = absurd (omega (arith, q))
below_two_bounds kind m (suc zero) (suc (suc i)) p q = absurd (omega (arith, q))
below_two_bounds kind m (suc (suc j)) i p q = absurd (omega (arith, p))

-- ---- no token
pub none_well : (places : ℕ) → Well places record_of_none
unfolding spare_set some_token some_bound some_in_row tokens_of place_at mark_at number_at
none_well places = record { long = refl; clean = refl; few = refl; placed = refl }

pub none_plain : (marks : Bool) → mark_under_plain marks record_of_none ≡ false
unfolding spare_set some_token some_bound some_in_row tokens_of place_at mark_at number_at
none_plain marks = unmarked marks

pub none_zone : {B : Type 0} (kind : Kind B) → zone_of kind record_of_none ≡ record { places = []; bound = bound_at kind record_of_none }
unfolding spare_set some_token some_bound some_in_row tokens_of place_at mark_at number_at
none_zone kind = refl
