-- Zones of one token, by their two bounds, over every kind.
use Rattle.std.proofs.Common.{◌≡◌, ℕ, zero, suc, Bool, true, false, Some, [], ◌∷◌, ℤ, pos, neg_ℤ, sym, refl, ap, ◌∙◌, subst, arith}
use lib.Signed.{le_z}
use Rattle.bounds.specs.Kinds.{Kind, Named, place}
use Rattle.zone_walks.specs.Walks.{lesser, counted, Still}
use Rattle.zone_walks.proofs.Lessers.{lesser_is_left}
use Rattle.zone_walks.proofs.NormalForms.{same_back}
use Rattle.zone_walks.proofs.Sums.{zero_after}
use Rattle.zones.specs.Zones.{Inconsistent}
use Rattle.zone_examples.specs.WorkedExamples.{plus, minus, strictly, one_token}
use Rattle.zone_examples.proofs.Computed.{Entry, each, unmarked_named}
use Rattle.zone_examples.proofs.Squares.{pair, pair_same, Solved, solved}

-- the numbers n and -n
abbrev pub up : ℕ → Entry
up n = Some (pos n)

abbrev pub down : ℕ → Entry
down n = Some (neg_ℤ (pos n))

module _ {B : Type 0} (kind : Kind B) where
  pub three_three_solved : Solved kind 2 (counted kind (one_token kind 0 (plus kind 3) (minus kind 3)).bound) (one_token kind 0 (plus kind 3) (minus kind 3)).bound
  three_three_solved =
      let z = one_token kind 0 (plus kind 3) (minus kind 3) in
      solved kind 2 z.bound z.bound (pair (down 3) (up 3)) (pair (down 3) (up 3)) (omega arith) (pair_same kind 0 (down 3) (up 3)) (same_back kind 2 z.bound (each kind (pair (down 3) (up 3))) (pair_same kind 0 (down 3) (up 3))) refl

  low : Named kind.marks (neg_ℤ (pos 3)) false
  low = unmarked_named kind (neg_ℤ (pos 3)) refl

  origin : Named kind.marks (pos 0) false
  origin = unmarked_named kind (pos 0) refl

  at_least_three : lesser kind (minus kind 3) kind.zero ≡ minus kind 3
  at_least_three =
      lesser_is_left kind (minus kind 3) kind.zero (subst (λ b. kind.at_most (minus kind 3) b ≡ true) kind.number_zero (kind.numbers_order (neg_ℤ (pos 3)) (pos 0) false false low origin))

  -- from the clock to the token and back; r is the sum
  around : (c r : ℤ) (s : Bool) → Named kind.marks c s → Named kind.marks r s → kind.sum (minus kind 3) (kind.number c s) ≡ kind.number r s → le_z (place (pos 0) false) (place r s) ≡ false → Inconsistent kind (one_token kind 0 (kind.number c s) (minus kind 3))
  around c r s upper total sum negative =
      record {
        at = 0;
        point = omega arith;
        legs = 1 ∷ 0 ∷ [];
        closed = record { inside = (omega arith, (omega arith, tt)); few = omega arith; ends = refl };
        below =
            ap (λ b. kind.at_most kind.zero (kind.sum b (kind.sum (kind.number c s) kind.zero))) at_least_three
            ∙ ap (λ b. kind.at_most kind.zero (kind.sum (minus kind 3) b)) (zero_after kind (kind.number c s) (omega (arith, kind.numbers_size c s upper, upper.small)))
            ∙ ap (kind.at_most kind.zero) sum
            ∙ ap (λ b. kind.at_most b (kind.number r s)) (sym kind.number_zero)
            ∙ kind.numbers_order (pos 0) r false s origin total ∙ negative;
      }

  pub two_three : Inconsistent kind (one_token kind 0 (plus kind 2) (minus kind 3))
  two_three =
      let two = unmarked_named kind (pos 2) refl in
      around (pos 2) (neg_ℤ (pos 1)) false two (unmarked_named kind (neg_ℤ (pos 1)) refl) (kind.numbers_sum (neg_ℤ (pos 3)) (pos 2) false false low two) refl

  pub below_three : kind.marks ≡ true → Inconsistent kind (one_token kind 0 (strictly kind 3) (minus kind 3))
  below_three m =
      let three : Named kind.marks (pos 3) true = record { small = omega arith; takes = λ e. m } in
      around (pos 3) (pos 0) true three (record { small = omega arith; takes = λ e. m }) (kind.numbers_sum (neg_ℤ (pos 3)) (pos 3) false true low three) refl

  pub one_still : Still kind 2 (one_token kind 0 (plus kind 3) (minus kind 3)).bound
  one_still zero p = refl
  one_still (suc zero) p = refl
  one_still (suc (suc j)) p = absurd (omega (arith, p))
