-- One more step of a counted loop.
use Rattle.std.proofs.Common.{◌≡◌, ℕ, zero, suc, ◌+◌, ◌-◌, ◌<◌, ◌≤◌, Bool, true, false, cond, eqb, sym, refl, ap, ◌∙◌, arith}
use Rattle.std.proofs.lemmas.Bool.{cond-false, ne_eqb}
use Rattle.std.specs.List.{fold, range_with_len}
use mathlib.Core.Bool.{beq}
use Rattle.zone_cells.specs.Sifted.{agrees}
use Rattle.zone_cells.specs.Cells.{times}

pub times_more : {X : Type 0} (n : ℕ) (step : ℕ → X → X) (x : X) → step n (times n step x) ≡ times (n + 1) step x
times_more n step x = let e : suc n ≡ n + 1 = omega arith in ap (λ m. times m step x) e

-- the next value is the step's, from a value reached in n steps
pub one_more : {X : Type 0} (n : ℕ) (step : ℕ → X → X) (x now next : X) → now ≡ times n step x → next ≡ step n now → next ≡ times (n + 1) step x
one_more n step x now next so_far is = is ∙ ap (step n) so_far ∙ times_more n step x

pub last_one : {X : Type 0} (n i : ℕ) (step : ℕ → X → X) (x now : X) → now ≡ times i step x → n ≤ i → i ≤ n → now ≡ times n step x
last_one n i step x now so_far end fits = let e : i ≡ n = omega (arith, end, fits) in so_far ∙ ap (λ m. times m step x) e

-- the same where the steps are numbered from 1
pub one_numbered : {X : Type 0} (n : ℕ) (step : ℕ → X → X) (x now next : X) → 0 < n → now ≡ times (n - 1) step x → next ≡ step (n - 1) now → next ≡ times (n + 1 - 1) step x
one_numbered n step x now next some so_far is =
    let e : suc (n - 1) ≡ n + 1 - 1 = omega (arith, some) in
    is ∙ ap (step (n - 1)) so_far ∙ ap (λ m. times m step x) e

pub last_numbered : {X : Type 0} (n i : ℕ) (step : ℕ → X → X) (x now : X) → now ≡ times (i - 1) step x → n < i → (1 ≤ n → i ≤ n) → (n ≡ 0 → i ≡ 1) → now ≡ times n step x
last_numbered zero i step x now so_far past end none = let e : i - 1 ≡ 0 = omega (arith, none refl) in so_far ∙ ap (λ m. times m step x) e
last_numbered (suc n) i step x now so_far past end none = absurd (omega (arith, past, end (omega arith)))

-- a loop that begins at 1, since the step with 0 does nothing
pub from_one : {X : Type 0} (points i : ℕ) (step : ℕ → X → X) (x now : X) → 1 ≤ i → points ≤ i → (1 ≤ points → i ≤ points) → (points ≡ 0 → i ≡ 1) → step 0 x ≡ x → now ≡ times i step x → now ≡ times points step x
from_one zero i step x now first last end none idle is =
    is ∙ ap (λ m. times m step x) (none refl) ∙ idle
from_one (suc p) i step x now first last end none idle is =
    let e : i ≡ suc p = omega (arith, last, end (omega arith)) in
    is ∙ ap (λ m. times m step x) e

-- a fold that begins at 1, since the step with 0 does nothing
module _ {X : Type 0} (least : ℕ → X → X) (first : X) where
  abbrev step : ℕ → X → X
  step j b = cond (eqb j 0) b (least j b)

  fold_on : (n k : ℕ) (b : X) → 1 ≤ k → b ≡ times k step first → fold (λ b j. least j b) b (range_with_len k n) ≡ times (k + n) step first
  fold_on zero k b some is = let e : k ≡ k + 0 = omega arith in is ∙ ap (λ m. times m step first) e
  fold_on (suc n) k b some is =
      let e : k + 1 + n ≡ k + suc n = omega arith in
      let here : eqb k 0 ≡ false = ne_eqb k 0 (λ z. omega (arith, z, some)) in
      fold_on n (k + 1) (least k b) (omega arith) (ap (least k) is ∙ sym (cond-false (eqb k 0) _ _ here) ∙ times_more k step first) ∙ ap (λ m. times m step first) e

  pub fold_from_one : (points : ℕ) → fold (λ b j. least j b) first (range_with_len 1 (points - 1)) ≡ times points step first
  fold_from_one zero = refl
  fold_from_one (suc p) =
      let e : suc p - 1 ≡ p = omega arith in
      let f : 1 + p ≡ suc p = omega arith in
      ap (λ n. fold (λ b j. least j b) first (range_with_len 1 n)) e ∙ fold_on p 1 first (omega arith) refl ∙ ap (λ m. times m step first) f

pub beq_agrees : (a b : Bool) → beq a b ≡ agrees a b
beq_agrees true true = refl
beq_agrees true false = refl
beq_agrees false true = refl
beq_agrees false false = refl
