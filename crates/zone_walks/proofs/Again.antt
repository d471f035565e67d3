-- The normal form of a normal form is itself.
use Rattle.std.proofs.Common.{◌≡◌, ℕ, ◌*◌, ◌^◌, ◌<◌, ◌≤◌, true, eqb, sym, refl, ap, ◌∙◌, subst, mul-le-mul, arith}
use Rattle.std.proofs.lemmas.Bool.{cond-true, cond_both, eqb-true, eq-eqb}
use Rattle.bounds.specs.Kinds.{Kind}
use Rattle.zone_walks.specs.Walks.{Matrix, counted, Negative, NormalForm, Sized, Still}
use Rattle.zone_walks.specs.NormalForms.{most_points}
use Rattle.zone_walks.proofs.Closed.{Closed, Same}
use Rattle.zone_walks.proofs.Lessers.{at_most_same, lesser_right, lesser_size, lesser_is_left}
use Rattle.zone_walks.proofs.NormalForms.{same_back, same_from, normal_sized, normal_below, normal_closed, closed_itself}

pub record Again {B : Type 0} (kind : Kind B) (n : ℕ) (y : Matrix B) : Type 0 where
  pub closed : Closed kind n y
  pub normal : NormalForm kind n (counted kind y) y
  pub clock : (i : ℕ) → i < n → kind.at_most (y 0 i) kind.zero ≡ true
  pub same : Same n (counted kind y) y

module _ {B : Type 0} (kind : Kind B) where
  pub counted_still : (n : ℕ) (d : Matrix B) → Still kind n (counted kind d)
  counted_still n d j h = cond-true (eqb j j) _ _ (eq-eqb j j refl)

  pub counted_sized : (n s : ℕ) (d : Matrix B) → Sized kind n s d → Sized kind n s (counted kind d)
  counted_sized n s d sized j i p q =
      let none : kind.size kind.zero ≤ s = omega (arith, kind.zero_size) in
      cond_both (eqb j i) _ _ (λ b. kind.size b ≤ s) (λ _. none) (λ _. cond_both (eqb j 0) _ _ (λ b. kind.size b ≤ s) (λ _. lesser_size kind (d j i) kind.zero s (sized j i p q) none) (λ _. sized j i p q))

  -- the clock's bounds count as zero at most
  pub counted_clock : (d : Matrix B) (i : ℕ) → kind.at_most (counted kind d 0 i) kind.zero ≡ true
  counted_clock d i =
      cond_both (eqb 0 i) _ _ (λ b. kind.at_most b kind.zero ≡ true) (λ _. at_most_same kind kind.zero) (λ _. lesser_right kind (d 0 i) kind.zero)

  -- what is counted is counted as it is
  pub counted_same : (n : ℕ) (y : Matrix B) → Still kind n y → ((i : ℕ) → i < n → kind.at_most (y 0 i) kind.zero ≡ true) → Same n (counted kind y) y
  counted_same n y still clock j i p q =
      cond_both (eqb j i) _ _ (λ b. b ≡ y j i) (λ e. sym (still j p) ∙ ap (y j) (eqb-true j i e))
      (λ _. cond_both (eqb j 0) _ _ (λ b. b ≡ y j i) (λ e. lesser_is_left kind (y j i) kind.zero (subst (λ k. kind.at_most (y k i) kind.zero ≡ true) (sym (eqb-true j 0 e)) (clock i q))) (λ _. refl))

  pub normal_again : (n s : ℕ) (d y : Matrix B) → n ≤ most_points → 1 ≤ n → s ≤ 2 ^ 20 → Sized kind n s d → NormalForm kind n (counted kind d) y → (Negative kind n (counted kind d) → ⊥) → Again kind n y
  normal_again n s d y few some small sized h none =
      record { closed = closed; normal = same_from kind n y (counted kind y) y (same_back kind n (counted kind y) y same) (closed_itself kind n (n * s) y few (omega (arith, mul-le-mul few small)) sy closed); clock = clock; same = same }
    where
      sx : Sized kind n s (counted kind d)
      sx = counted_sized n s d sized

      sy : Sized kind n (n * s) y
      sy = normal_sized kind n s (counted kind d) y sx h

      closed : Closed kind n y
      closed = normal_closed kind n s (counted kind d) y few (omega arith) sx h none

      clock : (i : ℕ) → i < n → kind.at_most (y 0 i) kind.zero ≡ true
      clock i q = kind.transitive (y 0 i) (counted kind d 0 i) kind.zero (normal_below kind n s (counted kind d) y (omega arith) sx h 0 i some q) (counted_clock d i)

      same : Same n (counted kind y) y
      same = counted_same n y closed.still clock
