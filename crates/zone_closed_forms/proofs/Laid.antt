-- What the rows keep over closed bounds, and that the closed form over them is closed.
use Rattle.std.proofs.Common.{◌≡◌, ℕ, ◌^◌, ◌<◌, ◌≤◌, true, eqb, sym, refl, ap, ◌∙◌, subst, subst₂, ⊎_elim, arith}
use Rattle.std.proofs.lemmas.Bool.{cond_both, eqb-true}
use Rattle.bounds.specs.Kinds.{Kind}
use Rattle.zone_walks.specs.Walks.{Matrix, lesser, Sized, Still}
use Rattle.zone_walks.proofs.Closed.{Closed, Same}
use Rattle.zone_walks.proofs.Lessers.{lesser_cases, lesser_left, lesser_right, lesser_size, lesser_is_left, lesser_is_right}
use Rattle.zone_walks.proofs.Sums.{zero_after}
use Rattle.zone_cells.proofs.Steps.{Good}
use Rattle.zone_closed_forms.specs.ClosedForms.{ClockRows, by_clock, closed}
use Rattle.zone_closed_forms.proofs.Shorter.{Under, longer_after, longer_before, longer_between}

-- rows over the bounds x: no way through another point is shorter than up or low, and no round trip is below zero
pub record Laid {B : Type 0} (kind : Kind B) (n : ℕ) (x : Matrix B) (rows : ClockRows B) : Type 0 where
  pub up_sized : (j : ℕ) → j < n → kind.size (rows.up j) ≤ 2 ^ 23
  pub low_sized : (k : ℕ) → k < n → kind.size (rows.low k) ≤ 2 ^ 23
  pub up_first : rows.up 0 ≡ kind.zero
  pub low_first : rows.low 0 ≡ kind.zero
  pub up_below : (j : ℕ) → j < n → kind.at_most (rows.up j) (x j 0) ≡ true
  pub low_below : (k : ℕ) → k < n → kind.at_most (rows.low k) (x 0 k) ≡ true
  pub up_way : (j i : ℕ) → j < n → i < n → kind.at_most (rows.up j) (kind.sum (x j i) (rows.up i)) ≡ true
  pub low_way : (i k : ℕ) → i < n → k < n → kind.at_most (rows.low k) (kind.sum (rows.low i) (x i k)) ≡ true
  pub back : (i : ℕ) → i < n → kind.at_most kind.zero (kind.sum (rows.low i) (rows.up i)) ≡ true

-- the closed form, also at the clock and on the diagonal
abbrev pub shortest : {B : Type 0} → Kind B → Matrix B → ClockRows B → Matrix B
shortest kind x rows j k = lesser kind (x j k) (by_clock kind rows j k)

module _ {B : Type 0} (kind : Kind B) (n : ℕ) (some : 1 ≤ n) (x : Matrix B) (g : Good kind n (2 ^ 22) x) (rows : ClockRows B) (h : Laid kind n x rows) where
  pub shortest_to : (j : ℕ) → j < n → shortest kind x rows j 0 ≡ rows.up j
  shortest_to j l =
      let e : by_clock kind rows j 0 ≡ rows.up j = ap (kind.sum (rows.up j)) h.low_first ∙ zero_after kind (rows.up j) (omega (arith, h.up_sized j l)) in
      ap (lesser kind (x j 0)) e ∙ lesser_is_right kind (x j 0) (rows.up j) (h.up_below j l)

  pub shortest_from : (k : ℕ) → k < n → shortest kind x rows 0 k ≡ rows.low k
  shortest_from k l =
      let e : by_clock kind rows 0 k ≡ rows.low k = ap (λ b. kind.sum b (rows.low k)) h.up_first ∙ kind.neutral (rows.low k) (omega (arith, h.low_sized k l)) in
      ap (lesser kind (x 0 k)) e ∙ lesser_is_right kind (x 0 k) (rows.low k) (h.low_below k l)

  pub shortest_still : Still kind n (shortest kind x rows)
  shortest_still j l =
      let e = kind.commutative (rows.low j) (rows.up j) (omega (arith, h.low_sized j l, h.up_sized j l)) in
      lesser_is_left kind (x j j) (by_clock kind rows j j) (subst₂ (Under kind) (sym (g.closed.still j l)) e (h.back j l)) ∙ g.closed.still j l

  pub shortest_sized : Sized kind n (2 ^ 24) (shortest kind x rows)
  shortest_sized j k a b =
      lesser_size kind (x j k) (by_clock kind rows j k) (2 ^ 24) (omega (arith, g.sized j k a b)) (omega (arith, kind.sum_size (rows.up j) (rows.low k), h.up_sized j a, h.low_sized k b))

  -- straight on or through the clock, before the point and behind it
  module _ (i j k : ℕ) (c : i < n) (a : j < n) (b : k < n) where
    abbrev Over : B → Type 0
    Over d = Under kind (shortest kind x rows j k) d

    straight : Over (kind.sum (x j i) (x i k))
    straight = kind.transitive _ (x j k) _ (lesser_left kind (x j k) (by_clock kind rows j k)) (g.closed.settled i c j k a b)

    past_clock : (d : B) → Under kind (by_clock kind rows j k) d → Over d
    past_clock d le = kind.transitive _ (by_clock kind rows j k) d (lesser_right kind (x j k) (by_clock kind rows j k)) le

    clock_behind : Over (kind.sum (x j i) (by_clock kind rows i k))
    clock_behind =
        past_clock _ (longer_after kind (x j i) (rows.up i) (rows.up j) (rows.low k) (omega (arith, g.sized j i a c)) (omega (arith, h.up_sized i c)) (omega (arith, h.up_sized j a)) (omega (arith, h.low_sized k b)) (h.up_way j i a c))

    clock_before : Over (kind.sum (by_clock kind rows j i) (x i k))
    clock_before =
        past_clock _ (longer_before kind (rows.up j) (rows.low i) (x i k) (rows.low k) (omega (arith, h.up_sized j a)) (omega (arith, h.low_sized i c)) (omega (arith, g.sized i k c b)) (omega (arith, h.low_sized k b)) (h.low_way i k c b))

    clock_twice : Over (kind.sum (by_clock kind rows j i) (by_clock kind rows i k))
    clock_twice =
        past_clock _ (longer_between kind (rows.up j) (rows.low i) (rows.up i) (rows.low k) (omega (arith, h.up_sized j a)) (omega (arith, h.low_sized i c)) (omega (arith, h.up_sized i c)) (omega (arith, h.low_sized k b)) (h.back i c))

    abbrev Legs : B → B → Type 0
    Legs d e = Over (kind.sum d e)

    through : Legs (shortest kind x rows j i) (shortest kind x rows i k)
    through =
        ⊎_elim
        (λ e. subst (λ d. Legs d (shortest kind x rows i k)) (sym e) (second (x j i) straight clock_behind))
        (λ e. subst (λ d. Legs d (shortest kind x rows i k)) (sym e) (second (by_clock kind rows j i) clock_before clock_twice))
        (lesser_cases kind (x j i) (by_clock kind rows j i))
      where
        second : (d : B) → Legs d (x i k) → Legs d (by_clock kind rows i k) → Legs d (shortest kind x rows i k)
        second d p q = ⊎_elim (λ e. subst (Legs d) (sym e) p) (λ e. subst (Legs d) (sym e) q) (lesser_cases kind (x i k) (by_clock kind rows i k))

  pub shortest_closed : Closed kind n (shortest kind x rows)
  shortest_closed = record { still = shortest_still; settled = λ i c j k a b. through i j k c a b }

  pub shortest_is_closed : Same n (shortest kind x rows) (closed kind x rows)
  shortest_is_closed j k a b =
      let m = shortest kind x rows j k in
      cond_both (eqb j k) _ _ (λ c. m ≡ c) (λ e. subst (λ v. shortest kind x rows j v ≡ kind.zero) (eqb-true j k e) (shortest_still j a))
      (λ _. cond_both (eqb j 0) _ _ (λ c. m ≡ c) (λ e. subst (λ v. shortest kind x rows v k ≡ rows.low k) (sym (eqb-true j 0 e)) (shortest_from k b))
      (λ _. cond_both (eqb k 0) _ _ (λ c. m ≡ c) (λ e. subst (λ v. shortest kind x rows j v ≡ rows.up j) (sym (eqb-true k 0 e)) (shortest_to j a)) (λ _. refl)))
