-- Normal forms and closed matrices, and the laws of normal forms but for their existence.
use Rattle.std.proofs.Common.{◌≡◌, ℕ, suc, ◌+◌, ◌*◌, ◌^◌, ◌<◌, ◌≤◌, true, false, List, [], ◌∷◌, length, ℤ, pos, ◌+ℤ◌, ◌-ℤ◌, sym, refl, ap, ◌∙◌, subst, ⊎_elim, mul-le-mul_right, arith}
use borrow.Author.Differences.{ints}
use Rattle.std.proofs.lemmas.Bool.{cases_Bool, true≢false}
use Rattle.bounds.specs.Kinds.{Kind, largest_size}
use Rattle.zone_walks.specs.Walks.{Matrix, walk_end, walk_sum, Inside, Walk, Negative, Reached, NormalForm, Sized, Still, AgesAllowed, Settled}
use Rattle.zone_walks.specs.NormalForms.{most_points, largest_entry}
use Rattle.zone_walks.proofs.Closed.{Closed, Below, Same}
use Rattle.zone_walks.proofs.Lessers.{at_most_same, at_most_equal}
use Rattle.zone_walks.proofs.Sums.{room, ends_inside, one_leg, no_leg, zero_after, monotone_right, walk_small, reached_small, reached_leg, reached_append}
use Rattle.zone_walks.proofs.Shortened.{Shorter, shortened}

some_twice : (n j : ℕ) → j < n → suc n ≤ n + n
some_twice n j h = omega arith

module _ {B : Type 0} (kind : Kind B) where
  -- ---- the same bounds
  pub same_back : (n : ℕ) (x w : Matrix B) → Same n x w → Same n w x
  same_back n x w e j i p q = sym (e j i p q)

  pub same_sized : (n s : ℕ) (x w : Matrix B) → Same n x w → Sized kind n s x → Sized kind n s w
  same_sized n s x w e h j i p q = subst (λ b. kind.size b ≤ s) (e j i p q) (h j i p q)

  pub same_still : (n : ℕ) (x w : Matrix B) → Same n x w → Still kind n x → Still kind n w
  same_still n x w e h j p = sym (e j j p p) ∙ h j p

  pub same_settled : (n : ℕ) (x w : Matrix B) (v : ℕ) → v < n → Same n x w → Settled kind n x v → Settled kind n w v
  same_settled n x w v p e h j i a b =
      rw (← (e j i a b), ← (e j v a p), ← (e v i p b)) (h j i a b)

  pub same_closed : (n : ℕ) (x w : Matrix B) → Same n x w → Closed kind n x → Closed kind n w
  same_closed n x w e h = record { still = same_still n x w e h.still; settled = λ v p. same_settled n x w v p e (h.settled v p) }

  pub same_sum : (n : ℕ) (x w : Matrix B) → Same n x w → (j : ℕ) (legs : List ℕ) → j < n → Inside n legs → walk_sum kind x j legs ≡ walk_sum kind w j legs
  same_sum n x w e j [] h k = refl
  same_sum n x w e j (p ∷ legs) h k = ap (λ b. kind.sum b (walk_sum kind x p legs)) (e j p h k.0) ∙ ap (kind.sum (w j p)) (same_sum n x w e p legs k.0 k.1)

  pub same_negative : (n : ℕ) (x w : Matrix B) → Same n x w → Negative kind n x → Negative kind n w
  same_negative n x w e h =
      record { at = h.at; point = h.point; legs = h.legs; closed = h.closed; below = subst (λ b. kind.at_most kind.zero b ≡ false) (same_sum n x w e h.at h.legs h.point h.closed.inside) h.below }

  pub same_from : (n : ℕ) (x w y : Matrix B) → Same n x w → NormalForm kind n x y → NormalForm kind n w y
  same_from n x w y e h =
      record {
        reached = λ j i p q. let r = h.reached j i p q in record { legs = r.legs; walk = r.walk; sum = r.sum ∙ same_sum n x w e j r.legs p r.walk.inside };
        least = λ j i legs p q walk. subst (λ b. kind.at_most (y j i) b ≡ true) (same_sum n x w e j legs p walk.inside) (h.least j i legs p q walk);
      }

  pub same_to : (n : ℕ) (x y z : Matrix B) → Same n y z → NormalForm kind n x y → NormalForm kind n x z
  same_to n x y z e h =
      record {
        reached = λ j i p q. let r = h.reached j i p q in record { legs = r.legs; walk = r.walk; sum = sym (e j i p q) ∙ r.sum };
        least = λ j i legs p q walk. subst (λ b. kind.at_most b (walk_sum kind x j legs) ≡ true) (e j i p q) (h.least j i legs p q walk);
      }

  -- ---- normal forms
  pub normal_sized : (n s : ℕ) (x y : Matrix B) → Sized kind n s x → NormalForm kind n x y → Sized kind n (n * s) y
  normal_sized n s x y sized h j i p q = reached_small kind n s x sized n j i (y j i) p (h.reached j i p q)

  pub normal_below : (n s : ℕ) (x y : Matrix B) → s ≤ largest_size → Sized kind n s x → NormalForm kind n x y → Below kind n y x
  normal_below n s x y small sized h j i p q =
      subst (λ b. kind.at_most (y j i) b ≡ true) (zero_after kind (x j i) (omega (arith, sized j i p q))) (h.least j i (i ∷ []) p q (one_leg n n j i q (omega arith)))

  -- a closed matrix is below the sum of every walk; y may have larger bounds than x
  pub closed_least : (n s t : ℕ) (x y : Matrix B) → Sized kind n s x → Sized kind n t y → suc n * s ≤ largest_size → s + t ≤ largest_size → t + t ≤ largest_size → Closed kind n y → Below kind n y x → (j : ℕ) (legs : List ℕ) → j < n → Inside n legs → length legs ≤ n → kind.at_most (y j (walk_end j legs)) (walk_sum kind x j legs) ≡ true
  closed_least n s t x y sx sy a b c closed below j [] h k few = at_most_equal kind (y j j) kind.zero (closed.still j h)
  closed_least n s t x y sx sy a b c closed below j (p ∷ legs) h k few =
      let e = ends_inside n p legs k.0 k.1 in
      let v = walk_end p legs in
      let one : kind.at_most (kind.sum (y j p) (y p v)) (kind.sum (x j p) (y p v)) ≡ true = kind.monotone (y j p) (x j p) (y p v) (omega (arith, sy j p h k.0, sy p v k.0 e)) (omega (arith, sx j p h k.0, sy p v k.0 e)) (below j p h k.0) in
      let two : kind.at_most (kind.sum (x j p) (y p v)) (kind.sum (x j p) (walk_sum kind x p legs)) ≡ true = monotone_right kind (y p v) (walk_sum kind x p legs) (x j p) (omega (arith, sx j p h k.0, sy p v k.0 e)) (omega (arith, sx j p h k.0, walk_small kind n s x sx p n legs k.0 k.1 (omega arith))) (closed_least n s t x y sx sy a b c closed below p legs k.0 k.1 (omega arith)) in
      kind.transitive (y j v) (kind.sum (y j p) (y p v)) _ (closed.settled p k.0 j v h e) (kind.transitive _ (kind.sum (x j p) (y p v)) _ one two)

  pub closed_normal : (n s : ℕ) (x y : Matrix B) → n ≤ most_points → s ≤ 2 ^ 30 → Sized kind n s x → Sized kind n s y → Closed kind n y → Below kind n y x → ((j i : ℕ) → j < n → i < n → Reached kind n n x j i (y j i)) → NormalForm kind n x y
  closed_normal n s x y few small sx sy closed below reached =
      record {
        reached = reached;
        least = λ j i legs p q walk.
            let r = room n s few small in
            subst (λ v. kind.at_most (y j v) (walk_sum kind x j legs) ≡ true) walk.ends (closed_least n s s x y sx sy (omega (arith, r, mul-le-mul_right s (some_twice n j p))) (omega arith) (omega arith) closed below j legs p walk.inside walk.few);
      }

  -- a closed matrix is its own normal form
  pub closed_itself : (n s : ℕ) (y : Matrix B) → n ≤ most_points → s ≤ 2 ^ 30 → Sized kind n s y → Closed kind n y → NormalForm kind n y y
  closed_itself n s y few small sy closed =
      closed_normal n s y y few small sy sy closed (λ j i p q. at_most_same kind (y j i)) (λ j i p q. reached_leg kind n s y sy n j i p q (omega arith) (omega arith))

  pub normal_closed : (n s : ℕ) (x y : Matrix B) → n ≤ most_points → s ≤ 2 ^ 30 → Sized kind n s x → NormalForm kind n x y → (Negative kind n x → ⊥) → Closed kind n y
  normal_closed n s x y few small sx h none =
      record {
        still = λ j p.
            let r = h.reached j j p p in
            let up : kind.at_most kind.zero (y j j) ≡ true = ⊎_elim (λ t. t) (λ t. absurd (none (record { at = j; point = p; legs = r.legs; closed = r.walk; below = ap (kind.at_most kind.zero) (sym r.sum) ∙ t }))) (cases_Bool (kind.at_most kind.zero (y j j))) in
            kind.antisymmetric (y j j) kind.zero (h.least j j [] p p (no_leg n n j)) up;
        settled = λ v p j i a b.
            let small2 = room n s few small in
            let r = reached_append kind n s x sx n n j v i (y j v) (y v i) a p small2 (h.reached j v a p) (h.reached v i p b) in
            let less = mul-le-mul_right s r.walk.few in
            ⊎_elim
            (λ t. absurd (none t))
            (λ w. kind.transitive (y j i) (walk_sum kind x j w.legs) _ (h.least j i w.legs a b (shorter_walk j i r w)) (subst (λ z. kind.at_most (walk_sum kind x j w.legs) z ≡ true) (sym r.sum) w.less))
            (shortened kind n s x sx (omega (arith, small2, mul-le-mul_right s (some_twice n j a))) j r.legs a r.walk.inside (omega (arith, less, small2)));
      }
    where
      shorter_walk : (j i : ℕ) {c : B} (r : Reached kind n (n + n) x j i c) (w : Shorter kind n x j (walk_end j r.legs) (walk_sum kind x j r.legs)) → Walk n n j i w.legs
      shorter_walk j i r w = record { inside = w.walk.inside; few = w.walk.few; ends = w.walk.ends ∙ r.walk.ends }

  -- ---- the laws
  walk_allowed : (n k : ℕ) (x : Matrix B) (age : ℕ → ℤ) → 1 ≤ k → AgesAllowed kind k n x age → (j : ℕ) (legs : List ℕ) → j < n → Inside n legs → kind.allows k (walk_sum kind x j legs) (age j -ℤ age (walk_end j legs)) ≡ true
  walk_allowed n k x age grid allowed j [] h l = kind.zero_allows k (age j -ℤ age j) grid ∙ sym (omega (arith, ints))
  walk_allowed n k x age grid allowed j (p ∷ legs) h l =
      let v = walk_end p legs in
      let e : (age j -ℤ age p) +ℤ (age p -ℤ age v) ≡ age j -ℤ age v = omega (arith, ints) in
      subst (λ d. kind.allows k (walk_sum kind x j (p ∷ legs)) d ≡ true) e (kind.sum_allows k (x j p) (walk_sum kind x p legs) (age j -ℤ age p) (age p -ℤ age v) grid (allowed j p h l.0) (walk_allowed n k x age grid allowed p legs l.0 l.1))

  pub normal_unique : (n : ℕ) (x y z : Matrix B) → NormalForm kind n x y → NormalForm kind n x z → (j i : ℕ) → j < n → i < n → y j i ≡ z j i
  normal_unique n x y z h k j i p q =
      let r = h.reached j i p q in
      let s = k.reached j i p q in
      kind.antisymmetric (y j i) (z j i)
      (subst (λ b. kind.at_most (y j i) b ≡ true) (sym s.sum) (h.least j i s.legs p q s.walk))
      (subst (λ b. kind.at_most (z j i) b ≡ true) (sym r.sum) (k.least j i r.legs p q r.walk))

  pub to_form : (n k : ℕ) (x y : Matrix B) (age : ℕ → ℤ) → 1 ≤ k → NormalForm kind n x y → AgesAllowed kind k n x age → AgesAllowed kind k n y age
  to_form n k x y age grid h allowed j i p q =
      let r = h.reached j i p q in
      rw r.sum (subst (λ v. kind.allows k (walk_sum kind x j r.legs) (age j -ℤ age v) ≡ true) r.walk.ends (walk_allowed n k x age grid allowed j r.legs p r.walk.inside))

  pub from_form : (n k : ℕ) (x y : Matrix B) (age : ℕ → ℤ) → 1 ≤ k → Sized kind n largest_entry x → NormalForm kind n x y → AgesAllowed kind k n y age → AgesAllowed kind k n x age
  from_form n k x y age grid sized h allowed j i p q =
      kind.larger_allows k (y j i) (x j i) (age j -ℤ age i) grid (normal_below n largest_entry x y (omega arith) sized h j i p q) (allowed j i p q)

  pub none_allowed : (n k : ℕ) (x : Matrix B) (age : ℕ → ℤ) → 1 ≤ k → Negative kind n x → AgesAllowed kind k n x age → ⊥
  none_allowed n k x age grid h allowed =
      let a = walk_allowed n k x age grid allowed h.at h.legs h.point h.closed.inside in
      let b = subst (λ v. kind.allows k (walk_sum kind x h.at h.legs) (age h.at -ℤ age v) ≡ true) h.closed.ends a in
      let z : age h.at -ℤ age h.at ≡ pos 0 = omega (arith, ints) in
      true≢false (sym (subst (λ d. kind.allows k (walk_sum kind x h.at h.legs) d ≡ true) z b) ∙ kind.below_zero k (walk_sum kind x h.at h.legs) grid h.below)
