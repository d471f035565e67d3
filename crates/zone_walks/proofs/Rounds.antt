-- Elimination: round by round one more point is settled.
use Rattle.std.proofs.Common.{◌≡◌, ℕ, zero, suc, ◌+◌, ◌*◌, ◌^◌, ◌<◌, ◌≤◌, Bool, true, false, ◌||◌, eqb, ◌⊎◌, List, sym, refl, ap, ◌∙◌, subst, subst₂, inl, inr, ⊎_elim, arith}
use native.Mathlib.Nat.{pow-le-pow_right, pow-succ'}
use Rattle.std.proofs.lemmas.Bool.{cases_Bool, true≢false, false≢true, or_cases, or_left, or_right, eqb-true, eqb-false}
use Rattle.bounds.specs.Kinds.{Kind, largest_size}
use Rattle.zone_walks.specs.Walks.{Matrix, walk_end, walk_sum, Walk, Negative, Reached, NormalForm, Sized, Still, Settled}
use Rattle.zone_walks.specs.NormalForms.{most_points, largest_entry, Formed, NormalFormLaws}
use Rattle.zone_walks.proofs.Closed.{Closed, Below, Same, relaxed}
use Rattle.zone_walks.proofs.Lessers.{at_most_same, at_most_equal, below_false, lesser_cases, lesser_left, lesser_right, lesser_is_left}
use Rattle.zone_walks.proofs.Sums.{zero_after, monotone_right, reached_more, reached_small, reached_leg, reached_append}
use Rattle.zone_walks.proofs.Shortened.{Shorter, shortened}
use Rattle.zone_walks.proofs.NormalForms.{same_back, same_settled, closed_least, normal_unique, to_form, from_form, none_allowed}

two : 0 < 2
two = omega arith

-- y comes from x by r rounds, and the points that are done are settled in it
pub record Progress {B : Type 0} (kind : Kind B) (n : ℕ) (x : Matrix B) (r : ℕ) (done : ℕ → Bool) (y : Matrix B) : Type 0 where
  pub reached : (j i : ℕ) → j < n → i < n → Reached kind n (2 ^ r) x j i (y j i)
  pub below : Below kind n y x
  pub settled : (v : ℕ) → v < n → done v ≡ true → Settled kind n y v
  pub still : (v : ℕ) → v < n → done v ≡ true → y v v ≡ kind.zero
  pub loops : (v : ℕ) → v < n → kind.at_most (y v v) kind.zero ≡ true

-- all points done: the normal form
pub record Finished {B : Type 0} (kind : Kind B) (n : ℕ) (x y : Matrix B) : Type 0 where
  pub normal : NormalForm kind n x y
  pub closed : Closed kind n y
  pub none : Negative kind n x → ⊥

-- ---- one round over y, in which all bounds are small and the way from p to itself is zero
module _ {B : Type 0} (kind : Kind B) (n t : ℕ) (y : Matrix B) (sized : Sized kind n t y) (small : t + t + t + t ≤ largest_size) (p : ℕ) (inside : p < n) (still : y p p ≡ kind.zero) where
  to_point : (j : ℕ) → j < n → relaxed kind p y j p ≡ y j p
  to_point j h =
      let e : kind.sum (y j p) (y p p) ≡ y j p = ap (kind.sum (y j p)) still ∙ zero_after kind (y j p) (omega (arith, sized j p h inside)) in
      lesser_is_left kind (y j p) (kind.sum (y j p) (y p p)) (at_most_equal kind (y j p) _ (sym e))

  from_point : (i : ℕ) → i < n → relaxed kind p y p i ≡ y p i
  from_point i h =
      let e : kind.sum (y p p) (y p i) ≡ y p i = ap (λ b. kind.sum b (y p i)) still ∙ kind.neutral (y p i) (omega (arith, sized p i inside h)) in
      lesser_is_left kind (y p i) (kind.sum (y p p) (y p i)) (at_most_equal kind (y p i) _ (sym e))

  point_settled : Settled kind n (relaxed kind p y) p
  point_settled j i h k =
      subst₂ (λ a b. kind.at_most (relaxed kind p y j i) (kind.sum a b) ≡ true) (sym (to_point j h)) (sym (from_point i k)) (lesser_right kind (y j i) (kind.sum (y j p) (y p i)))

  module _ (v : ℕ) (point : v < n) (settled : Settled kind n y v) (fixed : y v v ≡ kind.zero) where
    -- there and back
    return_above : kind.at_most kind.zero (kind.sum (y p v) (y v p)) ≡ true
    return_above = subst (λ b. kind.at_most b (kind.sum (y p v) (y v p)) ≡ true) still (settled p p inside inside)

    kept_still : relaxed kind p y v v ≡ kind.zero
    kept_still =
        let e = kind.commutative (y p v) (y v p) (omega (arith, sized p v inside point, sized v p point inside)) in
        lesser_is_left kind (y v v) (kind.sum (y v p) (y p v)) (subst₂ (λ a b. kind.at_most a b ≡ true) (sym fixed) e return_above) ∙ fixed

    module _ (u w : ℕ) (a : u < n) (b : w < n) where
      abbrev Above : B → Type 0
      Above c = kind.at_most (relaxed kind p y u w) c ≡ true

      through_v : Above (kind.sum (y u v) (y v w))
      through_v = kind.transitive _ (y u w) _ (lesser_left kind (y u w) _) (settled u w a b)

      through_p : (c : B) → kind.at_most (kind.sum (y u p) (y p w)) c ≡ true → Above c
      through_p c h = kind.transitive _ (kind.sum (y u p) (y p w)) c (lesser_right kind (y u w) _) h

      -- to v by p
      first_by : Above (kind.sum (kind.sum (y u p) (y p v)) (y v w))
      first_by =
          let l1 = sized u p a inside in
          let l2 = sized p v inside point in
          let l3 = sized v w point b in
          let l4 = sized p w inside b in
          rw (kind.associative (y u p) (y p v) (y v w) (omega arith))
          (through_p _ (monotone_right kind (y p w) (kind.sum (y p v) (y v w)) (y u p) (omega arith) (omega (arith, kind.sum_size (y p v) (y v w))) (settled p w inside b)))

      -- from v by p
      second_by : Above (kind.sum (y u v) (kind.sum (y v p) (y p w)))
      second_by =
          let l1 = sized u p a inside in
          let l2 = sized u v a point in
          let l3 = sized v p point inside in
          let l4 = sized p w inside b in
          rw (← (kind.associative (y u v) (y v p) (y p w) (omega arith)))
          (through_p _ (kind.monotone (y u p) (kind.sum (y u v) (y v p)) (y p w) (omega arith) (omega (arith, kind.sum_size (y u v) (y v p))) (settled u p a inside)))

      -- both: the way from p to v and back is above zero
      both_by : Above (kind.sum (kind.sum (y u p) (y p v)) (kind.sum (y v p) (y p w)))
      both_by =
          let l1 = sized u p a inside in
          let l2 = sized p v inside point in
          let l3 = sized v p point inside in
          let l4 = sized p w inside b in
          let q1 = kind.sum_size (y p v) (y v p) in
          let q2 = kind.sum_size (y v p) (y p w) in
          let q3 = kind.sum_size (kind.sum (y p v) (y v p)) (y p w) in
          let raised : kind.at_most (kind.sum kind.zero (y p w)) (kind.sum (kind.sum (y p v) (y v p)) (y p w)) ≡ true = kind.monotone kind.zero (kind.sum (y p v) (y v p)) (y p w) (omega (arith, kind.zero_size)) (omega arith) return_above in
          let raised2 : kind.at_most (y p w) (kind.sum (kind.sum (y p v) (y v p)) (y p w)) ≡ true = subst (λ c. kind.at_most c (kind.sum (kind.sum (y p v) (y v p)) (y p w)) ≡ true) (kind.neutral (y p w) (omega arith)) raised in
          let e : kind.sum (kind.sum (y u p) (y p v)) (kind.sum (y v p) (y p w)) ≡ kind.sum (y u p) (kind.sum (kind.sum (y p v) (y v p)) (y p w)) =
          kind.associative (y u p) (y p v) (kind.sum (y v p) (y p w)) (omega arith) ∙ ap (kind.sum (y u p)) (sym (kind.associative (y p v) (y v p) (y p w) (omega arith))) in
          subst Above (sym e) (through_p _ (monotone_right kind (y p w) (kind.sum (kind.sum (y p v) (y v p)) (y p w)) (y u p) (omega arith) (omega arith) raised2))

      kept_cases : (c d : B) → (c ≡ y u v) ⊎ (c ≡ kind.sum (y u p) (y p v)) → (d ≡ y v w) ⊎ (d ≡ kind.sum (y v p) (y p w)) → Above (kind.sum c d)
      kept_cases c d (inl e) (inl f) = subst₂ (λ a b. Above (kind.sum a b)) (sym e) (sym f) through_v
      kept_cases c d (inl e) (inr f) = subst₂ (λ a b. Above (kind.sum a b)) (sym e) (sym f) second_by
      kept_cases c d (inr e) (inl f) = subst₂ (λ a b. Above (kind.sum a b)) (sym e) (sym f) first_by
      kept_cases c d (inr e) (inr f) = subst₂ (λ a b. Above (kind.sum a b)) (sym e) (sym f) both_by

    kept_settled : Settled kind n (relaxed kind p y) v
    kept_settled u w a b = kept_cases u w a b _ _ (lesser_cases kind (y u v) (kind.sum (y u p) (y p v))) (lesser_cases kind (y v w) (kind.sum (y v p) (y p w)))

module _ {B : Type 0} (kind : Kind B) (n : ℕ) (x : Matrix B) where
  pub progress_same : (r : ℕ) (done : ℕ → Bool) (y z : Matrix B) → Same n y z → Progress kind n x r done y → Progress kind n x r done z
  progress_same r done y z e p =
      record {
        reached = λ j i a b. subst (Reached kind n (2 ^ r) x j i) (e j i a b) (p.reached j i a b);
        below = λ j i a b. subst (λ c. kind.at_most c (x j i) ≡ true) (e j i a b) (p.below j i a b);
        settled = λ v a d. same_settled kind n y z v a e (p.settled v a d);
        still = λ v a d. sym (e v v a a) ∙ p.still v a d;
        loops = λ v a. subst (λ c. kind.at_most c kind.zero ≡ true) (e v v a a) (p.loops v a);
      }

  pub progress_fewer : (r : ℕ) (done less : ℕ → Bool) (y : Matrix B) → ((v : ℕ) → v < n → less v ≡ true → done v ≡ true) → Progress kind n x r done y → Progress kind n x r less y
  progress_fewer r done less y fewer p =
      record { reached = p.reached; below = p.below; settled = λ v a d. p.settled v a (fewer v a d); still = λ v a d. p.still v a (fewer v a d); loops = p.loops }

  pub progress_more_rounds : (r t : ℕ) (done : ℕ → Bool) (y : Matrix B) → r ≤ t → Progress kind n x r done y → Progress kind n x t done y
  progress_more_rounds r t done y le p =
      record { reached = λ j i a b. reached_more kind n (2 ^ r) (2 ^ t) x j i (y j i) (pow-le-pow_right two le) (p.reached j i a b); below = p.below; settled = p.settled; still = p.still; loops = p.loops }

  pub progress_none : (done : ℕ → Bool) → Still kind n x → Sized kind n largest_entry x → ((v : ℕ) → v < n → done v ≡ true → Settled kind n x v) → Progress kind n x 0 done x
  progress_none done still sized settled =
      record {
        reached = λ j i a b. reached_leg kind n largest_entry x sized 1 j i a b (omega arith) (omega arith);
        below = λ j i a b. at_most_same kind (x j i);
        settled = settled;
        still = λ v a d. still v a;
        loops = λ v a. at_most_equal kind (x v v) kind.zero (still v a);
      }

  pub progress_sized : (r : ℕ) (done : ℕ → Bool) (y : Matrix B) → Sized kind n largest_entry x → Progress kind n x r done y → Sized kind n (2 ^ r * largest_entry) y
  progress_sized r done y sized p j i a b = reached_small kind n largest_entry x sized (2 ^ r) j i (y j i) a (p.reached j i a b)

  pub progress_round : (r p : ℕ) (done : ℕ → Bool) (y z : Matrix B) → r < most_points → Sized kind n largest_entry x → Progress kind n x r done y → p < n → kind.at_most kind.zero (y p p) ≡ true → Same n z (relaxed kind p y) → Progress kind n x (suc r) (λ v. eqb v p || done v) z
  progress_round r p done y z few sized h inside above same = progress_same (suc r) (λ v. eqb v p || done v) (relaxed kind p y) z (same_back kind n z (relaxed kind p y) same) whole
    where
      t : ℕ
      t = 2 ^ r * largest_entry

      power : 2 ^ r ≤ 2 ^ 12
      power = let le : r ≤ 12 = omega arith in pow-le-pow_right two le

      small : t + t + t + t ≤ largest_size
      small = omega (arith, power)

      sy : Sized kind n t y
      sy = progress_sized r done y sized h

      fixed : y p p ≡ kind.zero
      fixed = kind.antisymmetric (y p p) kind.zero (h.loops p inside) above

      double : 2 ^ r + 2 ^ r ≡ 2 ^ suc r
      double = omega (arith, pow-succ' 2 r)

      cell : (j i : ℕ) → j < n → i < n → Reached kind n (2 ^ suc r) x j i (relaxed kind p y j i)
      cell j i a b =
          ⊎_elim
          (λ e. subst (Reached kind n (2 ^ suc r) x j i) (sym e) (reached_more kind n (2 ^ r) (2 ^ suc r) x j i (y j i) (omega (arith, double)) (h.reached j i a b)))
          (λ e. subst₂ (λ m c. Reached kind n m x j i c) double (sym e) (reached_append kind n largest_entry x sized (2 ^ r) (2 ^ r) j p i (y j p) (y p i) a inside (omega (arith, power)) (h.reached j p a inside) (h.reached p i inside b)))
          (lesser_cases kind (y j i) (kind.sum (y j p) (y p i)))

      settles : (v : ℕ) → v < n → (eqb v p || done v) ≡ true → Settled kind n (relaxed kind p y) v
      settles v a d =
          ⊎_elim
          (λ e. subst (Settled kind n (relaxed kind p y)) (sym (eqb-true v p e)) (point_settled kind n t y sy small p inside fixed))
          (λ e. kept_settled kind n t y sy small p inside fixed v a (h.settled v a e) (h.still v a e))
          (or_cases (eqb v p) (done v) d)

      stays : (v : ℕ) → v < n → (eqb v p || done v) ≡ true → relaxed kind p y v v ≡ kind.zero
      stays v a d =
          ⊎_elim
          (λ e. subst (λ u. relaxed kind p y u u ≡ kind.zero) (sym (eqb-true v p e)) (to_point kind n t y sy small p inside fixed p inside ∙ fixed))
          (λ e. kept_still kind n t y sy small p inside fixed v a (h.settled v a e) (h.still v a e))
          (or_cases (eqb v p) (done v) d)

      whole : Progress kind n x (suc r) (λ v. eqb v p || done v) (relaxed kind p y)
      whole =
          record {
            reached = cell;
            below = λ j i a b. kind.transitive _ (y j i) _ (lesser_left kind (y j i) (kind.sum (y j p) (y p i))) (h.below j i a b);
            settled = settles;
            still = stays;
            loops = λ v a. kind.transitive _ (y v v) _ (lesser_left kind (y v v) (kind.sum (y v p) (y p v))) (h.loops v a);
          }

  -- every bound of y is above a walk of at most n legs, unless there is a negative walk
  cut_short : (r : ℕ) (done : ℕ → Bool) (y : Matrix B) → n ≤ most_points → r ≤ most_points → Sized kind n largest_entry x → (h : Progress kind n x r done y) → (j i : ℕ) (a : j < n) (b : i < n) → Negative kind n x ⊎ Shorter kind n x j (walk_end j (h.reached j i a b).legs) (walk_sum kind x j (h.reached j i a b).legs)
  cut_short r done y points few sized h j i a b =
      let w = (h.reached j i a b).walk in
      let power : 2 ^ r ≤ 2 ^ 13 = pow-le-pow_right two few in
      shortened kind n largest_entry x sized (omega arith) j (h.reached j i a b).legs a w.inside (omega (arith, w.few, power))

  pub progress_negative : (r p : ℕ) (done : ℕ → Bool) (y : Matrix B) → n ≤ most_points → r ≤ most_points → Sized kind n largest_entry x → Progress kind n x r done y → p < n → kind.at_most kind.zero (y p p) ≡ false → Negative kind n x
  progress_negative r p done y points few sized h inside below =
      ⊎_elim
      (λ m. m)
      (λ w. record { at = p; point = inside; legs = w.legs; closed = record { inside = w.walk.inside; few = w.walk.few; ends = w.walk.ends ∙ (h.reached p p inside inside).walk.ends }; below = below_false kind kind.zero (walk_sum kind x p w.legs) (y p p) (subst (λ b. kind.at_most (walk_sum kind x p w.legs) b ≡ true) (sym (h.reached p p inside inside).sum) w.less) below })
      (cut_short r done y points few sized h p p inside inside)

  pub progress_normal : (r : ℕ) (done : ℕ → Bool) (y : Matrix B) → n ≤ most_points → r ≤ most_points → Sized kind n largest_entry x → Progress kind n x r done y → ((v : ℕ) → v < n → done v ≡ true) → Finished kind n x y
  progress_normal r done y points few sized h all = record { normal = record { reached = reached; least = least }; closed = closed; none = none }
    where
      power : 2 ^ r ≤ 2 ^ 13
      power = pow-le-pow_right two few

      closed : Closed kind n y
      closed = record { still = λ v a. h.still v a (all v a); settled = λ v a. h.settled v a (all v a) }

      least : (j i : ℕ) (legs : List ℕ) → j < n → i < n → Walk n n j i legs → kind.at_most (y j i) (walk_sum kind x j legs) ≡ true
      least j i legs a b walk =
          subst (λ v. kind.at_most (y j v) (walk_sum kind x j legs) ≡ true) walk.ends
          (closed_least kind n largest_entry (2 ^ r * largest_entry) x y sized (progress_sized r done y sized h) (omega arith) (omega (arith, power)) (omega (arith, power)) closed h.below j legs a walk.inside walk.few)

      none : Negative kind n x → ⊥
      none m =
          let up : kind.at_most kind.zero (walk_sum kind x m.at m.legs) ≡ true = subst (λ b. kind.at_most b (walk_sum kind x m.at m.legs) ≡ true) (closed.still m.at m.point) (least m.at m.at m.legs m.point m.point m.closed) in
          true≢false (sym up ∙ m.below)

      reached : (j i : ℕ) → j < n → i < n → Reached kind n n x j i (y j i)
      reached j i a b =
          let r0 = h.reached j i a b in
          ⊎_elim
          (λ m. absurd (none m))
          (λ w.
          let walk : Walk n n j i w.legs = record { inside = w.walk.inside; few = w.walk.few; ends = w.walk.ends ∙ r0.walk.ends } in
          record { legs = w.legs; walk = walk; sum = kind.antisymmetric (y j i) (walk_sum kind x j w.legs) (least j i w.legs a b walk) (subst (λ c. kind.at_most (walk_sum kind x j w.legs) c ≡ true) (sym r0.sum) w.less) })
          (cut_short r done y points few sized h j i a b)

  -- the first k points are done
  record Stage (k : ℕ) : Type 0 where
    done : ℕ → Bool
    form : Matrix B
    progress : Progress kind n x k done form
    covers : (v : ℕ) → v < k → done v ≡ true

  covers_more : (k : ℕ) (done : ℕ → Bool) → ((v : ℕ) → v < k → done v ≡ true) → (v : ℕ) → v < suc k → (eqb v k || done v) ≡ true
  covers_more k done c v h =
      ⊎_elim
      (λ e. or_left (eqb v k) (done v) e)
      (λ e. or_right (eqb v k) (done v) (c v (omega (arith, eqb-false v k e))))
      (cases_Bool (eqb v k))

  stage_more : (k : ℕ) → n ≤ most_points → Sized kind n largest_entry x → k < n → Stage k → Negative kind n x ⊎ Stage (suc k)
  stage_more k points sized inside s =
      ⊎_elim
      (λ e. inr (record { done = λ v. eqb v k || s.done v; form = relaxed kind k s.form; progress = progress_round k k s.done s.form (relaxed kind k s.form) (omega arith) sized s.progress inside e (λ j i a b. refl); covers = covers_more k s.done s.covers }))
      (λ e. inl (progress_negative k k s.done s.form points (omega arith) sized s.progress inside e))
      (cases_Bool (kind.at_most kind.zero (s.form k k)))

  stage : n ≤ most_points → Sized kind n largest_entry x → Still kind n x → (k : ℕ) → k ≤ n → Negative kind n x ⊎ Stage k
  stage points sized still zero le =
      inr (record { done = λ v. false; form = x; progress = progress_none (λ v. false) still sized (λ v a e. absurd (false≢true e)); covers = λ v a. absurd (omega arith) })
  stage points sized still (suc k) le = ⊎_elim inl (stage_more k points sized le) (stage points sized still k (omega arith))

  pub form_exists : n ≤ most_points → Sized kind n largest_entry x → Still kind n x → Negative kind n x ⊎ Formed kind n x
  form_exists points sized still =
      ⊎_elim
      inl
      (λ s. inr (record { form = s.form; normal = (progress_normal n s.done s.form points points sized s.progress s.covers).normal }))
      (stage points sized still n (omega arith))

pub normal_forms_keep_laws : {B : Type 0} (kind : Kind B) → NormalFormLaws kind
normal_forms_keep_laws kind =
    record {
      exists = λ n x points sized still. form_exists kind n x points sized still;
      unique = normal_unique kind;
      to_form = to_form kind;
      from_form = from_form kind;
      none = none_allowed kind;
    }
