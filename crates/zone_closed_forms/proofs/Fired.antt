-- The firing predecessor of a listed zone in closed form, or none.
use Rattle.std.proofs.Common.{◌≡◌, ℕ, zero, suc, ◌+◌, ◌-◌, ◌^◌, ◌<◌, ◌≤◌, true, false, cond, ◌&&◌, eqb, ltb, ◌⊎◌, List, [], ◌∷◌, length, get_or, Some, None, Option, sym, refl, ap, ◌∙◌, ⊎_elim, arith}
use Rattle.std.proofs.lemmas.Bool.{cases_lt, cond-true, cond-false, cond_both, eqb-true, eq-eqb, ne_eqb, lt-ltb, le-ltb, and_from, and_left, and_right}
use Rattle.bounds.specs.Kinds.{Kind}
use Rattle.nets.specs.Nets.{Arc, ArcLimits, Every, RangeLimits, Transition, TransitionLimits}
use Rattle.zone_walks.specs.Walks.{Matrix, lesser, counted}
use Rattle.zone_walks.proofs.Sums.{zero_after}
use Rattle.zones.specs.Predecessors.{staying, picked, narrowed_by, matches}
use Rattle.zones.specs.Zones.{Zone, points}
use Rattle.zone_cells.specs.Cells.{arc_at}
use Rattle.zone_cells.proofs.Steps.{Good, Added, to_clock, from_clock, range_sizes, matches_below, staying_inside, firing_predecessor, firing_good}
use Rattle.zone_closed_forms.specs.ClosedForms.{ClockRows, by_clock, spread, kept_closed, narrowed_from, fired_zone}
use Rattle.zone_cells.specs.Drafts.{PageFormed}
use Rattle.zone_closed_forms.specs.Laws.{FiringForm, FiringFormOr}
use Rattle.zone_closed_forms.proofs.Greatest.{Consistent}
use Rattle.zone_closed_forms.proofs.Laid.{Laid, shortest, shortest_still, shortest_to, shortest_from}
use Rattle.zone_closed_forms.proofs.Narrowing.{Exact, ExactOr}
use Rattle.zone_closed_forms.proofs.Narrowed.{listed_good, exact_or, exact_consistent, exact_negative}

every_arc : {X : Type 0} (P : X → Type 0) (xs : List X) (i : ℕ) (d : X) → Every P xs → i < length xs → P (get_or xs i d)
every_arc P [] i d h k = absurd (omega arith)
every_arc P (x ∷ xs) zero d h k = h.0
every_arc P (x ∷ xs) (suc i) d h k = every_arc P xs i d h.1 (omega arith)

module _ {B : Type 0} (kind : Kind B) where
  -- ---- the points that stay, and behind them the arcs' tokens
  module _ (n : ℕ) (some : 1 ≤ n) (x : Matrix B) (g : Good kind n (2 ^ 22) x) (rows : ClockRows B) (h : Laid kind n x rows) (stay : List ℕ) (inside : (j : ℕ) → get_or (0 ∷ stay) j 0 < n) (places : ℕ) (arcs : List (Arc B)) (limits : Every (ArcLimits kind places) arcs) where
    abbrev kept : List ℕ
    kept = 0 ∷ stay

    abbrev m : ℕ
    m = suc (length stay)

    abbrev now : ClockRows B
    now = spread kind (0 ∷ stay) arcs rows

    abbrev off : Matrix B
    off = picked (0 ∷ stay) (shortest kind x rows)

    abbrev y : Matrix B
    y = kept_closed kind x (0 ∷ stay) (spread kind (0 ∷ stay) arcs rows)

    arc_limits : (j : ℕ) → m ≤ j → j < m + length arcs → RangeLimits kind (arc_at kind arcs (j - m)).range
    arc_limits j a b = (every_arc (ArcLimits kind places) arcs (j - m) _ limits (omega arith)).range

    -- ---- the rows
    up_old : (j : ℕ) → j < m → now.up j ≡ rows.up (get_or kept j 0)
    up_old j l = cond-true (ltb j m) (rows.up (get_or kept j 0)) _ (lt-ltb j m l)

    low_old : (k : ℕ) → k < m → now.low k ≡ rows.low (get_or kept k 0)
    low_old k l = cond-true (ltb k m) (rows.low (get_or kept k 0)) _ (lt-ltb k m l)

    up_is : (j : ℕ) → now.up j ≡ to_clock kind m arcs off j
    up_is j = ap (λ b. cond (ltb j m) b (arc_at kind arcs (j - m)).range.upper) (sym (shortest_to kind n some x g rows h (get_or kept j 0) (inside j)))

    low_is : (k : ℕ) → now.low k ≡ from_clock kind m arcs off k
    low_is k = ap (λ b. cond (ltb k m) b (arc_at kind arcs (k - m)).range.lower) (sym (shortest_from kind n some x g rows h (get_or kept k 0) (inside k)))

    up_small : (j : ℕ) → j < m + length arcs → kind.size (now.up j) ≤ 2 ^ 23
    up_small j l =
        ⊎_elim
        (λ a. omega (arith, ap kind.size (up_old j a), h.up_sized (get_or kept j 0) (inside j)))
        (λ a. omega (arith, ap kind.size (cond-false (ltb j m) (rows.up (get_or kept j 0)) (arc_at kind arcs (j - m)).range.upper (le-ltb j m a)), (range_sizes kind _ (arc_limits j a l)).1))
        (cases_lt j m)

    low_small : (k : ℕ) → k < m + length arcs → kind.size (now.low k) ≤ 2 ^ 23
    low_small k l =
        ⊎_elim
        (λ a. omega (arith, ap kind.size (low_old k a), h.low_sized (get_or kept k 0) (inside k)))
        (λ a. omega (arith, ap kind.size (cond-false (ltb k m) (rows.low (get_or kept k 0)) (arc_at kind arcs (k - m)).range.lower (le-ltb k m a)), (range_sizes kind _ (arc_limits k a l)).0))
        (cases_lt k m)

    up_start : now.up 0 ≡ kind.zero
    up_start = up_old 0 (omega arith) ∙ h.up_first

    low_start : now.low 0 ≡ kind.zero
    low_start = low_old 0 (omega arith) ∙ h.low_first

    -- ---- between points that stay
    old : (j i : ℕ) → j < m → i < m → y j i ≡ off j i
    old j i a b =
        cond_both (eqb j i) _ _ (λ c. c ≡ off j i) (λ e. sym (shortest_still kind n some x g rows h (get_or kept j 0) (inside j)) ∙ ap (off j) (eqb-true j i e))
        (λ _. cond_both (eqb j 0) _ _ (λ c. c ≡ off j i) (λ e. low_old i b ∙ sym (shortest_from kind n some x g rows h (get_or kept i 0) (inside i)) ∙ ap (λ v. off v i) (sym (eqb-true j 0 e)))
        (λ _. cond_both (eqb i 0) _ _ (λ c. c ≡ off j i) (λ e. up_old j a ∙ sym (shortest_to kind n some x g rows h (get_or kept j 0) (inside j)) ∙ ap (off j) (sym (eqb-true i 0 e)))
        (λ _. cond-true (ltb j m && ltb i m) _ _ (and_from (ltb j m) (ltb i m) (lt-ltb j m a) (lt-ltb i m b))
        ∙ ap (λ c. lesser kind (x (get_or kept j 0) (get_or kept i 0)) (kind.sum c (now.low i))) (up_old j a)
        ∙ ap (λ c. lesser kind (x (get_or kept j 0) (get_or kept i 0)) (kind.sum (rows.up (get_or kept j 0)) c)) (low_old i b))))

    -- ---- to or from an arc's token
    not_both : (j i : ℕ) → (m ≤ j) ⊎ (m ≤ i) → (ltb j m && ltb i m) ≡ false
    not_both j i new = ⊎_elim (λ a. and_left (ltb j m) (ltb i m) (le-ltb j m a)) (λ a. and_right (ltb j m) (ltb i m) (le-ltb i m a)) new

    by_clock_from : (i : ℕ) → i < m + length arcs → by_clock kind now 0 i ≡ now.low i
    by_clock_from i b = ap (λ c. kind.sum c (now.low i)) up_start ∙ kind.neutral (now.low i) (omega (arith, low_small i b))

    by_clock_to : (j : ℕ) → j < m + length arcs → by_clock kind now j 0 ≡ now.up j
    by_clock_to j a = ap (kind.sum (now.up j)) low_start ∙ zero_after kind (now.up j) (omega (arith, up_small j a))

    new : (j i : ℕ) → j < m + length arcs → i < m + length arcs → (j ≡ i → ⊥) → (m ≤ j) ⊎ (m ≤ i) → y j i ≡ by_clock kind now j i
    new j i a b apart either =
        cond-false (eqb j i) kind.zero _ (ne_eqb j i apart)
        ∙ cond_both (eqb j 0) _ _ (λ c. c ≡ by_clock kind now j i) (λ e. sym (by_clock_from i b) ∙ ap (λ v. by_clock kind now v i) (sym (eqb-true j 0 e)))
        (λ _. cond_both (eqb i 0) _ _ (λ c. c ≡ by_clock kind now j i) (λ e. sym (by_clock_to j a) ∙ ap (by_clock kind now j) (sym (eqb-true i 0 e)))
        (λ _. cond-false (ltb j m && ltb i m) _ (by_clock kind now j i) (not_both j i either)))

    pub kept_added : Added kind (suc (length stay)) arcs (length arcs) (picked (0 ∷ stay) (shortest kind x rows)) (kept_closed kind x (0 ∷ stay) (spread kind (0 ∷ stay) arcs rows))
    kept_added =
        record {
          old = old;
          still = λ j a. cond-true (eqb j j) kind.zero _ (eq-eqb j j refl);
          new = λ j i a b apart either. new j i a b apart either ∙ ap (λ c. kind.sum c (now.low i)) (up_is j) ∙ ap (kind.sum (to_clock kind m arcs off j)) (low_is i);
        }

  -- ---- a firing
  module _ (places : ℕ) (t : Transition B) (matching : List ℕ) (z : Zone B) (h : PageFormed kind z) (limits : TransitionLimits kind places t) (matched : matches z.places t.outputs matching ≡ true) where
    inside : Every (λ d. d < points z) matching
    inside = matches_below z.places t.outputs matching matched

    fired : (rows : ClockRows B) → Exact kind (points z) z.bound (narrowed_by kind t.outputs matching z.bound) rows → FiringForm kind t matching z (fired_zone kind t matching z rows)
    fired rows e =
        record {
          is = firing_predecessor kind t matching z places h.few good limits matched narrow c.normal c.none y added;
          small = (firing_good kind t matching z places h.few good limits matched narrow c.normal c.none y added).sized;
        }
      where
        good : Good kind (points z) (2 ^ 22) z.bound
        good = listed_good kind z h

        narrow : Matrix B
        narrow = shortest kind z.bound rows

        c : Consistent kind (points z) (counted kind (narrowed_by kind t.outputs matching z.bound)) (shortest kind z.bound rows)
        c = exact_consistent kind z h places t.outputs matching limits.outputs inside rows e

        y : Matrix B
        y = kept_closed kind z.bound (0 ∷ staying matching z) (spread kind (0 ∷ staying matching z) t.inputs rows)

        added : Added kind (suc (length (staying matching z))) t.inputs (length t.inputs) (picked (0 ∷ staying matching z) (shortest kind z.bound rows)) (kept_closed kind z.bound (0 ∷ staying matching z) (spread kind (0 ∷ staying matching z) t.inputs rows))
        added = kept_added (points z) (omega arith) z.bound good rows e.laid (staying matching z) (staying_inside matching z) places t.inputs limits.inputs

    fired_or : (o : Option (ClockRows B)) → ExactOr kind (points z) z.bound (narrowed_by kind t.outputs matching z.bound) o → FiringFormOr kind t matching z o
    fired_or None e = exact_negative kind z h places t.outputs matching limits.outputs inside e
    fired_or (Some rows) e = fired rows e

    pub fired_form : FiringFormOr kind t matching z (narrowed_from kind t.outputs matching z.bound)
    fired_form = fired_or (narrowed_from kind t.outputs matching z.bound) (exact_or kind z h places t.outputs matching limits.outputs inside)
