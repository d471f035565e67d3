-- Narrowing token after token: the rows stay laid, and the closed form over them is the greatest closed matrix below what is narrowed.
use Rattle.std.proofs.Common.{◌≡◌, ℕ, zero, suc, ◌^◌, ◌<◌, ◌≤◌, true, false, ◌&&◌, eqb, List, [], ◌∷◌, Some, None, Option, sym, refl, ap, ◌∙◌, subst, subst₂, ⊎_elim, arith}
use Rattle.std.proofs.lemmas.Bool.{cond-true, cond-false, cond_both, eqb-true, and_from, and_left, and_parts, eq-eqb, ne_eqb, or_parts, or_cases, not-true, not-false, true≢false}
use Rattle.bounds.specs.Kinds.{Kind}
use Rattle.bounds.specs.declared.range.Range.{Range}
use Rattle.nets.specs.Nets.{Arc, ArcLimits, Every, RangeLimits}
use Rattle.zone_walks.specs.Walks.{Matrix, lesser}
use Rattle.zone_walks.proofs.Closed.{Below}
use Rattle.zone_walks.proofs.Lessers.{at_most_same, lesser_cases, lesser_left, lesser_right, lesser_greatest, lesser_size, lesser_is_left}
use Rattle.zone_walks.proofs.Sums.{zero_after, monotone_right}
use Rattle.zones.specs.Predecessors.{narrowed, narrowed_by}
use Rattle.zone_cells.proofs.Steps.{Good, range_sizes, narrow_below}
use Rattle.zone_closed_forms.specs.ClosedForms.{ClockRows, begun, by_clock, crossed, narrowed_rows, all_narrowed}
use Rattle.zone_closed_forms.proofs.Greatest.{ClosedBelow}
use Rattle.zone_closed_forms.proofs.Laid.{Laid, shortest, shortest_to, shortest_from}
use Rattle.zone_closed_forms.proofs.Shorter.{Under, longer_after, longer_before, longer_between}

-- the closed form over the rows is the greatest closed matrix below w
pub record Exact {B : Type 0} (kind : Kind B) (n : ℕ) (x w : Matrix B) (rows : ClockRows B) : Type 0 where
  pub laid : Laid kind n x rows
  pub narrower : Below kind n w x
  pub below : Below kind n (shortest kind x rows) w
  pub up_least : (y : Matrix B) → ClosedBelow kind n w y → (j : ℕ) → j < n → kind.at_most (y j 0) (rows.up j) ≡ true
  pub low_least : (y : Matrix B) → ClosedBelow kind n w y → (k : ℕ) → k < n → kind.at_most (y 0 k) (rows.low k) ≡ true

-- the same of the rows that narrowing answers; none where nothing closed is below w
abbrev pub ExactOr : {B : Type 0} → Kind B → ℕ → Matrix B → Matrix B → Option (ClockRows B) → Type 0
ExactOr {B = B} kind n x w None = (y : Matrix B) → ClosedBelow kind n w y → ⊥
ExactOr kind n x w (Some rows) = Exact kind n x w rows

module _ {B : Type 0} (kind : Kind B) (n : ℕ) (some : 1 ≤ n) (x : Matrix B) (g : Good kind n (2 ^ 22) x) where
  begun_laid : Laid kind n x (begun x)
  begun_laid =
      record {
        up_sized = λ j l. omega (arith, g.sized j 0 l some);
        low_sized = λ k l. omega (arith, g.sized 0 k some l);
        up_first = g.closed.still 0 some;
        low_first = g.closed.still 0 some;
        up_below = λ j l. at_most_same kind (x j 0);
        low_below = λ k l. at_most_same kind (x 0 k);
        up_way = λ j i a b. g.closed.settled i b j 0 a some;
        low_way = λ i k a b. g.closed.settled i a 0 k some b;
        back = λ i l. subst (λ z. Under kind z (kind.sum (x 0 i) (x i 0))) (g.closed.still 0 some) (g.closed.settled i l 0 0 some some);
      }

  pub begun_exact : Exact kind n x x (begun x)
  begun_exact =
      record {
        laid = begun_laid;
        narrower = λ j k a b. at_most_same kind (x j k);
        below = λ j k a b. lesser_left kind (x j k) (by_clock kind (begun x) j k);
        up_least = λ y c j l. c.below j 0 l some;
        low_least = λ y c k l. c.below 0 k some l;
      }

  -- ---- one token
  module _ (t : ℕ) (token : t < n) (range : Range B) (limits : RangeLimits kind range) (rows : ClockRows B) (h : Laid kind n x rows) (lower_fits : kind.at_most kind.zero (kind.sum range.lower (rows.up t)) ≡ true) (upper_fits : kind.at_most kind.zero (kind.sum (rows.low t) range.upper) ≡ true) where
    abbrev next : ClockRows B
    next = narrowed_rows kind x t range rows

    lower_size : kind.size range.lower ≤ 32767
    lower_size = (range_sizes kind range limits).0

    upper_size : kind.size range.upper ≤ 32767
    upper_size = (range_sizes kind range limits).1

    up_next : (j : ℕ) → kind.at_most (next.up j) (rows.up j) ≡ true
    up_next j = lesser_left kind (rows.up j) (kind.sum (x j t) range.upper)

    up_token : (j : ℕ) → kind.at_most (next.up j) (kind.sum (x j t) range.upper) ≡ true
    up_token j = lesser_right kind (rows.up j) (kind.sum (x j t) range.upper)

    low_next : (k : ℕ) → kind.at_most (next.low k) (rows.low k) ≡ true
    low_next k = lesser_left kind (rows.low k) (kind.sum range.lower (x t k))

    low_token : (k : ℕ) → kind.at_most (next.low k) (kind.sum range.lower (x t k)) ≡ true
    low_token k = lesser_right kind (rows.low k) (kind.sum range.lower (x t k))

    -- the clock's own bound stays zero, also as a way through the token
    up_start : next.up 0 ≡ kind.zero
    up_start =
        let le : Under kind (kind.sum (rows.low t) range.upper) (kind.sum (x 0 t) range.upper) = kind.monotone (rows.low t) (x 0 t) range.upper (omega (arith, h.low_sized t token, upper_size)) (omega (arith, g.sized 0 t some token, upper_size)) (h.low_below t token) in
        lesser_is_left kind (rows.up 0) (kind.sum (x 0 t) range.upper) (subst (λ z. Under kind z (kind.sum (x 0 t) range.upper)) (sym h.up_first) (kind.transitive kind.zero _ _ upper_fits le)) ∙ h.up_first

    low_start : next.low 0 ≡ kind.zero
    low_start =
        let le : Under kind (kind.sum range.lower (rows.up t)) (kind.sum range.lower (x t 0)) = monotone_right kind (rows.up t) (x t 0) range.lower (omega (arith, h.up_sized t token, lower_size)) (omega (arith, g.sized t 0 token some, lower_size)) (h.up_below t token) in
        lesser_is_left kind (rows.low 0) (kind.sum range.lower (x t 0)) (subst (λ z. Under kind z (kind.sum range.lower (x t 0))) (sym h.low_first) (kind.transitive kind.zero _ _ lower_fits le)) ∙ h.low_first

    up_next_way : (j i : ℕ) → j < n → i < n → kind.at_most (next.up j) (kind.sum (x j i) (next.up i)) ≡ true
    up_next_way j i a b =
        ⊎_elim
        (λ e. subst (λ c. Under kind (next.up j) (kind.sum (x j i) c)) (sym e) (kind.transitive _ (rows.up j) _ (up_next j) (h.up_way j i a b)))
        (λ e. subst (λ c. Under kind (next.up j) (kind.sum (x j i) c)) (sym e) (kind.transitive _ (kind.sum (x j t) range.upper) _ (up_token j)
        (longer_after kind (x j i) (x i t) (x j t) range.upper (omega (arith, g.sized j i a b)) (omega (arith, g.sized i t b token)) (omega (arith, g.sized j t a token)) (omega (arith, upper_size)) (g.closed.settled i b j t a token))))
        (lesser_cases kind (rows.up i) (kind.sum (x i t) range.upper))

    low_next_way : (i k : ℕ) → i < n → k < n → kind.at_most (next.low k) (kind.sum (next.low i) (x i k)) ≡ true
    low_next_way i k a b =
        ⊎_elim
        (λ e. subst (λ c. Under kind (next.low k) (kind.sum c (x i k))) (sym e) (kind.transitive _ (rows.low k) _ (low_next k) (h.low_way i k a b)))
        (λ e. subst (λ c. Under kind (next.low k) (kind.sum c (x i k))) (sym e) (kind.transitive _ (kind.sum range.lower (x t k)) _ (low_token k)
        (longer_before kind range.lower (x t i) (x i k) (x t k) (omega (arith, lower_size)) (omega (arith, g.sized t i token a)) (omega (arith, g.sized i k a b)) (omega (arith, g.sized t k token b)) (g.closed.settled i a t k token b))))
        (lesser_cases kind (rows.low i) (kind.sum range.lower (x t i)))

    -- from the clock to a point and back, with either leg as before or through the token
    module _ (i : ℕ) (inside : i < n) where
      abbrev Returns : B → B → Type 0
      Returns a b = Under kind kind.zero (kind.sum a b)

      back_upper : Returns (rows.low i) (kind.sum (x i t) range.upper)
      back_upper =
          kind.transitive kind.zero _ _ upper_fits
          (longer_after kind (rows.low i) (x i t) (rows.low t) range.upper (omega (arith, h.low_sized i inside)) (omega (arith, g.sized i t inside token)) (omega (arith, h.low_sized t token)) (omega (arith, upper_size)) (h.low_way i t inside token))

      back_lower : Returns (kind.sum range.lower (x t i)) (rows.up i)
      back_lower =
          kind.transitive kind.zero _ _ lower_fits
          (longer_before kind range.lower (x t i) (rows.up i) (rows.up t) (omega (arith, lower_size)) (omega (arith, g.sized t i token inside)) (omega (arith, h.up_sized i inside)) (omega (arith, h.up_sized t token)) (h.up_way t i token inside))

      back_range : Returns (kind.sum range.lower (x t i)) (kind.sum (x i t) range.upper)
      back_range =
          let ends : Returns range.lower range.upper = subst (Under kind kind.zero) (kind.commutative range.upper range.lower (omega (arith, lower_size, upper_size))) limits.sum in
          let round : Returns (x t i) (x i t) = subst (λ z. Under kind z (kind.sum (x t i) (x i t))) (g.closed.still t token) (g.closed.settled i inside t t token token) in
          kind.transitive kind.zero _ _ ends
          (longer_between kind range.lower (x t i) (x i t) range.upper (omega (arith, lower_size)) (omega (arith, g.sized t i token inside)) (omega (arith, g.sized i t inside token)) (omega (arith, upper_size)) round)

      back_next : Returns (next.low i) (next.up i)
      back_next =
          ⊎_elim
          (λ e. subst (λ c. Returns c (next.up i)) (sym e) (second (rows.low i) (h.back i inside) back_upper))
          (λ e. subst (λ c. Returns c (next.up i)) (sym e) (second (kind.sum range.lower (x t i)) back_lower back_range))
          (lesser_cases kind (rows.low i) (kind.sum range.lower (x t i)))
        where
          second : (d : B) → Returns d (rows.up i) → Returns d (kind.sum (x i t) range.upper) → Returns d (next.up i)
          second d p q = ⊎_elim (λ e. subst (Returns d) (sym e) p) (λ e. subst (Returns d) (sym e) q) (lesser_cases kind (rows.up i) (kind.sum (x i t) range.upper))

    pub next_laid : Laid kind n x next
    next_laid =
        record {
          up_sized = λ j l. lesser_size kind (rows.up j) (kind.sum (x j t) range.upper) (2 ^ 23) (h.up_sized j l) (omega (arith, kind.sum_size (x j t) range.upper, g.sized j t l token, upper_size));
          low_sized = λ k l. lesser_size kind (rows.low k) (kind.sum range.lower (x t k)) (2 ^ 23) (h.low_sized k l) (omega (arith, kind.sum_size range.lower (x t k), g.sized t k token l, lower_size));
          up_first = up_start;
          low_first = low_start;
          up_below = λ j l. kind.transitive _ (rows.up j) _ (up_next j) (h.up_below j l);
          low_below = λ k l. kind.transitive _ (rows.low k) _ (low_next k) (h.low_below k l);
          up_way = up_next_way;
          low_way = low_next_way;
          back = back_next;
        }

  -- ---- one token of an arc, and what is narrowed by it
  module _ (a : Arc B) (d : ℕ) (w : Matrix B) where
    one_below : Below kind n (narrowed kind (suc d) a.range w) w
    one_below = narrow_below kind n (a ∷ []) (suc d ∷ []) w

    one_upper : narrowed kind (suc d) a.range w (suc d) 0 ≡ lesser kind (w (suc d) 0) a.range.upper
    one_upper = cond-true (eqb (suc d) (suc d) && eqb 0 0) _ _ (and_from (eqb (suc d) (suc d)) (eqb 0 0) (eq-eqb (suc d) (suc d) refl) (eq-eqb 0 0 refl))

    one_lower : narrowed kind (suc d) a.range w 0 (suc d) ≡ lesser kind (w 0 (suc d)) a.range.lower
    one_lower =
        cond-false (eqb 0 (suc d) && eqb (suc d) 0) _ _ (and_left (eqb 0 (suc d)) (eqb (suc d) 0) (ne_eqb 0 (suc d) (λ e. omega arith)))
        ∙ cond-true (eqb 0 0 && eqb (suc d) (suc d)) _ _ (and_from (eqb 0 0) (eqb (suc d) (suc d)) (eq-eqb 0 0 refl) (eq-eqb (suc d) (suc d) refl))

    module _ (token : suc d < n) (limits : RangeLimits kind a.range) (rows : ClockRows B) (h : Exact kind n x w rows) where
      wider : (y : Matrix B) → ClosedBelow kind n (narrowed kind (suc d) a.range w) y → ClosedBelow kind n w y
      wider y c = record { closed = c.closed; below = λ j k p q. kind.transitive _ (narrowed kind (suc d) a.range w j k) _ (c.below j k p q) (one_below j k p q); sized = c.sized }

      module _ (y : Matrix B) (c : ClosedBelow kind n (narrowed kind (suc d) a.range w) y) where
        under_upper : kind.at_most (y (suc d) 0) a.range.upper ≡ true
        under_upper = kind.transitive _ _ _ (subst (Under kind (y (suc d) 0)) one_upper (c.below (suc d) 0 token some)) (lesser_right kind (w (suc d) 0) a.range.upper)

        under_lower : kind.at_most (y 0 (suc d)) a.range.lower ≡ true
        under_lower = kind.transitive _ _ _ (subst (Under kind (y 0 (suc d))) one_lower (c.below 0 (suc d) some token)) (lesser_right kind (w 0 (suc d)) a.range.lower)

        -- through the token
        under_way : (j i k : ℕ) (p q : B) → j < n → i < n → k < n → kind.size p ≤ 2 ^ 30 → kind.size q ≤ 2 ^ 30 → kind.at_most (y j i) p ≡ true → kind.at_most (y i k) q ≡ true → kind.at_most (y j k) (kind.sum p q) ≡ true
        under_way j i k p q lj li lk sp sq le me =
            kind.transitive _ (kind.sum (y j i) (y i k)) _ (c.closed.settled i li j k lj lk)
            (kind.transitive _ (kind.sum p (y i k)) _
            (kind.monotone (y j i) p (y i k) (omega (arith, c.sized j i lj li, c.sized i k li lk)) (omega (arith, c.sized i k li lk)) le)
            (monotone_right kind (y i k) q p (omega (arith, c.sized i k li lk)) (omega arith) me))

        under_x : (j k : ℕ) → j < n → k < n → kind.at_most (y j k) (x j k) ≡ true
        under_x j k p q = kind.transitive _ (w j k) _ ((wider y c).below j k p q) (h.narrower j k p q)

        next_up_least : (j : ℕ) → j < n → kind.at_most (y j 0) ((narrowed_rows kind x (suc d) a.range rows).up j) ≡ true
        next_up_least j l =
            lesser_greatest kind (rows.up j) (kind.sum (x j (suc d)) a.range.upper) (y j 0) (h.up_least y (wider y c) j l)
            (under_way j (suc d) 0 (x j (suc d)) a.range.upper l token some (omega (arith, g.sized j (suc d) l token)) (omega (arith, (range_sizes kind a.range limits).1)) (under_x j (suc d) l token) under_upper)

        next_low_least : (k : ℕ) → k < n → kind.at_most (y 0 k) ((narrowed_rows kind x (suc d) a.range rows).low k) ≡ true
        next_low_least k l =
            lesser_greatest kind (rows.low k) (kind.sum a.range.lower (x (suc d) k)) (y 0 k) (h.low_least y (wider y c) k l)
            (under_way 0 (suc d) k a.range.lower (x (suc d) k) some token l (omega (arith, (range_sizes kind a.range limits).0)) (omega (arith, g.sized (suc d) k token l)) under_lower (under_x (suc d) k token l))

        round_lower : kind.at_most kind.zero (kind.sum a.range.lower (rows.up (suc d))) ≡ true
        round_lower =
            subst (λ z. Under kind z (kind.sum a.range.lower (rows.up (suc d)))) (c.closed.still 0 some)
            (under_way 0 (suc d) 0 a.range.lower (rows.up (suc d)) some token some (omega (arith, (range_sizes kind a.range limits).0)) (omega (arith, h.laid.up_sized (suc d) token)) under_lower (h.up_least y (wider y c) (suc d) token))

        round_upper : kind.at_most kind.zero (kind.sum (rows.low (suc d)) a.range.upper) ≡ true
        round_upper =
            subst (λ z. Under kind z (kind.sum (rows.low (suc d)) a.range.upper)) (c.closed.still 0 some)
            (under_way 0 (suc d) 0 (rows.low (suc d)) a.range.upper some token some (omega (arith, h.laid.low_sized (suc d) token)) (omega (arith, (range_sizes kind a.range limits).1)) (h.low_least y (wider y c) (suc d) token) under_upper)

        crossed_none : crossed kind (suc d) a.range rows ≡ true → ⊥
        crossed_none e =
            ⊎_elim
            (λ f. true≢false (sym round_lower ∙ not-true _ f))
            (λ f. true≢false (sym round_upper ∙ not-true _ f))
            (or_cases _ _ e)

      module _ (fits : crossed kind (suc d) a.range rows ≡ false) where
        abbrev after : ClockRows B
        after = narrowed_rows kind x (suc d) a.range rows

        laid : Laid kind n x (narrowed_rows kind x (suc d) a.range rows)
        laid =
            let parts = or_parts _ _ fits in
            next_laid (suc d) token a.range limits rows h.laid (not-false _ parts.0) (not-false _ parts.1)

        by_clock_less : (j k : ℕ) → j < n → k < n → kind.at_most (by_clock kind after j k) (by_clock kind rows j k) ≡ true
        by_clock_less j k p q =
            kind.transitive _ (kind.sum (rows.up j) (after.low k)) _
            (kind.monotone (after.up j) (rows.up j) (after.low k) (omega (arith, laid.up_sized j p, laid.low_sized k q)) (omega (arith, h.laid.up_sized j p, laid.low_sized k q)) (lesser_left kind (rows.up j) (kind.sum (x j (suc d)) a.range.upper)))
            (monotone_right kind (after.low k) (rows.low k) (rows.up j) (omega (arith, laid.low_sized k q, h.laid.up_sized j p)) (omega (arith, h.laid.low_sized k q, h.laid.up_sized j p)) (lesser_left kind (rows.low k) (kind.sum a.range.lower (x (suc d) k))))

        less : Below kind n (shortest kind x after) w
        less j k p q =
            kind.transitive _ (shortest kind x rows j k) _
            (lesser_greatest kind (x j k) (by_clock kind rows j k) (shortest kind x after j k) (lesser_left kind (x j k) (by_clock kind after j k)) (kind.transitive _ (by_clock kind after j k) _ (lesser_right kind (x j k) (by_clock kind after j k)) (by_clock_less j k p q)))
            (h.below j k p q)

        less_upper : kind.at_most (shortest kind x after (suc d) 0) a.range.upper ≡ true
        less_upper =
            let e : kind.sum (x (suc d) (suc d)) a.range.upper ≡ a.range.upper = ap (λ b. kind.sum b a.range.upper) (g.closed.still (suc d) token) ∙ kind.neutral a.range.upper (omega (arith, (range_sizes kind a.range limits).1)) in
            subst₂ (Under kind) (sym (shortest_to kind n some x g after laid (suc d) token)) e (lesser_right kind (rows.up (suc d)) (kind.sum (x (suc d) (suc d)) a.range.upper))

        less_lower : kind.at_most (shortest kind x after 0 (suc d)) a.range.lower ≡ true
        less_lower =
            let e : kind.sum a.range.lower (x (suc d) (suc d)) ≡ a.range.lower = ap (kind.sum a.range.lower) (g.closed.still (suc d) token) ∙ zero_after kind a.range.lower (omega (arith, (range_sizes kind a.range limits).0)) in
            subst₂ (Under kind) (sym (shortest_from kind n some x g after laid (suc d) token)) e (lesser_right kind (rows.low (suc d)) (kind.sum a.range.lower (x (suc d) (suc d))))

        less_narrowed : Below kind n (shortest kind x after) (narrowed kind (suc d) a.range w)
        less_narrowed j k p q =
            cond_both (eqb j (suc d) && eqb k 0) _ _ (Under kind (shortest kind x after j k))
            (λ e. lesser_greatest kind (w j k) a.range.upper _ (less j k p q) (let parts = and_parts (eqb j (suc d)) (eqb k 0) e in subst₂ (λ u v. Under kind (shortest kind x after u v) a.range.upper) (sym (eqb-true j (suc d) parts.0)) (sym (eqb-true k 0 parts.1)) less_upper))
            (λ _. cond_both (eqb j 0 && eqb k (suc d)) _ _ (Under kind (shortest kind x after j k))
            (λ e. lesser_greatest kind (w j k) a.range.lower _ (less j k p q) (let parts = and_parts (eqb j 0) (eqb k (suc d)) e in subst₂ (λ u v. Under kind (shortest kind x after u v) a.range.lower) (sym (eqb-true j 0 parts.0)) (sym (eqb-true k (suc d) parts.1)) less_lower))
            (λ _. less j k p q))

        next_exact : Exact kind n x (narrowed kind (suc d) a.range w) (narrowed_rows kind x (suc d) a.range rows)
        next_exact =
            record {
              laid = laid;
              narrower = λ j k p q. kind.transitive _ (w j k) _ (one_below j k p q) (h.narrower j k p q);
              below = less_narrowed;
              up_least = next_up_least;
              low_least = next_low_least;
            }

  -- ---- every matched token
  pub all_exact : (places : ℕ) (arcs : List (Arc B)) (ds : List ℕ) (w : Matrix B) (rows : ClockRows B) → Every (ArcLimits kind places) arcs → Every (λ d. d < n) ds → Exact kind n x w rows → ExactOr kind n x (narrowed_by kind arcs ds w) (all_narrowed kind x arcs ds rows)
  all_exact places [] ds w rows limits inside h = h
  all_exact places (a ∷ arcs) [] w rows limits inside h = h
  all_exact places (a ∷ arcs) (zero ∷ ds) w rows limits inside h = all_exact places arcs ds w rows limits.1 inside.1 h
  all_exact places (a ∷ arcs) (suc d ∷ ds) w rows limits inside h =
      let narrow : Matrix B = narrowed kind (suc d) a.range w in
      cond_both (crossed kind (suc d) a.range rows) _ _ (ExactOr kind n x (narrowed_by kind arcs ds narrow))
      (λ e. λ y c. crossed_none a d w inside.0 limits.0.range rows h y (less_still narrow y c) e)
      (λ e. all_exact places arcs ds narrow (narrowed_rows kind x (suc d) a.range rows) limits.1 inside.1 (next_exact a d w inside.0 limits.0.range rows h e))
    where
      less_still : (narrow y : Matrix B) → ClosedBelow kind n (narrowed_by kind arcs ds narrow) y → ClosedBelow kind n narrow y
      less_still narrow y c = record { closed = c.closed; below = λ j k p q. kind.transitive _ (narrowed_by kind arcs ds narrow j k) _ (c.below j k p q) (narrow_below kind n arcs ds narrow j k p q); sized = c.sized }

  -- what is nowhere above the rows is nowhere above the closed form
  pub exact_greatest : (w : Matrix B) (rows : ClockRows B) → Exact kind n x w rows → (y : Matrix B) → ClosedBelow kind n w y → Below kind n y (shortest kind x rows)
  exact_greatest w rows h y c j k p q =
      lesser_greatest kind (x j k) (by_clock kind rows j k) (y j k) (kind.transitive _ (w j k) _ (c.below j k p q) (h.narrower j k p q))
      (kind.transitive _ (kind.sum (y j 0) (y 0 k)) _ (c.closed.settled 0 some j k p q)
      (kind.transitive _ (kind.sum (rows.up j) (y 0 k)) _
      (kind.monotone (y j 0) (rows.up j) (y 0 k) (omega (arith, c.sized j 0 p some, c.sized 0 k some q)) (omega (arith, h.laid.up_sized j p, c.sized 0 k some q)) (h.up_least y c j p))
      (monotone_right kind (y 0 k) (rows.low k) (rows.up j) (omega (arith, h.laid.up_sized j p, c.sized 0 k some q)) (omega (arith, h.laid.up_sized j p, h.laid.low_sized k q)) (h.low_least y c k q))))
