-- ClockRows that agree at the points: whoever holds the rows at so many points holds the same forms.
use Rattle.std.proofs.Common.{◌≡◌, ℕ, zero, suc, ◌+◌, ◌-◌, ◌<◌, ◌≤◌, Bool, true, false, cond, not, ◌&&◌, ◌||◌, eqb, ltb, List, [], ◌∷◌, length, get_or, drop, Some, None, Option, sym, refl, ap, ◌∙◌, subst, arith}
use Rattle.std.proofs.lemmas.List.{drop_all, drop_more}
use Rattle.std.proofs.lemmas.Bool.{cond-false, ne_eqb}
use Rattle.bounds.specs.Kinds.{Kind}
use Rattle.bounds.specs.declared.range.Range.{Range}
use Rattle.nets.specs.Nets.{Arc, Every, Transition}
use Rattle.zone_walks.specs.Walks.{Matrix, lesser}
use Rattle.zone_walks.proofs.Closed.{Same}
use Rattle.zone_walks.proofs.NormalForms.{same_sized, same_to}
use Rattle.zones.specs.Predecessors.{staying}
use Rattle.zones.specs.Zones.{Zone, points}
use Rattle.zone_cells.specs.Cells.{arc_at}
use Rattle.zone_cells.specs.Drafts.{largest_predecessor}
use Rattle.zone_cells.proofs.Steps.{staying_inside}
use Rattle.zone_closed_forms.specs.ClosedForms.{ClockRows, by_clock, framed, closed, crossed, narrowed_rows, all_narrowed, spread, kept_closed, kept_zone, fired_zone}
use Rattle.zone_closed_forms.specs.Laws.{FiringForm}
use Rattle.zone_closed_forms.specs.ClockRows.{Alike, AlikeOr, narrowed_next, narrowed_on}

module _ {B : Type 0} (kind : Kind B) where
  -- ---- narrowing
  pub narrowed_alike : (n : ℕ) (x : Matrix B) (t : ℕ) (range : Range B) (rows other : ClockRows B) → Alike n rows other → Alike n (narrowed_rows kind x t range rows) (narrowed_rows kind x t range other)
  narrowed_alike n x t range rows other h =
      record {
        up = λ j l. ap (λ b. lesser kind b (kind.sum (x j t) range.upper)) (h.up j l);
        low = λ k l. ap (λ b. lesser kind b (kind.sum range.lower (x t k))) (h.low k l);
      }

  pub crossed_alike : (n t : ℕ) (range : Range B) (rows other : ClockRows B) → t < n → Alike n rows other → crossed kind t range rows ≡ crossed kind t range other
  crossed_alike n t range rows other l h =
      ap (λ b. not (kind.at_most kind.zero (kind.sum range.lower b)) || not (kind.at_most kind.zero (kind.sum (rows.low t) range.upper))) (h.up t l)
      ∙ ap (λ b. not (kind.at_most kind.zero (kind.sum range.lower (other.up t))) || not (kind.at_most kind.zero (kind.sum b range.upper))) (h.low t l)

  either_alike : (n : ℕ) (s t : Bool) (a b : Option (ClockRows B)) → s ≡ t → AlikeOr n a b → AlikeOr n (cond s None a) (cond t None b)
  either_alike n true t a b e h = subst (λ u. AlikeOr n None (cond u None b)) e tt
  either_alike n false t a b e h = subst (λ u. AlikeOr n a (cond u None b)) e h

  pub all_alike : (n : ℕ) (x : Matrix B) (arcs : List (Arc B)) (ds : List ℕ) (rows other : ClockRows B) → Every (λ d. d < n) ds → Alike n rows other → AlikeOr n (all_narrowed kind x arcs ds rows) (all_narrowed kind x arcs ds other)
  all_alike n x [] ds rows other inside h = h
  all_alike n x (a ∷ arcs) [] rows other inside h = h
  all_alike n x (a ∷ arcs) (zero ∷ ds) rows other inside h = all_alike n x arcs ds rows other inside.1 h
  all_alike n x (a ∷ arcs) (suc d ∷ ds) rows other inside h =
      either_alike n (crossed kind (suc d) a.range rows) (crossed kind (suc d) a.range other) _ _ (crossed_alike n (suc d) a.range rows other inside.0 h)
      (all_alike n x arcs ds _ _ inside.1 (narrowed_alike n x (suc d) a.range rows other h))

  -- ---- one arc after the other, from the first on
  module _ (x : Matrix B) (arcs : List (Arc B)) (ds : List ℕ) where
    by_digit : (arc : Arc B) (later : List (Arc B)) (digit : ℕ) (digits : List ℕ) (rows : ClockRows B) → all_narrowed kind x (arc ∷ later) (digit ∷ digits) rows ≡ cond (eqb digit 0) (all_narrowed kind x later digits rows) (cond (crossed kind digit arc.range rows) None (all_narrowed kind x later digits (narrowed_rows kind x digit arc.range rows)))
    by_digit arc later zero digits rows = refl
    by_digit arc later (suc d) digits rows = sym (cond-false (eqb (suc d) 0) _ _ (ne_eqb (suc d) 0 (λ e. omega arith)))

    pub next_narrowed : (a : ℕ) (rows : ClockRows B) → a < length arcs → a < length ds → narrowed_on kind x arcs ds a rows ≡ narrowed_next kind x arcs ds a rows
    next_narrowed a rows p q =
        ap (λ l. all_narrowed kind x l (drop a ds) rows) (drop_more arcs a _ p)
        ∙ ap (λ l. all_narrowed kind x (arc_at kind arcs a ∷ drop (a + 1) arcs) l rows) (drop_more ds a 0 q)
        ∙ by_digit (arc_at kind arcs a) (drop (a + 1) arcs) (get_or ds a 0) (drop (a + 1) ds) rows

    pub done_narrowed : (a : ℕ) (rows : ClockRows B) → length arcs ≤ a → narrowed_on kind x arcs ds a rows ≡ Some rows
    done_narrowed a rows le = ap (λ l. all_narrowed kind x l (drop a ds) rows) (drop_all a arcs le)

  -- ---- the bounds
  pub framed_alike : (rows other : ClockRows B) (j k : ℕ) (b c : B) → rows.up j ≡ other.up j → rows.low k ≡ other.low k → b ≡ c → framed kind rows (λ _ _. b) j k ≡ framed kind other (λ _ _. c) j k
  framed_alike rows other j k b c up low both =
      ap (λ v. cond (eqb j k) kind.zero (cond (eqb j 0) v (cond (eqb k 0) (rows.up j) b))) low
      ∙ ap (λ v. cond (eqb j k) kind.zero (cond (eqb j 0) (other.low k) (cond (eqb k 0) v b))) up
      ∙ ap (λ v. cond (eqb j k) kind.zero (cond (eqb j 0) (other.low k) (cond (eqb k 0) (other.up j) v))) both

  by_clock_alike : (rows other : ClockRows B) (j k : ℕ) → rows.up j ≡ other.up j → rows.low k ≡ other.low k → by_clock kind rows j k ≡ by_clock kind other j k
  by_clock_alike rows other j k up low = ap (λ v. kind.sum v (rows.low k)) up ∙ ap (kind.sum (other.up j)) low

  pub closed_alike : (n : ℕ) (x : Matrix B) (rows other : ClockRows B) → Alike n rows other → Same n (closed kind x rows) (closed kind x other)
  closed_alike n x rows other h j k p q =
      framed_alike rows other j k _ _ (h.up j p) (h.low k q) (ap (lesser kind (x j k)) (by_clock_alike rows other j k (h.up j p) (h.low k q)))

  pub kept_closed_alike : (x : Matrix B) (kept : List ℕ) (rows other : ClockRows B) (j k : ℕ) → rows.up j ≡ other.up j → rows.low k ≡ other.low k → kept_closed kind x kept rows j k ≡ kept_closed kind x kept other j k
  kept_closed_alike x kept rows other j k up low =
      framed_alike rows other j k _ _ up low
      (ap (λ way. cond (ltb j (length kept) && ltb k (length kept)) (lesser kind (x (get_or kept j 0) (get_or kept k 0)) way) way) (by_clock_alike rows other j k up low))

  module _ (n : ℕ) (kept : List ℕ) (arcs : List (Arc B)) (rows other : ClockRows B) (inside : (j : ℕ) → get_or kept j 0 < n) (h : Alike n rows other) where
    pub up_spread : (j : ℕ) → (spread kind kept arcs rows).up j ≡ (spread kind kept arcs other).up j
    up_spread j = ap (λ b. cond (ltb j (length kept)) b (arc_at kind arcs (j - length kept)).range.upper) (h.up (get_or kept j 0) (inside j))

    pub low_spread : (k : ℕ) → (spread kind kept arcs rows).low k ≡ (spread kind kept arcs other).low k
    low_spread k = ap (λ b. cond (ltb k (length kept)) b (arc_at kind arcs (k - length kept)).range.lower) (h.low (get_or kept k 0) (inside k))

  pub fired_alike : (t : Transition B) (matching : List ℕ) (z : Zone B) (rows other own : ClockRows B) → Alike (points z) rows other → Alike (points (fired_zone kind t matching z rows)) (spread kind (0 ∷ staying matching z) t.inputs other) own → FiringForm kind t matching z (fired_zone kind t matching z rows) → FiringForm kind t matching z (kept_zone kind z (staying matching z) t.inputs own)
  fired_alike t matching z rows other own h k f =
      let is = f.is in
      record {
        is = record { possible = is.possible; narrow = is.narrow; narrows = is.narrows; places = is.places; bounds = same_to kind (points (fired_zone kind t matching z rows)) _ _ _ same is.bounds };
        small = same_sized kind (points (fired_zone kind t matching z rows)) largest_predecessor _ _ same f.small;
      }
    where
      same : Same (points (fired_zone kind t matching z rows)) (fired_zone kind t matching z rows).bound (kept_zone kind z (staying matching z) t.inputs own).bound
      same j i p q =
          let kept : List ℕ = 0 ∷ staying matching z in
          kept_closed_alike z.bound kept (spread kind kept t.inputs rows) own j i
          (up_spread (points z) kept t.inputs rows other (staying_inside matching z) h j ∙ k.up j p)
          (low_spread (points z) kept t.inputs rows other (staying_inside matching z) h i ∙ k.low i q)
