-- How the closed forms may be worked out: from the rows at the zone's points alone, one arc after
-- the other, by one form for every zone that can be asked for, and compared part by part.
use Rattle.std.specs.Prelude.{◌≡◌, ℕ, ◌+◌, ◌<◌, ◌≤◌, ◌||◌, if◌then◌else◌, ◌==◌}
use Rattle.std.specs.Prelude.{List, [], ◌∷◌, length, drop, slice_index, Some, None, Option}
use Rattle.bounds.specs.Kinds.{Kind}
use Rattle.nets.specs.Nets.{Arc, Every, Transition}
use Rattle.zone_walks.specs.Walks.{Matrix, lesser}
use Rattle.zones.specs.Predecessors.{staying}
use Rattle.zones.specs.Zones.{Zone, points}
use Rattle.zone_cells.specs.Cells.{arc_at}
use Rattle.zone_closed_forms.specs.ClosedForms.{ClockRows, begun, crossed, spread, kept_zone}
use Rattle.zone_closed_forms.specs.ClosedForms.{narrowed_rows, all_narrowed}
use Rattle.zone_closed_forms.specs.ClosedForms.{delayed_rows, delayed_zone, fired_zone}
use Rattle.zone_cells.specs.Drafts.{PageFormed}
use Rattle.zone_closed_forms.specs.Laws.{DelayForm, FiringForm}

-- the same rows at so many points
pub record Alike {B : Type 0} (n : ℕ) (rows other : ClockRows B) : Type 0 where
  pub up : (j : ℕ) → j < n → rows.up j ≡ other.up j
  pub low : (k : ℕ) → k < n → rows.low k ≡ other.low k

abbrev pub AlikeOr : {B : Type 0} → ℕ → Option (ClockRows B) → Option (ClockRows B) → Type 0
AlikeOr n None None = Unit {0}
AlikeOr n None (Some other) = ⊥
AlikeOr n (Some rows) None = ⊥
AlikeOr n (Some rows) (Some other) = Alike n rows other

-- ---- arc after arc
-- what narrowing answers that begins with the arc of this number, counted from 0
abbrev pub narrowed_on : {B : Type 0} →
    Kind B → Matrix B → List (Arc B) → List ℕ → ℕ → ClockRows B → Option (ClockRows B)
narrowed_on kind x arcs matching a rows =
    all_narrowed kind x (drop a arcs) (drop a matching) rows

-- one arc is done, and the others follow
abbrev pub narrowed_next : {B : Type 0} →
    Kind B → Matrix B → List (Arc B) → List ℕ → ℕ → ClockRows B → Option (ClockRows B)
narrowed_next kind x arcs matching a rows =
    let token : ℕ = slice_index matching a in
    if token == 0 then narrowed_on kind x arcs matching (a + 1) rows
    else (if crossed kind token (arc_at kind arcs a).range rows then None
    else narrowed_on kind x arcs matching (a + 1)
    (narrowed_rows kind x token (arc_at kind arcs a).range rows))

pub record ClockRowLaws {B : Type 0} (kind : Kind B) : Type 0 where
  -- narrowing
  pub next : (x : Matrix B) (arcs : List (Arc B)) (matching : List ℕ) (a : ℕ) (rows : ClockRows B) →
      a < length arcs → a < length matching →
      narrowed_on kind x arcs matching a rows ≡ narrowed_next kind x arcs matching a rows
  pub done : (x : Matrix B) (arcs : List (Arc B)) (matching : List ℕ) (a : ℕ) (rows : ClockRows B) →
      length arcs ≤ a → narrowed_on kind x arcs matching a rows ≡ Some rows
  pub alike : (n : ℕ) (x : Matrix B) (arcs : List (Arc B)) (matching : List ℕ)
      (rows other : ClockRows B) → Every (λ d. d < n) matching → Alike n rows other →
      AlikeOr n (all_narrowed kind x arcs matching rows) (all_narrowed kind x arcs matching other)
  -- One form, over rows of its own points, is every zone that can be asked for; the rows need only be
  -- alike at those points. The page's own zone, with all its tokens:
  pub whole : (z : Zone B) (own : ClockRows B) (j k : ℕ) → PageFormed kind z →
      Alike (points z) (begun z.bound) own → j < points z → k < points z →
      (kept_zone kind z (staying [] z) [] own).bound j k ≡ z.bound j k
  pub places : (z : Zone B) (own : ClockRows B) →
      (kept_zone kind z (staying [] z) [] own).places ≡ z.places
  -- the one before a delay
  pub delayed : (z : Zone B) (own : ClockRows B) → Alike (points z) (delayed_rows kind z) own →
      DelayForm kind z (delayed_zone kind z) → DelayForm kind z (kept_zone kind z (staying [] z) [] own)
  -- the one before a firing
  pub fired : (t : Transition B) (matching : List ℕ) (z : Zone B) (rows other own : ClockRows B) →
      Alike (points z) rows other →
      Alike (points (fired_zone kind t matching z rows))
      (spread kind (0 ∷ staying matching z) t.inputs other) own →
      FiringForm kind t matching z (fired_zone kind t matching z rows) →
      FiringForm kind t matching z (kept_zone kind z (staying matching z) t.inputs own)
  -- a bound is no larger than another where one of the two that it is the lesser of is not
  pub compared : (a b c : B) →
      kind.at_most (lesser kind a b) c ≡ (kind.at_most a c || kind.at_most b c)
