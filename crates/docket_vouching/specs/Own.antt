-- Rows of an item's points in cells.
use Rattle.std.specs.Prelude.{◌≡◌, ℕ, ◌+◌, ◌<◌, List, length, slice_index, slice_index_or}
use Rattle.bounds.specs.Kinds.{Kind}
use Rattle.nets.specs.Nets.{Arc}
use Rattle.zone_cells.specs.Cells.{arc_at}
use Rattle.zone_closed_forms.specs.ClosedForms.{ClockRows, spread}
use Rattle.docket_vouching.specs.Rows.{rows_in}
use Rattle.zone_closed_forms.specs.ClockRows.{Alike}

abbrev pub KeptRow : {B : Type 0} → Kind B → List ℕ → List B → List B → Type 0
KeptRow kind kept from to =
    (j : ℕ) → j < length kept →
    slice_index_or to j kind.no_limit ≡ slice_index_or from (slice_index kept j) kind.no_limit

-- the rows before stay, and behind them stand the arcs' ranges
pub record AddedBehind {B : Type 0} (kind : Kind B) (arcs : List (Arc B)) (first : ℕ)
    (before after : ClockRows B) : Type 0 where
  pub old : Alike first before after
  pub up : (a : ℕ) → a < length arcs → after.up (first + a) ≡ (arc_at kind arcs a).range.upper
  pub low : (a : ℕ) → a < length arcs → after.low (first + a) ≡ (arc_at kind arcs a).range.lower

-- the rows of the kept points and of the arcs' tokens, so many points in all
abbrev pub SpreadOver : {B : Type 0} → Kind B → List ℕ → List (Arc B) →
    (page_up page_low up low : List B) → Type 0
SpreadOver kind kept arcs page_up page_low up low =
    Alike (length kept + length arcs) (spread kind kept arcs (rows_in kind page_up page_low))
    (rows_in kind up low)
