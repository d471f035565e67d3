-- Bounds of a zone in a row of cells, and what the operations on such cells leave in them.
--     draft     cells for a zone of up to 12 tokens that is worked on, row by row
--     page      cells for a zone of up to 8 tokens, row by row
-- Every operation is a function of all cells, so it says what every cell then holds.
use Rattle.std.specs.Prelude.{ℕ, zero, suc, ◌+◌, ◌*◌, List, length, ◌==◌, slice_index}
use Rattle.std.specs.Prelude.{slice_index_or, slice_set, if◌then◌else◌}
use Rattle.bounds.specs.Kinds.{Kind}
use Rattle.bounds.specs.declared.range.Range.{Range}
use Rattle.nets.specs.Nets.{Arc, no_arc}
use Rattle.zone_walks.specs.Walks.{Matrix, lesser}
use Rattle.zone_cells.specs.Sizes.{draft_row, page_row}

-- ---- n steps, the first one with 0
abbrev pub times : {X : Type 0} → ℕ → (ℕ → X → X) → X → X
times zero step x = x
times (suc n) step x = step n (times n step x)

-- the bounds that cells hold, so many to a row; outside them there is no limit
abbrev pub bounds_in : {B : Type 0} → Kind B → ℕ → List B → Matrix B
bounds_in kind width cells j i = slice_index_or cells (width * j + i) kind.no_limit

abbrev pub in_draft : {B : Type 0} → Kind B → List B → Matrix B
in_draft kind cells = bounds_in kind draft_row cells

abbrev pub in_page : {B : Type 0} → Kind B → List B → Matrix B
in_page kind cells = bounds_in kind page_row cells

-- ---- one cell of a draft
abbrev pub put : {B : Type 0} → ℕ → ℕ → B → List B → List B
put j i b cells = slice_set cells (draft_row * j + i) b

abbrev pub lowered : {B : Type 0} → Kind B → ℕ → ℕ → B → List B → List B
lowered kind j i b cells = put j i (lesser kind (in_draft kind cells j i) b) cells

-- ---- the bounds of so many points, row by row
abbrev pub written : {B : Type 0} → Matrix B → ℕ → List B → List B
written bounds points cells =
    times points (λ j c. times points (λ i d. put j i (bounds j i) d) c) cells

-- ---- a round of the elimination: every bound, or the way through the pivot where that is less
abbrev pub relaxed_row : {B : Type 0} → Kind B → ℕ → ℕ → ℕ → List B → List B
relaxed_row kind points pivot j cells =
    times points (λ i c.
    lowered kind j i (kind.sum (in_draft kind cells j pivot) (in_draft kind c pivot i)) c) cells

abbrev pub relaxed_cells : {B : Type 0} → Kind B → ℕ → ℕ → List B → List B
relaxed_cells kind points pivot cells =
    times points (λ j c. if j == pivot then c else relaxed_row kind points pivot j c) cells

-- ---- narrowing
abbrev pub narrowed_cells : {B : Type 0} → Kind B → ℕ → Range B → List B → List B
narrowed_cells kind token range cells =
    lowered kind 0 token range.lower (lowered kind token 0 range.upper cells)

-- ---- taking tokens off: the kept points' rows and columns close up
abbrev pub moved_row : {B : Type 0} → Kind B → List ℕ → ℕ → ℕ → List B → List B
moved_row kind kept points j cells =
    times points (λ i c.
    put j i (in_draft kind c (slice_index kept j) (slice_index kept i)) c) cells

abbrev pub picked_cells : {B : Type 0} → Kind B → List ℕ → ℕ → List B → List B
picked_cells kind kept points cells = times points (λ j c. moved_row kind kept points j c) cells

-- ---- adding a token as point n: its way to every other point leads through the clock
abbrev pub linked : {B : Type 0} → Kind B → Range B → ℕ → ℕ → List B → List B
linked kind range n i cells =
    put i n (kind.sum (in_draft kind cells i 0) range.lower)
    (put n i (kind.sum range.upper (in_draft kind cells 0 i)) cells)

abbrev pub added_cells : {B : Type 0} → Kind B → Range B → ℕ → List B → List B
added_cells kind range n cells = put n n kind.zero (times n (λ i c. linked kind range n i c) cells)

-- ---- the delay predecessor: in the clock's row the least of zero and the column
abbrev pub column_least : {B : Type 0} → Kind B → ℕ → ℕ → List B → B
column_least kind points i cells =
    times points (λ j b. if j == 0 then b else lesser kind (in_draft kind cells j i) b) kind.zero

abbrev pub delayed_cells : {B : Type 0} → Kind B → ℕ → List B → List B
delayed_cells kind points cells =
    times points (λ i c. if i == 0 then c else put 0 i (column_least kind points i c) c) cells

-- ---- the arcs of a firing, one after the other; an arc that does not exist has the range from 0
-- without limit
abbrev pub arc_at : {B : Type 0} → Kind B → List (Arc B) → ℕ → Arc B
arc_at kind arcs a = slice_index_or arcs a (no_arc kind)

-- every matched token by the range of its output arc
abbrev pub matched_cells : {B : Type 0} → Kind B → List (Arc B) → List ℕ → List B → List B
matched_cells kind arcs matching cells =
    times (length arcs) (λ a c.
    if slice_index matching a == 0 then c
    else narrowed_cells kind (slice_index matching a) (arc_at kind arcs a).range c) cells

-- a token for every input arc, from point n on
abbrev pub input_cells : {B : Type 0} → Kind B → List (Arc B) → ℕ → List B → List B
input_cells kind arcs n cells =
    times (length arcs) (λ a c. added_cells kind (arc_at kind arcs a).range (n + a) c) cells
