-- Clock rows in cells.
use Rattle.std.specs.Prelude.{◌≡◌, ℕ, ◌+◌, ◌<◌, Bool, if◌then◌else◌}
use Rattle.std.specs.Prelude.{List, slice_index_or, Some, None}
use Rattle.bounds.specs.Kinds.{Kind}
use Rattle.nets.specs.Nets.{Arc}
use Rattle.zone_cells.specs.Cells.{in_page}
use Rattle.zone_cells.specs.Sizes.{page_row}
use Rattle.zone_walks.specs.Walks.{Matrix, lesser}
use Rattle.zone_closed_forms.specs.ClosedForms.{ClockRows, all_narrowed, least_below}
use Rattle.zone_closed_forms.specs.ClockRows.{Alike, AlikeOr, narrowed_on}

abbrev pub rows_in : {B : Type 0} → Kind B → List B → List B → ClockRows B
rows_in kind up low =
    record {
      up = λ j. slice_index_or up j kind.no_limit;
      low = λ k. slice_index_or low k kind.no_limit;
    }

-- those of a delay over so many tokens
abbrev pub rows_delayed : {B : Type 0} → Kind B → Matrix B → ℕ → ClockRows B
rows_delayed kind x tokens = record { up = λ j. x j 0; low = least_below kind x tokens }

-- each of a page's nine is the lesser of itself and the token's
abbrev pub LoweredTo : {B : Type 0} → Kind B → Matrix B → ℕ → List B → List B → Type 0
LoweredTo kind x token before after =
    (k : ℕ) → k < page_row → slice_index_or after k kind.no_limit ≡
    lesser kind (x token k) (slice_index_or before k kind.no_limit)

-- the cells are these rows, at the points that a page may have
abbrev pub RowsAre : {B : Type 0} → Kind B → ClockRows B → List B → List B → Type 0
RowsAre kind rows up low = Alike page_row rows (rows_in kind up low)

-- one arc is done, and false says that its range left its token no age
abbrev pub OneNarrowed : {B : Type 0} → Kind B → (page : List B) → List (Arc B) → List ℕ → ℕ →
    (up low next_up next_low : List B) → Bool → Type 0
OneNarrowed kind page arcs matching a up low next_up next_low answer =
    AlikeOr page_row (narrowed_on kind (in_page kind page) arcs matching a (rows_in kind up low))
    (if answer
    then narrowed_on kind (in_page kind page) arcs matching (a + 1) (rows_in kind next_up next_low)
    else None)

-- all arcs are done, and false says that a range left its token no age
abbrev pub AllNarrowed : {B : Type 0} → Kind B → (page : List B) → List (Arc B) → List ℕ →
    (up low next_up next_low : List B) → Bool → Type 0
AllNarrowed kind page arcs matching up low next_up next_low answer =
    AlikeOr page_row (all_narrowed kind (in_page kind page) arcs matching (rows_in kind up low))
    (if answer then Some (rows_in kind next_up next_low) else None)
