-- A row of the bounds asked for that fits that of the page which vouches.
--     points, kept   for each point of that page the item's point, and the point of the item's page
use Rattle.std.specs.Prelude.{◌≡◌, ℕ, ◌<◌, ◌≤◌, Bool, not, ◌&&◌, ◌||◌, IsTrue, ◌==◌}
use Rattle.std.specs.Prelude.{List, slice_index}
use Rattle.bounds.specs.Kinds.{Kind}
use Rattle.zone_walks.specs.Walks.{Matrix}
use Rattle.zone_cells.specs.Sizes.{page_row}
use Rattle.zone_closed_forms.specs.ClosedForms.{ClockRows, by_clock}
use Rattle.zones.specs.Vouching.{partner}

abbrev pub PointsAt : (pairing points : List ℕ) → Type 0
PointsAt pairing points = (i : ℕ) → i < page_row → slice_index points i ≡ partner pairing i

abbrev pub KeptAt : (kept points own : List ℕ) → Type 0
KeptAt kept points own =
    (i : ℕ) → i < page_row → slice_index own i ≡ slice_index kept (slice_index points i)

abbrev pub ClockRowFits : {B : Type 0} →
    Kind B → (page : Matrix B) → ClockRows B → (points : List ℕ) → Type 0
ClockRowFits kind page rows points =
    (i : ℕ) → 1 ≤ i → i < page_row →
    IsTrue (kind.at_most (rows.low (slice_index points i)) (page 0 i))

-- by the way by the clock
abbrev pub way_fits : {B : Type 0} →
    Kind B → (page : Matrix B) → ClockRows B → (points : List ℕ) → ℕ → ℕ → Bool
way_fits kind page rows points j i =
    kind.at_most (by_clock kind rows (slice_index points j) (slice_index points i)) (page j i)

-- to a kept point by the bound of the item's page
abbrev pub own_fits : {B : Type 0} →
    Kind B → (page own : Matrix B) → (kept : List ℕ) → ℕ → ℕ → Bool
own_fits kind page own kept j i =
    not (slice_index kept i == 0)
    && kind.at_most (own (slice_index kept j) (slice_index kept i)) (page j i)

abbrev pub entry_fits : {B : Type 0} →
    Kind B → (page own : Matrix B) → ClockRows B → (points kept : List ℕ) → ℕ → ℕ → Bool
entry_fits kind page own rows points kept j i =
    i == j || way_fits kind page rows points j i
    || (not (slice_index kept j == 0) && own_fits kind page own kept j i)

-- a row of bounds from the point j, the first of them to the clock
abbrev pub RowFits : {B : Type 0} →
    Kind B → (page : Matrix B) → ClockRows B → (points : List ℕ) → ℕ → (ℕ → Bool) → Type 0
RowFits kind page rows points j fits =
    IsTrue (kind.at_most (rows.up (slice_index points j)) (page j 0))
    × ((i : ℕ) → 1 ≤ i → i < page_row → IsTrue (fits i))

abbrev pub AddedRowFits : {B : Type 0} →
    Kind B → (page : Matrix B) → ClockRows B → (points : List ℕ) → ℕ → Type 0
AddedRowFits kind page rows points j =
    RowFits kind page rows points j (λ i. i == j || way_fits kind page rows points j i)

abbrev pub KeptRowFits : {B : Type 0} →
    Kind B → (page own : Matrix B) → ClockRows B → (points kept : List ℕ) → ℕ → Type 0
KeptRowFits kind page own rows points kept j =
    RowFits kind page rows points j
    (λ i. way_fits kind page rows points j i || own_fits kind page own kept j i)

abbrev pub TokenRowFits : {B : Type 0} →
    Kind B → (page own : Matrix B) → ClockRows B → (points kept : List ℕ) → ℕ → Type 0
TokenRowFits kind page own rows points kept j =
    RowFits kind page rows points j (entry_fits kind page own rows points kept j)
