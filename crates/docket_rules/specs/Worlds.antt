-- What a docket keeps, and the memory that its calls are lent.
--     state     what the docket itself keeps
--     book      cells and places for each of 64 pages; page 0 is the target, pages 1 to 63 are
--               listed zones
--     world     a docket's state and a book, as they stand between two calls
--     lent      a world with the scratch page that one call is lent besides
use Rattle.std.specs.Prelude.{ℕ, ◌*◌, ◌-◌, Bool, ◌&&◌, List, [], map, length, take, drop, ◌==◌}
use Rattle.std.specs.Prelude.{nat_le, slice_index}
use Rattle.std.specs.List.{range_with_len}
use Rattle.bounds.specs.Kinds.{Kind}
use Rattle.zone_cells.specs.Drafts.{page_zone}
use Rattle.zone_cells.specs.Sizes.{draft_cells, page_cells, page_places}
use Rattle.docket_records.specs.declared.token.InitialToken.{InitialToken}
use Rattle.docket_rules.specs.declared.stage.Stage.{Stage}
use Rattle.docket_rules.specs.declared.stage.Stage.TheVariants.{Blank}
use Rattle.zones.specs.Zones.{Zone}

pub record State : Type 0 where
  pub stage : Stage
  pub initial : List InitialToken
  -- how many tokens each page has that is written, the target's first
  pub counts : List ℕ
  -- vouchers taken
  pub taken : ℕ

abbrev pub blank : State
blank = record { stage = Blank; initial = []; counts = []; taken = 0 }

pub record World (B : Type 0) : Type 0 where
  pub state : State
  pub cells : List B
  pub places : List ℕ

abbrev pub with_book : {B : Type 0} → State → (cells : List B) → (places : List ℕ) → World B
with_book state cells places = record { state = state; cells = cells; places = places }

pub record Lent (B : Type 0) : Type 0 where
  pub world : World B
  pub scratch : List B

abbrev pub with_scratch : {B : Type 0} → World B → (scratch : List B) → Lent B
with_scratch world scratch = record { world = world; scratch = scratch }

abbrev pub lent : {B : Type 0} → State → (cells : List B) → (places : List ℕ) → (scratch : List B) →
    Lent B
lent state cells places scratch = with_scratch (with_book state cells places) scratch

-- ---- lent memory of the stated lengths
abbrev pub book_cells : ℕ
book_cells = 5184

abbrev pub book_places : ℕ
book_places = 512

abbrev pub book_whole : {B : Type 0} → World B → Bool
book_whole w = length w.cells == book_cells && length w.places == book_places

abbrev pub whole : {B : Type 0} → Lent B → Bool
whole call = book_whole call.world && length call.scratch == draft_cells

abbrev pub sized : {B : Type 0} → World B → (scratch : List B) → Bool
sized w scratch = whole (with_scratch w scratch)

-- ---- pages
-- the cells of the page with this number
abbrev pub page_cells_at : {B : Type 0} → World B → ℕ → List B
page_cells_at w p = take page_cells (drop (page_cells * p) w.cells)

-- the places of its tokens
abbrev pub page_places_at : {B : Type 0} → World B → ℕ → List ℕ
page_places_at w p = take (slice_index w.state.counts p) (drop (page_places * p) w.places)

abbrev pub page_of : {B : Type 0} → Kind B → World B → ℕ → Zone B
page_of kind w p = page_zone kind (page_places_at w p) (page_cells_at w p)

abbrev pub listed_count : State → ℕ
listed_count s = length s.counts - 1

-- of zones by their numbers, those that are listed
abbrev pub listed_zones : {B : Type 0} → State → (zones : ℕ → Zone B) → List (Zone B)
listed_zones s zones = map zones (range_with_len 1 (listed_count s))

abbrev pub listed_pages : {B : Type 0} → Kind B → World B → List (Zone B)
listed_pages kind w = listed_zones w.state (page_of kind w)

-- the number names a listed zone
abbrev pub in_list : State → ℕ → Bool
in_list s z = nat_le 1 z && nat_le z (listed_count s)
