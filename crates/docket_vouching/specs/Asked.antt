-- The zone that an item asks for, over the page of its zone as it is.
use Rattle.std.specs.Prelude.{◌≡◌, ℕ, ◌+◌, ◌<◌, ◌≤◌, ◌==◌, if◌then◌else◌}
use Rattle.std.specs.Prelude.{List, [], ◌∷◌, drop, length, slice_index_or, Some, None, Option}
use Rattle.bounds.specs.Kinds.{Kind}
use Rattle.nets.specs.Nets.{Arc, Every, Net, Transition, arcs_of, transition_of}
use Rattle.nets.specs.declared.side.Side.TheVariants.{Input, Output}
use Rattle.zones.specs.Predecessors.{staying}
use Rattle.zones.specs.Zones.{Zone}
use Rattle.zone_closed_forms.specs.ClosedForms.{ClockRows, begun, delayed_rows, fired_zone}
use Rattle.zone_closed_forms.specs.ClosedForms.{kept_closed, kept_zone, narrowed_from, spread}
use Rattle.zone_cells.specs.Cells.{in_page}
use Rattle.zone_cells.specs.Drafts.{most_tokens, page_zone}
use Rattle.zone_cells.specs.Sizes.{draft_row, page_row}
use Rattle.zone_walks.specs.Walks.{Matrix}
use Rattle.zone_pages.specs.declared.book.Page.{Page}
use Rattle.docket_dues.specs.Answered.{SameZone, digits}
use Rattle.docket_dues.specs.declared.item.Item.{Item}
use Rattle.docket_vouching.specs.Rows.{rows_in}
use Rattle.docket_vouching.specs.declared.asked.AskedZone.{AskedZone}
use Rattle.docket_vouching.specs.declared.work.Parts.{Parts}

-- the zone of a page
abbrev pub zone_on_page : {B : Type 0} → Kind B → Page B → Zone B
zone_on_page kind page = page_zone kind page.places.now page.cells.now

-- kept tokens and then the arcs' tokens, by the rows of the page's points
abbrev pub spread_zone : {B : Type 0} →
    Kind B → Zone B → List ℕ → List (Arc B) → ClockRows B → Zone B
spread_zone kind z kept arcs rows =
    kept_zone kind z kept arcs (spread kind (0 ∷ kept) arcs rows)

-- the page's own zone, and the one before a delay
abbrev pub whole_zone : {B : Type 0} → Kind B → Zone B → Zone B
whole_zone kind z = spread_zone kind z (staying [] z) [] (begun z.bound)

abbrev pub delayed_kept : {B : Type 0} → Kind B → Zone B → Zone B
delayed_kept kind z = spread_zone kind z (staying [] z) [] (delayed_rows kind z)

-- the one before a firing, or none where narrowing answers none
abbrev pub fired_from : {B : Type 0} →
    Kind B → Transition B → List ℕ → Zone B → Option (ClockRows B) → Option (Zone B)
fired_from kind t matching z None = None
fired_from kind t matching z (Some rows) = Some (fired_zone kind t matching z rows)

-- z is the zone of the page; none where the item is void
abbrev pub zone_asked : {B : Type 0} → Kind B → Net B → Zone B → Item → Option (Zone B)
zone_asked kind net z d =
    let t : Transition _ = transition_of net d.transition in
    let matching : List ℕ = digits net d.transition d.matching in
    if d.zone == 0 then Some (whole_zone kind z)
    else (if d.transition == 0 then Some (delayed_kept kind z)
    else fired_from kind t matching z (narrowed_from kind t.outputs matching z.bound))

-- the zone that the parts are worked out to be, with rows of its own points
abbrev pub own_zone : {B : Type 0} → Kind B → Matrix B → ClockRows B → Parts → Zone B
own_zone kind x own parts =
    record { places = parts.tokens.items; bound = kept_closed kind x parts.kept.items own }

-- the zone that is asked for, or none for none
abbrev pub WorkedOut : {B : Type 0} →
    Kind B → Matrix B → ClockRows B → Option (Zone B) → Option Parts → Type 0
WorkedOut kind x own None None = Unit {0}
WorkedOut kind x own None (Some parts) = ⊥
WorkedOut kind x own (Some asked) None = ⊥
WorkedOut kind x own (Some asked) (Some parts) = SameZone asked (own_zone kind x own parts)

-- ---- in lent cells
-- so many cells are worked in
abbrev pub rows_cells : ℕ
rows_cells = 44

-- rows of an asked zone's points, where they stand in those cells
abbrev pub rows_within : {B : Type 0} → Kind B → List B → ClockRows B
rows_within kind cells =
    record {
      up = λ j. slice_index_or cells j kind.no_limit;
      low = λ k. slice_index_or cells (draft_row + k) kind.no_limit;
    }

-- every digit is 0 or may be a token of a page
abbrev pub PageDigits : List ℕ → Type 0
PageDigits ds = Every (λ d. d < page_row) ds

-- every digit of a firing is 0 or may be a token of a page; other items have none
abbrev pub ItemDigits : {B : Type 0} → Net B → Item → Type 0
ItemDigits net d =
    (d.zone ≡ 0 → ⊥) → (d.transition ≡ 0 → ⊥) → PageDigits (digits net d.transition d.matching)

-- nothing is worked out, and the cells are as they were
pub record Untouched {B : Type 0} (before after : List B) (answer : Option Parts) : Type 0 where
  pub none : answer ≡ None
  pub cells : after ≡ before

-- what stands in the page may be any bounds; the cells behind those that are worked in are kept
pub record WorksOut {B : Type 0} (kind : Kind B) (net : Net B) (z : Zone B) (d : Item)
    (before after : List B) (answer : Option Parts) : Type 0 where
  pub kept : length after ≡ length before
  pub behind : drop rows_cells after ≡ drop rows_cells before
  pub worked : rows_cells ≤ length before → length z.places ≤ most_tokens → ItemDigits net d →
      WorkedOut kind z.bound (rows_within kind after) (zone_asked kind net z d) answer
  pub short : length before < rows_cells → Untouched before after answer
  pub crowded : most_tokens < length z.places → Untouched before after answer
  pub past : (ItemDigits net d → ⊥) → answer ≡ None

-- the zone that the cells of a page, the rows in other cells and the parts are
abbrev pub shown : {B : Type 0} → Kind B → AskedZone B → Zone B
shown kind a = own_zone kind (in_page kind a.page.now) (rows_within kind a.rows.now) a.parts.now

-- ---- over a page, with the zone's rows in two slices
abbrev pub OwnIs : {B : Type 0} → Kind B → Page B → (up low : List B) → Zone B → Parts → Type 0
OwnIs kind page up low asked parts =
    SameZone asked (own_zone kind (in_page kind page.cells.now) (rows_in kind up low) parts)

abbrev pub WorkedIs : {B : Type 0} → Kind B → Page B → (up low : List B) →
    Option (Zone B) → Option Parts → Type 0
WorkedIs kind page up low asked answer =
    WorkedOut kind (in_page kind page.cells.now) (rows_in kind up low) asked answer

-- without the matched tokens and with those of the input arcs
abbrev pub replaced_zone : {B : Type 0} → Kind B → Net B → (transition : ℕ) → List ℕ → Page B →
    (page_up page_low : List B) → Zone B
replaced_zone kind net transition matching page page_up page_low =
    spread_zone kind (zone_on_page kind page) (staying matching (zone_on_page kind page))
    (arcs_of net transition Input) (rows_in kind page_up page_low)

abbrev pub fired_over : {B : Type 0} → Kind B → Net B → (transition : ℕ) → List ℕ → Page B →
    Option (Zone B)
fired_over kind net transition matching page =
    fired_from kind (transition_of net transition) matching (zone_on_page kind page)
    (narrowed_from kind (arcs_of net transition Output) matching (in_page kind page.cells.now))

pub record WorksIn {B : Type 0} (kind : Kind B) (net : Net B) (page : Page B) (d : Item)
    (up low : List B) (answer : Option Parts) : Type 0 where
  pub worked : ItemDigits net d →
      WorkedIs kind page up low (zone_asked kind net (zone_on_page kind page) d) answer
  pub past : (ItemDigits net d → ⊥) → answer ≡ None
