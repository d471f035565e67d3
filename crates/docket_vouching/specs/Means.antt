-- What the zone that was worked out is, where the page holds the item's zone.
use Rattle.std.specs.Prelude.{ℕ, ◌≤◌, List, length, Some, None, Option}
use Rattle.bounds.specs.Kinds.{Kind}
use Rattle.nets.specs.Nets.{Net}
use Rattle.zones.specs.Zones.{Zone}
use Rattle.zone_cells.specs.Cells.{in_page}
use Rattle.docket_dues.specs.Answered.{ItemZone, VoidItem, places_of_all, zone_named}
use Rattle.docket_dues.specs.DueLaws.{IsDue}
use Rattle.docket_dues.specs.declared.item.Item.{Item}
use Rattle.docket_items.specs.Made.{PageHolds}
use Rattle.docket_vouching.specs.Asked.{own_zone, rows_within, rows_cells}
use Rattle.docket_vouching.specs.declared.work.Parts.{Parts}

-- the item's zone, or none where the item is void
abbrev pub PartsAnswer : {B : Type 0} → Kind B → Net B → (target : Zone B) → List (Zone B) →
    Item → (page cells : List B) → Option Parts → Type 0
PartsAnswer kind net target listed d page cells None =
    VoidItem kind net target listed d.zone d.transition d.matching
PartsAnswer kind net target listed d page cells (Some parts) =
    ItemZone kind net target listed d.zone d.transition d.matching
    (own_zone kind (in_page kind page) (rows_within kind cells) parts)

abbrev pub MeansItem : {B : Type 0} → Kind B → Net B → (page_places : List ℕ) →
    (page : List B) → Item → (before after : List B) → Option Parts → Type 0
MeansItem {B = B} kind net page_places page d before after answer =
    (target : Zone B) (listed : List (Zone B)) → rows_cells ≤ length before →
    IsDue net (places_of_all listed) d →
    PageHolds kind (zone_named target listed d.zone) page_places page →
    PartsAnswer kind net target listed d page after answer
