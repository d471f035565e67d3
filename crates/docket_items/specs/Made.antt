-- The zone of an item, made in a draft from the page of the item's zone.
use Rattle.std.specs.Prelude.{
  ◌≡◌,
  ℕ,
  zero,
  suc,
  List,
  [],
  length,
  Some,
  None,
  Option,
  if◌then◌else◌,
  nat_le,
}
use Rattle.arrayvec.specs.ArrayVec.{ArrayVec}
use Rattle.bounds.specs.Kinds.{Kind}
use Rattle.zone_cells.specs.Cells.{in_page, written}
use Rattle.zone_cells.specs.Drafts.{PageFormed, draft_zone, page_zone}
use Rattle.zone_cells.specs.Sizes.{draft_cells}
use Rattle.zone_drafts.specs.Backwards.{DelayedBack, FiringBack}
use Rattle.zone_pages.specs.Books.{page_points}
use Rattle.nets.specs.Nets.{Net}
use Rattle.zones.specs.Zones.{Zone}
use Rattle.docket_dues.specs.Answered.{
  SameZone,
  ItemZone,
  VoidItem,
  places_of_all,
  zone_named,
}
use Rattle.docket_dues.specs.DueLaws.{IsDue}
use Rattle.docket_dues.specs.declared.item.Item.{Item}

-- ---- for every page, item and draft
-- the draft with the page's zone in it
abbrev pub loaded : {B : Type 0} → Kind B → (page_places : List ℕ) → (page before : List B) → List B
loaded kind page_places page before = written (in_page kind page) (page_points page_places) before

-- the page's tokens; more than there is room for in a draft are none
abbrev pub copied : List ℕ → ArrayVec ℕ
copied page_places = record { items = if nat_le (length page_places) 12 then page_places else [] }

-- the target stays as it is, and a listed zone goes back through a delay or a firing
abbrev pub StepBack : {B : Type 0} → Kind B → Net B → (page_places : List ℕ) →
    (zone transition matching : ℕ) → (draft after : List B) → Option (ArrayVec ℕ) → Type 0
StepBack kind net page_places zero t n draft after answer =
    (answer ≡ Some (copied page_places)) × (after ≡ draft)
StepBack kind net page_places (suc zone) zero n draft after answer =
    (answer ≡ Some (copied page_places)) × DelayedBack kind page_places draft after
StepBack kind net page_places (suc zone) (suc t) n draft after answer =
    FiringBack kind net (suc t) n page_places draft after answer

-- ---- for an item that is due, and its page
-- the page holds the zone, in the form that pages have
pub record PageHolds {B : Type 0} (kind : Kind B) (z : Zone B) (page_places : List ℕ)
    (page : List B) : Type 0 where
  pub same : SameZone z (page_zone kind page_places page)
  pub formed : PageFormed kind z

-- with these tokens the draft has the item's zone, or the item is void
abbrev pub ItemAnswer : {B : Type 0} → Kind B → Net B → (target : Zone B) → List (Zone B) → Item →
    (draft : List B) → Option (ArrayVec ℕ) → Type 0
ItemAnswer kind net target listed d draft None =
    VoidItem kind net target listed d.zone d.transition d.matching
ItemAnswer kind net target listed d draft (Some tokens) =
    ItemZone kind net target listed d.zone d.transition d.matching
    (draft_zone kind tokens.items draft)

pub record ZoneMade {B : Type 0} (kind : Kind B) (net : Net B) (page_places : List ℕ)
    (page : List B) (d : Item) (before after : List B) (answer : Option (ArrayVec ℕ)) : Type 0 where
  pub kept : length after ≡ length before
  pub step : StepBack kind net page_places d.zone d.transition d.matching
      (loaded kind page_places page before) after answer
  pub answered : (target : Zone B) (listed : List (Zone B)) → length before ≡ draft_cells →
      IsDue net (places_of_all listed) d →
      PageHolds kind (zone_named target listed d.zone) page_places page →
      ItemAnswer kind net target listed d after answer
