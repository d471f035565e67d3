-- What stands against a page's vouching for a zone, the lowest number first, and what it means that
-- nothing does.
use Rattle.std.specs.Prelude.{◌≡◌, ℕ, List, Ok, Err, Result, codes, if◌then◌else◌}
use Rattle.bounds.specs.Kinds.{Kind}
use Rattle.zone_pages.specs.Comparison.{partners_unsound, places_differ, bound_exceeds}
use Rattle.zone_cells.specs.Drafts.{draft_zone, page_zone}
use Rattle.zones.specs.Vouching.{Vouches}
use Rattle.zone_pages.specs.declared.vouching.Claim.{Claim}
use Rattle.zones.specs.Zones.{Zone}
use Rattle.zone_pages.specs.declared.objections.Objection.{Objection}
use Rattle.zone_pages.specs.declared.objections.Objection.TheVariants.{Partner, Place, Bound}

abbrev pub objection_number : Objection → ℕ
objection_number Partner = 30
objection_number Place = 31
objection_number Bound = 32

abbrev pub objection_text : Objection → List ℕ
objection_text Partner = codes "a partner is no token of the item, or is used twice"
objection_text Place = codes "a token stands in another place than its partner"
objection_text Bound = codes "a bound of the item is larger than the zone's"

abbrev pub objection_of : {B : Type 0} → Kind B → (page asked : Zone B) → List ℕ →
    Result (Unit {0}) Objection
objection_of kind page asked pairing =
    if partners_unsound page.places asked.places pairing then Err Partner
    else if places_differ page.places asked.places pairing then Err Place
    else if bound_exceeds kind page.bound asked.bound pairing then Err Bound
    else Ok tt

-- ---- a claim: its two zones
abbrev pub vouching_zone : {B : Type 0} → Kind B → Claim B → Zone B
vouching_zone kind claim = page_zone kind claim.page.places.now claim.page.cells.now

abbrev pub asked_zone : {B : Type 0} → Kind B → Claim B → Zone B
asked_zone kind claim = draft_zone kind claim.asked.places.now claim.asked.cells.now

-- nothing stands against it exactly where the page's zone vouches for the zone asked for
pub record Means {B : Type 0} (kind : Kind B) (page asked : Zone B) (pairing : List ℕ)
    (answer : Result (Unit {0}) Objection) : Type 0 where
  pub vouches : answer ≡ Ok tt → Vouches kind page asked pairing
  pub nothing : Vouches kind page asked pairing → answer ≡ Ok tt
