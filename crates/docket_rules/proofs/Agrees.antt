-- That a docket and its book agree with what the calls taken have given: what every call keeps.
--
use Rattle.std.specs.Prelude.{◌≡◌, ℕ, ◌≤◌, false, ◌∷◌, map, length, take, Some, None, Option}
use Rattle.bounds.specs.Kinds.{Kind}
use Rattle.docket_dues.specs.Answered.{Answered, places_of_all}
use Rattle.docket_dues.specs.Dues.{Awaits, all_due}
use Rattle.docket_dues.specs.declared.item.Item.{Item}
use Rattle.zone_markings.specs.Initial.{marking_of}
use Rattle.nets.specs.Nets.{Net, Every, numbered}
use Rattle.docket_rules.specs.Calls.{PageFormed}
use Rattle.docket_rules.specs.Logs.{Log, Opening, no_log, stage_said}
use Rattle.docket_rules.specs.Worlds.{World, blank, book_cells, book_places, listed_pages, page_of}
use Rattle.zones.specs.Zones.{Zone, NormalOf, Satisfies}

-- the page holds the normal form of z
pub record PageAgrees {B : Type 0} (kind : Kind B) (z page : Zone B) : Type 0 where
  pub normal : NormalOf kind z page
  pub formed : PageFormed kind page

-- the zone with this number, the target's 0
abbrev pub zone_said : {B : Type 0} → Opening B → Log B → ℕ → Zone B
zone_said o log p = numbered log.listed p o.target

pub record AgreesOpened {B : Type 0} (kind : Kind B) (net : Net B) (log : Log B) (o : Opening B) (w : World B) : Type 0 where
  pub cells : length w.cells ≡ book_cells
  pub places : length w.places ≡ book_places
  pub initial : w.state.initial ≡ o.initial
  pub counts : w.state.counts ≡ map (λ z. length z.places) (o.target ∷ log.listed)
  pub few : length log.listed ≤ 63
  pub pages : (p : ℕ) → p ≤ length log.listed → PageAgrees kind (zone_said o log p) (page_of kind w p)
  pub apart : (p : ℕ) → 1 ≤ p → p ≤ length log.listed → Satisfies kind 1 (page_of kind w p) (marking_of o.initial) → ⊥
  pub answered : Every (Answered kind net (page_of kind w 0) (listed_pages kind w)) (take log.taken (all_due net (places_of_all log.listed)))
  -- the first item that is still due
  pub turn : Option Item
  pub awaits : Awaits net (places_of_all log.listed) log.taken turn
  pub stage : w.state.stage ≡ stage_said net log (Some o) log.closed
  pub taken : w.state.taken ≡ log.taken
  pub fresh : log.closed ≡ false → log.taken ≡ 0

abbrev pub AgreesAs : {B : Type 0} → Kind B → Net B → Log B → World B → Option (Opening B) → Type 0
AgreesAs kind net log w None = (log ≡ no_log) × (w.state ≡ blank)
AgreesAs kind net log w (Some o) = (log.opening ≡ Some o) × AgreesOpened kind net log o w

abbrev pub Agrees : {B : Type 0} → Kind B → Net B → Log B → World B → Type 0
Agrees kind net log w = AgreesAs kind net log w log.opening
