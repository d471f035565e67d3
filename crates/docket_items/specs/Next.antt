-- What follows an item: a later matching of its firing, else a later transition of its zone, else
-- the
-- first item of a later zone.
use Rattle.std.specs.Prelude.{
  ◌≡◌,
  ℕ,
  ◌+◌,
  ◌≤◌,
  ◌&&◌,
  List,
  [],
  length,
  Some,
  None,
  Option,
  if◌then◌else◌,
  nat_lt,
}
use Rattle.std.specs.Option.{option_or}
use Rattle.zone_matchings.specs.Next.{Next}
use Rattle.nets.specs.Nets.{Net, arcs_of, numbered}
use Rattle.nets.specs.declared.side.Side.TheVariants.{Output}
use Rattle.zones.specs.Predecessors.{is_matching}
use Rattle.docket_dues.specs.Dues.{delay_item, item}
use Rattle.docket_dues.specs.declared.item.Item.{Item}

-- the same firing with its next matching; neither the target nor a delay has one
pub record Later {B : Type 0} (net : Net B) (places : List ℕ) (d later : Item) : Type 0 where
  pub listed_zone : 1 ≤ d.zone
  pub firing : 1 ≤ d.transition
  pub zone : later.zone ≡ d.zone
  pub transition : later.transition ≡ d.transition
  pub next : Next (is_matching places (arcs_of net d.transition Output)) d.matching
      (Some later.matching)

abbrev pub LaterMatching : {B : Type 0} → Net B → (places : List ℕ) → Item → Option Item → Type 0
LaterMatching net places d None = 1 ≤ d.zone → 1 ≤ d.transition → Next
    (is_matching places (arcs_of net d.transition Output)) d.matching None
LaterMatching net places d (Some later) = Later net places d later

-- the first matching of every transition is 0
abbrev pub later_transition : {B : Type 0} → Net B → Item → Option Item
later_transition net d =
    if nat_lt 0 d.zone && nat_lt d.transition (length net.transitions)
    then Some (item d.zone (d.transition + 1) 0)
    else None

abbrev pub later_zone : (zones : ℕ) → Item → Option Item
later_zone zones d = if nat_lt d.zone zones then Some (delay_item (d.zone + 1)) else None

-- the first of the three that there is
pub record Follows {B : Type 0} (net : Net B) (zones : ℕ) (places : List ℕ) (d : Item)
    (answer : Option Item) : Type 0 where
  pub matching : Option Item
  pub later : LaterMatching net places d matching
  pub is : answer ≡ option_or (option_or matching (later_transition net d)) (later_zone zones d)

-- so many zones are listed, and this one, where it is no target, has these places
pub record Lists (listed : List (List ℕ)) (zones zone : ℕ) (places : List ℕ) : Type 0 where
  pub all : length listed ≡ zones
  pub here : 1 ≤ zone → numbered listed zone [] ≡ places
