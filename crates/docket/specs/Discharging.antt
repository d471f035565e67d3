-- What one voucher for one item comes to, once the stage and the lent memory are right.
--     item      the first that is due
--     rows      the scratch page with the rows of the zone that the item asks for
use Rattle.std.specs.Prelude.{
  ◌≡◌,
  ℕ,
  ◌+◌,
  false,
  if◌then◌else◌,
  not,
  List,
  ◌++◌,
  length,
  Ok,
  Err,
  Result,
  IsTrue,
  Some,
  None,
  Option,
  ◌==◌,
  min,
}
use Rattle.zone_pages.specs.Objections.{objection_of}
use Rattle.zone_pages.specs.declared.objections.Objection.{Objection}
use Rattle.bounds.specs.Kinds.{Kind}
use Rattle.zone_cells.specs.Cells.{in_page}
use Rattle.zone_cells.specs.Drafts.{page_zone}
use Rattle.zone_cells.specs.Sizes.{draft_cells}
use Rattle.docket_dues.specs.Answered.{Answered, places_of_all}
use Rattle.docket_dues.specs.Dues.{Leads}
use Rattle.docket_dues.specs.declared.item.Item.{Item}
use Rattle.docket_vouching.specs.Asked.{WorksOut, own_zone, rows_within}
use Rattle.docket_vouching.specs.declared.work.Parts.{Parts}
use Rattle.docket_records.specs.Records.{voucher_size}
use Rattle.docket_records.specs.Vouchers.{voucher_of}
use Rattle.docket_records.specs.declared.fault.EntryRefusal.{EntryRefusal}
use Rattle.docket_records.specs.declared.fault.EntryRefusal.TheVariants.{WrongLength, NotZero}
use Rattle.docket_records.specs.declared.voucher.Voucher.{Voucher}
use Rattle.nets.specs.Nets.{Net}
use Rattle.docket_refusals.specs.declared.refusal.CallRefusal.TheVariants.{
  Entry,
  NotVoid,
  VoidItem as IsVoid,
  NoSuchZone,
  Objected,
}
use Rattle.docket_rules.specs.Calls.{Sound, is_early, most_taken, stage_of}
use Rattle.docket_rules.specs.Tables.{
  Answer,
  Answers,
  Begins,
  Rule,
  item_rules,
  pairing_of,
  stray_set,
  voucher_rules,
}
use Rattle.docket_rules.specs.Worlds.{
  Lent,
  State,
  World,
  page_cells_at,
  in_list,
  listed_pages,
  page_of,
  page_places_at,
  whole,
}
use Rattle.docket_rules.specs.declared.stage.Stage.TheVariants.{Proving}
use Rattle.zones.specs.Zones.{Zone}

-- the voucher that the bytes are, or what is wrong with them
abbrev pub voucher_read : State → (bytes : List ℕ) → Result Voucher EntryRefusal
voucher_read s bytes =
    if not (length bytes == voucher_size) then Err WrongLength
    else if stray_set s bytes then Err NotZero
    else Ok (voucher_of bytes)

-- what stands against the zone that the voucher names, as one that vouches for a zone
abbrev pub objection_to : {B : Type 0} → Kind B → World B → Voucher → (asked : Zone B) →
    Result (Unit {0}) Objection
objection_to kind w v asked = objection_of kind (page_of kind w v.zone) asked (pairing_of w.state v)

abbrev pub objected : Result (Unit {0}) Objection → Answer
objected (Ok u) = Ok tt
objected (Err o) = Err (Objected o)

-- the zone that was worked out over a page, with its rows in these cells; none of a void item
abbrev pub zone_worked : {B : Type 0} → Kind B → (page rows : List B) → Option Parts →
    Option (Zone B)
zone_worked kind page rows None = None
zone_worked kind page rows (Some parts) =
    Some (own_zone kind (in_page kind page) (rows_within kind rows) parts)

-- the answer to a voucher for an item that asks for this zone, or for none as it is void
abbrev pub judged : {B : Type 0} → Kind B → World B → Voucher → (asked : Option (Zone B)) → Answer
judged kind w v None = if v.void then Ok tt else Err IsVoid
judged kind w v (Some asked) =
    if v.void then Err NotVoid
    else if in_list w.state v.zone then objected (objection_to kind w v asked)
    else Err NoSuchZone

-- the answer by the cells as they are, whatever the pages hold: over the item's page the item comes
-- to these parts, with rows in these cells
pub record Judges {B : Type 0} (kind : Kind B) (net : Net B) (w : World B) (d : Item)
    (scratch : List B) (v : Voucher) (answer : Answer) : Type 0 where
  pub rows : List B
  pub parts : Option Parts
  pub works : WorksOut kind net (page_zone kind (page_places_at w d.zone) (page_cells_at w d.zone)) d
      scratch rows parts
  pub answer_is : answer ≡ judged kind w v (zone_worked kind (page_cells_at w d.zone) rows parts)

abbrev pub Worked : {B : Type 0} → Kind B → Net B → World B → Item → (scratch : List B) →
    Result Voucher EntryRefusal → Answer → Type 0
Worked kind net w d scratch (Ok v) answer = Judges kind net w d scratch v answer
Worked kind net w d scratch (Err r) answer = answer ≡ Err (Entry r)

abbrev pub weigh_rules : {B : Type 0} → Kind B → Net B → World B → Item → (bytes : List ℕ) →
    List Rule
weigh_rules kind net w d bytes =
    voucher_rules w.state bytes
    ++ item_rules kind net w.state (page_of kind w) d (voucher_of bytes)

pub record Weighed {B : Type 0} (kind : Kind B) (net : Net B) (w : World B) (bytes : List ℕ)
    (d : Item) (before after : List B) (answer : Answer) : Type 0 where
  pub kept : length after ≡ length before
  pub late : is_early answer ≡ false
  pub begins : Begins (voucher_rules w.state bytes) answer
  pub worked : Worked kind net w d before (voucher_read w.state bytes) answer
  pub answers : w.state.stage ≡ Proving d → length before ≡ draft_cells → Sound kind net w →
      Answers (weigh_rules kind net w d bytes) answer
  pub answered : w.state.stage ≡ Proving d → length before ≡ draft_cells → Sound kind net w →
      answer ≡ Ok tt → Answered kind net (page_of kind w 0) (listed_pages kind w) d

-- of a call in proving, with lent memory of its lengths
abbrev pub Works : {B : Type 0} → Kind B → Net B → (bytes : List ℕ) → Lent B → Answer → Type 0
Works kind net bytes before answer =
    (d : Item) → before.world.state.stage ≡ Proving d → IsTrue (whole before) →
    Worked kind net before.world d before.scratch (voucher_read before.world.state bytes) answer

-- the item that follows is due, or the docket is sealed, and one voucher more is taken
pub record Advanced {B : Type 0} (kind : Kind B) (net : Net B) (w : World B) (d : Item)
    (after : State) : Type 0 where
  pub next : Option Item
  pub leads : Leads net (places_of_all (listed_pages kind w)) d next
  pub state : after ≡
      record w.state { stage = stage_of next; taken = min (w.state.taken + 1) most_taken }
