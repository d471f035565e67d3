-- The number and the text of each refusal of a docket's calls.
use Rattle.std.specs.Prelude.{ℕ, List, codes}
use Rattle.zone_pages.specs.Objections.{objection_number, objection_text}
use Rattle.docket_records.specs.Refusals.{entry_number_of, entry_text}
use Rattle.docket_refusals.specs.declared.refusal.CallRefusal.{CallRefusal}
use Rattle.docket_refusals.specs.declared.refusal.CallRefusal.TheVariants.{
  Entry,
  Covered,
  NotVoid,
  VoidItem,
  NoSuchZone,
  Objected,
  WrongStage,
  WrongMemory,
  FullList,
}

abbrev pub call_refusal_number : CallRefusal → ℕ
call_refusal_number (Entry e) = entry_number_of e
call_refusal_number Covered = 26
call_refusal_number NotVoid = 27
call_refusal_number VoidItem = 28
call_refusal_number NoSuchZone = 29
call_refusal_number (Objected o) = objection_number o
call_refusal_number WrongStage = 40
call_refusal_number WrongMemory = 41
call_refusal_number FullList = 42

abbrev pub call_refusal_text : CallRefusal → List ℕ
call_refusal_text (Entry e) = entry_text e
call_refusal_text Covered = codes "the initial marking satisfies the zone"
call_refusal_text NotVoid = codes "the item is not void"
call_refusal_text VoidItem = codes "the item is void"
call_refusal_text NoSuchZone = codes "there is no listed zone of this number"
call_refusal_text (Objected o) = objection_text o
call_refusal_text WrongStage = codes "the call does not belong to this stage"
call_refusal_text WrongMemory =
    codes "lent memory is not of its length, or initial places and ages differ in number"
call_refusal_text FullList = codes "there are 63 listed zones already"
