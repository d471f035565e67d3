-- The number and the text of each refusal of a record after the net.
use Rattle.std.specs.Prelude.{ℕ, List, codes}
use Rattle.net_records.specs.Refusals.{located}
use Rattle.net_records.specs.declared.fault.Fault.{Fault}
use Rattle.docket_records.specs.declared.fault.EntryRefusal.{EntryRefusal}
use Rattle.docket_records.specs.declared.fault.EntryRefusal.TheVariants.{WrongLength, NotZero}
use Rattle.docket_records.specs.declared.fault.EntryRefusal.TheVariants.{TooMany, NoSuchPlace}
use Rattle.docket_records.specs.declared.fault.EntryRefusal.TheVariants.{MarkUnderPlain}
use Rattle.docket_records.specs.declared.fault.EntryRefusal.TheVariants.{Inconsistent}

abbrev pub entry_number_of : EntryRefusal → ℕ
entry_number_of WrongLength = 20
entry_number_of NotZero = 21
entry_number_of TooMany = 22
entry_number_of NoSuchPlace = 23
entry_number_of MarkUnderPlain = 24
entry_number_of Inconsistent = 25

abbrev pub entry_text : EntryRefusal → List ℕ
entry_text WrongLength = codes "a record has the wrong length"
entry_text NotZero = codes "a spare or unused field is not zero, or no limit has a mark"
entry_text TooMany = codes "more than 8 tokens"
entry_text NoSuchPlace = codes "a place is not in the net"
entry_text MarkUnderPlain = codes "a strict mark under plain kind"
entry_text Inconsistent = codes "no marking satisfies the zone"

abbrev pub EntryFault : Type 0
EntryFault = Fault EntryRefusal

-- a refusal by number and text, with its record
abbrev pub entry_fault_text : EntryFault → List ℕ
entry_fault_text = located entry_number_of entry_text
