-- The number and the text of each refusal of a net record.
use Rattle.std.specs.Prelude.{ℕ, List, ◌++◌, codes, decimal}
use Rattle.net_records.specs.declared.fault.Fault.{Fault}
use Rattle.net_records.specs.declared.fault.NetRefusal.{NetRefusal}
use Rattle.net_records.specs.declared.fault.NetRefusal.TheVariants.{BytesMissing, NotZero}
use Rattle.net_records.specs.declared.fault.NetRefusal.TheVariants.{OutsideLimits, NoSuchPlace}
use Rattle.net_records.specs.declared.fault.NetRefusal.TheVariants.{MarkUnderPlain, EmptyRange}

abbrev pub refusal_number : NetRefusal → ℕ
refusal_number BytesMissing = 10
refusal_number NotZero = 11
refusal_number OutsideLimits = 12
refusal_number NoSuchPlace = 13
refusal_number MarkUnderPlain = 14
refusal_number EmptyRange = 15

abbrev pub refusal_text : NetRefusal → List ℕ
refusal_text BytesMissing = codes "bytes are missing"
refusal_text NotZero = codes "a spare or unused field is not zero"
refusal_text OutsideLimits = codes "a count, kind or range end is outside its limits"
refusal_text NoSuchPlace = codes "a place is not in the net"
refusal_text MarkUnderPlain = codes "a strict mark under plain kind"
refusal_text EmptyRange = codes "the bounds of a range sum below zero"

-- a refusal by number and text, with its record
abbrev pub located : {R : Type 0} → (R → ℕ) → (R → List ℕ) → Fault R → List ℕ
located number text fault =
    decimal (number fault.refusal)
    ++ (codes " in record " ++ (decimal fault.at ++ (codes ": " ++ text fault.refusal)))

abbrev pub NetFault : Type 0
NetFault = Fault NetRefusal

abbrev pub fault_text : NetFault → List ℕ
fault_text = located refusal_number refusal_text
