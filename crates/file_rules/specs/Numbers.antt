-- The number that is printed of a fault in the net. Those of the docket's calls go by number as the
-- calls' tables do.
use Rattle.std.specs.Prelude.{◌≡◌, List, ℕ, Some}
use Rattle.file_rules.specs.FileRefusals.{file_number}
use Rattle.file_rules.specs.declared.fault.FileRefusal.TheVariants.{Net as InNet}
use Rattle.net_records.specs.NetRecords.{net_fault, rows_at}
use Rattle.net_records.specs.Refusals.{NetFault}
use Rattle.net_records.specs.Rows.{first_number}

-- it is the first number that holds in the table of the record at fault
abbrev pub NetNumbered : List ℕ → Type 0
NetNumbered bytes =
    (fault : NetFault) →
    net_fault bytes ≡ Some fault →
    first_number (rows_at bytes fault.at) ≡ Some (file_number (InNet fault.refusal))
