-- What bytes are read as: a record of one size, or what is wrong with them.
use Rattle.std.specs.Prelude.{ℕ, Bool, not, List, [], ◌∷◌, length, Ok, Err, Result, ◌==◌}
use Rattle.net_records.specs.Rows.{Row, row, answer_of}
use Rattle.docket_records.specs.Refusals.{EntryFault}
use Rattle.docket_records.specs.declared.fault.EntryRefusal.{EntryRefusal}
use Rattle.docket_records.specs.declared.fault.EntryRefusal.TheVariants.{WrongLength, NotZero}

-- ---- how many bytes the records have
abbrev pub header_size : ℕ
header_size = 4

abbrev pub token_size : ℕ
token_size = 3

abbrev pub zone_size : ℕ
zone_size = 192

abbrev pub voucher_size : ℕ
voucher_size = 6

-- what may be wrong with a record of so many bytes, of which some are spare
abbrev pub size_rows : ℕ → (List ℕ → Bool) → List ℕ → List (Row EntryRefusal)
size_rows size spare bytes =
    row 20 WrongLength (not (length bytes == size)) ∷ (row 21 NotZero (spare bytes) ∷ [])

abbrev pub read_as : {X : Type 0} → ℕ → (List ℕ → Bool) → (List ℕ → X) → List ℕ →
    Result X EntryRefusal
read_as size spare said bytes = answer_of (said bytes) (size_rows size spare bytes)

-- a refusal of the record with this number
abbrev pub placed : {X : Type 0} → ℕ → Result X EntryRefusal → Result X EntryFault
placed at (Ok x) = Ok x
placed at (Err refusal) = Err (record { refusal = refusal; at = at })
