-- What a reader holds, and what it hands on.
use Rattle.std.specs.Prelude.{◌≡◌, ℕ, ◌+◌, ◌<◌, ◌≤◌, ◌⊎◌, List, length, take, drop, is_ok, IsTrue}
use Rattle.std.specs.Prelude.{Ok, Err, Result, if◌then◌else◌, nat_le}
use Rattle.net_records.specs.declared.fault.Missing.{Missing}
use Rattle.net_records.specs.declared.reader.Part.{Part}

-- the bytes that are left, and the number of the record that they begin with
pub record Unread : Type 0 where
  pub rest : List ℕ
  pub next : ℕ

-- what is left behind a record of this size
abbrev pub past : ℕ → Unread → Unread
past size before = record { rest = drop size before.rest; next = before.next + 1 }

-- a record is taken off what is left, or is not there and nothing moves
abbrev pub Parted : ℕ → Unread → Result Part Missing → Unread → Type 0
Parted size before (Ok part) after =
    (0 < size)
    × (size ≤ length before.rest)
    × (part.bytes.now ≡ take size before.rest)
    × (length part.bytes.now ≡ size)
    × (part.at ≡ before.next)
    × (after ≡ past size before)
Parted size before (Err missing) after =
    ((size ≡ 0) ⊎ (length before.rest < size)) × (missing.at ≡ before.next) × (after ≡ before)

-- a record of this size is behind the reader, if all went well
abbrev pub Moved : {T E : Type 0} → ℕ → Unread → Result T E → Unread → Type 0
Moved size before answer after = IsTrue (is_ok answer) → after ≡ past size before

-- what is left once a record of this size was asked for: where it is not there, all of it
abbrev pub asked : ℕ → Unread → Unread
asked size before = if nat_le size (length before.rest) then past size before else before
