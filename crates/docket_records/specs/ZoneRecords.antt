-- Zone records: the zone that their bytes say, and what is wrong with bytes that say none.
--     record     spare 4 bits, tokens 4, eight places of 6, spare 40, 72 bounds of 20; the most
--                significant bit first
--     bounds     by rows, j = 0 to 8, in each row the columns i = 0 to 8 without i = j
--     bound      a mark, 1 bit, and a number, 19 bits in two's complement; the least number says no
--                limit
-- A byte past the end reads as 0.
use Rattle.std.specs.Prelude.{ℕ, ◌+◌, ◌-◌, ◌*◌, ◌^◌, min, Bool, not, ◌&&◌, ◌||◌, List, [], ◌∷◌, map}
use Rattle.std.specs.Prelude.{length, ℤ, pos, ◌-ℤ◌, neg_ℤ, Some, None, Option, is_some, is_none}
use Rattle.std.specs.Prelude.{◌==◌, nat_le, nat_lt, if◌then◌else◌}
use Rattle.bounds.specs.Kinds.{Kind}
use Rattle.net_records.specs.Bits.{field, flag}
use Rattle.std.specs.List.{list_any, range_with_len}
use Rattle.std.specs.Ordering.{int_eq}
use Rattle.net_records.specs.Rows.{Row, row, first_refusal}
use Rattle.zones.specs.Zones.{Zone}
use Rattle.docket_records.specs.Records.{zone_size}
use Rattle.docket_records.specs.declared.record_bound.RecordBound.{RecordBound}
use Rattle.docket_records.specs.declared.fault.EntryRefusal.{EntryRefusal}
use Rattle.docket_records.specs.declared.fault.EntryRefusal.TheVariants.{WrongLength, NotZero}
use Rattle.docket_records.specs.declared.fault.EntryRefusal.TheVariants.{TooMany, NoSuchPlace}
use Rattle.docket_records.specs.declared.fault.EntryRefusal.TheVariants.{MarkUnderPlain}

-- ---- what a record says
unfoldable pub tokens_of : List ℕ → ℕ
tokens_of bytes = field bytes 4 4

-- the place of a token, numbered from 1; 0 of any other number
unfoldable pub place_at : List ℕ → ℕ → ℕ
place_at bytes t = if nat_le 1 t && nat_le t 8 then field bytes (8 + 6 * (t - 1)) 6 else 0

-- how many bounds stand before that of j and i
abbrev pub entry_number : ℕ → ℕ → ℕ
entry_number j i = 8 * j + (if nat_lt j i then i - 1 else i)

-- the first bit of that bound
abbrev pub entry_start : ℕ → ℕ → ℕ
entry_start j i = 96 + 20 * entry_number j i

unfoldable pub mark_at : List ℕ → ℕ → ℕ → Bool
mark_at bytes j i = flag bytes (entry_start j i)

-- 19 bits in two's complement
abbrev pub signed : ℕ → ℤ
signed n = if nat_lt n (2 ^ 18) then pos n else pos n -ℤ pos (2 ^ 19)

-- the least number of 19 bits says no limit
abbrev pub no_limit_code : ℤ
no_limit_code = neg_ℤ (pos (2 ^ 18))

-- none is no limit
abbrev pub limit_of : ℤ → Option ℤ
limit_of n = if int_eq n no_limit_code then None else Some n

unfoldable pub number_at : List ℕ → ℕ → ℕ → Option ℤ
number_at bytes j i = limit_of (signed (field bytes (entry_start j i + 1) 19))

-- a mark and a number
abbrev pub entry_at : List ℕ → ℕ → ℕ → RecordBound
entry_at bytes j i = record { mark = mark_at bytes j i; number = number_at bytes j i }

-- no limit, or the bound of a number; a kind without marks has none of them
abbrev pub limit : {B : Type 0} → Kind B → Bool → Option ℤ → B
limit kind mark None = kind.no_limit
limit kind mark (Some n) = kind.number n (mark && kind.marks)

abbrev pub entry_bound : {B : Type 0} → Kind B → RecordBound → B
entry_bound kind e = limit kind e.mark e.number

-- zero from a point to itself, and no limit past the last point
abbrev pub bound_at : {B : Type 0} → Kind B → List ℕ → ℕ → ℕ → B
bound_at kind bytes j i =
    if j == i then kind.zero
    else (if nat_le j 8 && nat_le i 8 then entry_bound kind (entry_at bytes j i) else kind.no_limit)

-- the zone of at most 8 tokens
abbrev pub zone_of : {B : Type 0} → Kind B → List ℕ → Zone B
zone_of kind bytes =
    record {
      places = map (place_at bytes) (range_with_len 1 (min (tokens_of bytes) 8));
      bound = bound_at kind bytes;
    }

-- ---- what is wrong with a record
-- p holds of some of the tokens 1 to 8
unfoldable pub some_token : (ℕ → Bool) → Bool
some_token p = list_any p (range_with_len 1 8)

-- of two points that are not the same
abbrev pub apart : (ℕ → ℕ → Bool) → ℕ → ℕ → Bool
apart p j i = not (j == i) && p j i

-- of some bound of row j
unfoldable pub some_in_row : (ℕ → ℕ → Bool) → ℕ → Bool
some_in_row p j = list_any (apart p j) (range_with_len 0 9)

-- of some bound
unfoldable pub some_bound : (ℕ → ℕ → Bool) → Bool
some_bound p = list_any (some_in_row p) (range_with_len 0 9)

-- the bound is of two points that the record has
abbrev pub is_present : List ℕ → ℕ → ℕ → Bool
is_present bytes j i = nat_le j (tokens_of bytes) && nat_le i (tokens_of bytes)

abbrev pub wrong_length : List ℕ → Bool
wrong_length bytes = not (length bytes == zone_size)

unfoldable pub spare_set : List ℕ → Bool
spare_set bytes = not (field bytes 0 4 == 0) || not (field bytes 56 40 == 0)

-- the place of an absent token is not zero
abbrev pub unused_place : List ℕ → ℕ → Bool
unused_place bytes t = nat_lt (tokens_of bytes) t && not (place_at bytes t == 0)

-- an absent bound is not the plain code of no limit, or a present one is that code with a mark
abbrev pub unclean_entry : Bool → RecordBound → Bool
unclean_entry present e = if present then e.mark && is_none e.number else e.mark || is_some e.number

abbrev pub unclean_bound : List ℕ → ℕ → ℕ → Bool
unclean_bound bytes j i = unclean_entry (is_present bytes j i) (entry_at bytes j i)

-- a record of 9 to 15 tokens leaves nothing unused
abbrev pub not_zero : List ℕ → Bool
not_zero bytes =
    spare_set bytes || (some_token (unused_place bytes) || some_bound (unclean_bound bytes))

abbrev pub too_many : List ℕ → Bool
too_many bytes = nat_lt 8 (tokens_of bytes)

abbrev pub place_missing : ℕ → List ℕ → ℕ → Bool
place_missing net_places bytes t =
    nat_le t (tokens_of bytes) && nat_le net_places (place_at bytes t)

abbrev pub no_such_place : ℕ → List ℕ → Bool
no_such_place net_places bytes = some_token (place_missing net_places bytes)

abbrev pub has_mark : List ℕ → ℕ → ℕ → Bool
has_mark bytes j i = is_present bytes j i && mark_at bytes j i

abbrev pub mark_under_plain : Bool → List ℕ → Bool
mark_under_plain marks bytes = not marks && some_bound (has_mark bytes)

-- under a kind that takes marks or not, and a net of so many places
abbrev pub zone_rows : Bool → ℕ → List ℕ → List (Row EntryRefusal)
zone_rows marks net_places bytes =
    row 20 WrongLength (wrong_length bytes)
    ∷ (row 21 NotZero (not_zero bytes)
    ∷ (row 22 TooMany (too_many bytes)
    ∷ (row 23 NoSuchPlace (no_such_place net_places bytes)
    ∷ (row 24 MarkUnderPlain (mark_under_plain marks bytes)
    ∷ []))))

-- the lowest number counts
abbrev pub zone_fault : Bool → ℕ → List ℕ → Option EntryRefusal
zone_fault marks net_places bytes = first_refusal (zone_rows marks net_places bytes)
