-- An arc slot: five bytes that say a place and a range.
use Rattle.std.specs.Prelude.{ℕ, zero, suc, ◌+◌, Bool, false, not, ◌&&◌, ◌||◌, List, [], ◌∷◌}
use Rattle.std.specs.Prelude.{if◌then◌else◌}
use Rattle.std.specs.Prelude.{take, drop, Some, None, Option, pos, neg_ℤ, ◌==◌, if◌then◌else◌}
use Rattle.std.specs.Prelude.{◌≡◌, ◌<◌, ◌≤◌, length, MatchOption}
use Rattle.std.specs.Borrow.{Bor}
use Rattle.bounds.specs.Kinds.{Kind}
use Rattle.bounds.specs.MarkedKind.{marked_kind}
use Rattle.bounds.specs.Ranges.{below_zero}
use Rattle.bounds.specs.declared.range.Range.{Range}
use Rattle.net_records.specs.Bits.{field, flag}
use Rattle.net_records.specs.Sizes.{slot_size}
use Rattle.net_records.specs.declared.slot.End.{End}
use Rattle.net_records.specs.declared.slot.Slot.{Slot}

abbrev pub is_set : End → Bool
is_set e = e.strict || not (e.number == 0)

-- the end whose mark is bit i, and whose number is the 15 bits behind it
abbrev pub end_at : List ℕ → ℕ → End
end_at bytes i = record { strict = flag bytes i; number = field bytes (i + 1) 15 }

abbrev pub zero_end : End
zero_end = record { strict = false; number = 0 }

-- 6 bits for the place, the mark of the lower end and its 15 bits, the flag of no limit, the mark of
-- the upper end and its 15 bits, and one bit that is spare
abbrev pub slot_of : List ℕ → Slot
slot_of bytes =
    record {
      place = field bytes 0 6;
      lower = end_at bytes 6;
      upper = if flag bytes 22 then None else Some (end_at bytes 23);
      unused = if flag bytes 22 then end_at bytes 23 else zero_end;
      spare = flag bytes 39;
    }

-- the slot at the front of bytes, and the bytes behind it; none of fewer bytes
abbrev pub SplitSlot : List ℕ → Option (Slot × Bor (List ℕ)) → Type 0
SplitSlot bytes answer =
    MatchOption answer
    (length bytes < slot_size)
    (λ p. (slot_size ≤ length bytes)
    × (p.0 ≡ slot_of (take slot_size bytes))
    × (p.1.now ≡ drop slot_size bytes))

-- so many slots, one after the other
abbrev pub slots_of : ℕ → List ℕ → List Slot
slots_of zero bytes = []
slots_of (suc n) bytes = slot_of (take slot_size bytes) ∷ slots_of n (drop slot_size bytes)

-- ---- the range of a slot; a kind without marks has none of them
abbrev pub upper_bound : {B : Type 0} → Kind B → Option End → B
upper_bound kind None = kind.no_limit
upper_bound kind (Some e) = kind.number (pos e.number) (e.strict && kind.marks)

abbrev pub lower_bound : {B : Type 0} → Kind B → End → B
lower_bound kind e = kind.number (neg_ℤ (pos e.number)) (e.strict && kind.marks)

abbrev pub slot_range : {B : Type 0} → Kind B → Slot → Range B
slot_range kind s = record { upper = upper_bound kind s.upper; lower = lower_bound kind s.lower }

-- ---- what is asked of a slot
-- the upper end is there, and zero
abbrev pub is_zero : Option End → Bool
is_zero None = false
is_zero (Some e) = not (is_set e)

-- every bit is zero
abbrev pub is_unused : Slot → Bool
is_unused s =
    s.place == 0
    && (not (is_set s.lower) && (is_zero s.upper && (not (is_set s.unused) && not s.spare)))

-- the two bounds of its range, with their marks, sum below zero
abbrev pub is_empty : Slot → Bool
is_empty s = below_zero marked_kind (slot_range marked_kind s)

abbrev pub is_strict : Option End → Bool
is_strict None = false
is_strict (Some e) = e.strict

-- an end has a mark, also one behind no limit
abbrev pub has_mark : Slot → Bool
has_mark s = s.lower.strict || (is_strict s.upper || s.unused.strict)

-- a bit that says nothing is set
abbrev pub has_stray_bit : Slot → Bool
has_stray_bit s = s.spare || is_set s.unused
