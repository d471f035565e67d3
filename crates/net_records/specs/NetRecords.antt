-- The net that bytes say, and the first fault of bytes that say none.
--     record      the net header is record 0, and the transitions follow
--     fault       a refusal and the number of its record; within a record the lowest number counts
use Rattle.std.specs.Prelude.{◌≡◌, ℕ, zero, suc, ◌+◌, ◌*◌, Bool, true, false, not, ◌&&◌, ◌||◌, List}
use Rattle.std.specs.Prelude.{[], ◌∷◌, if◌then◌else◌}
use Rattle.std.specs.Prelude.{length, take, drop, is_some, Some, None, Ok, Err, Option, Result}
use Rattle.std.specs.Prelude.{◌==◌}
use Rattle.std.specs.Prelude.{nat_lt, nat_le, if◌then◌else◌}
use Rattle.std.specs.Bool.{then_some}
use Rattle.nets.specs.declared.side.Side.{Side}
use Rattle.nets.specs.declared.side.Side.TheVariants.{Input, Output}
use Rattle.net_records.specs.Bits.{field}
use Rattle.net_records.specs.Rows.{Row, row, first_number, first_refusal}
use Rattle.net_records.specs.Sizes.{header_size, transition_size, side_slots, most_transitions}
use Rattle.net_records.specs.Slots.{slots_of, has_mark, has_stray_bit, is_empty, is_unused}
use Rattle.net_records.specs.Refusals.{NetFault, refusal_number}
use Rattle.net_records.specs.declared.fault.NetRefusal.{NetRefusal}
use Rattle.net_records.specs.declared.fault.NetRefusal.TheVariants.{BytesMissing, NotZero}
use Rattle.net_records.specs.declared.fault.NetRefusal.TheVariants.{OutsideLimits}
use Rattle.net_records.specs.declared.fault.NetRefusal.TheVariants.{NoSuchPlace, MarkUnderPlain}
use Rattle.net_records.specs.declared.fault.NetRefusal.TheVariants.{EmptyRange}
use Rattle.net_records.specs.declared.header.NetHeader.{NetHeader}
use Rattle.net_records.specs.declared.header.NetKind.{NetKind}
use Rattle.net_records.specs.declared.header.NetKind.TheVariants.{Plain, Marked}
use Rattle.net_records.specs.declared.slot.Slot.{Slot}
use Rattle.net_records.specs.declared.transition.TransitionRecord.{TransitionRecord}

-- ---- the net header: kind 2 bits, places less one 6, transitions 7, spare 17
-- kind 2 is marked; 0 and 1 are plain
abbrev pub net_header_of : List ℕ → NetHeader
net_header_of bytes =
    record {
      kind = if field bytes 0 2 == 2 then Marked else Plain;
      places = field bytes 2 6 + 1;
      transitions = field bytes 8 7;
    }

-- what may be wrong with a header's bytes
abbrev pub header_rows : List ℕ → List (Row NetRefusal)
header_rows bytes =
    row 10 BytesMissing (nat_lt (length bytes) header_size)
    ∷ (row 11 NotZero (not (field bytes 15 17 == 0))
    ∷ (row 12 OutsideLimits (field bytes 0 2 == 3 || nat_lt most_transitions (field bytes 8 7))
    ∷ []))

abbrev pub header_refusal : List ℕ → Option NetRefusal
header_refusal bytes = first_refusal (header_rows bytes)

-- ---- a transition: 3 bits for each count, 2 that are spare, then the slots of inputs and outputs
abbrev pub transition_record : List ℕ → TransitionRecord
transition_record bytes =
    record {
      inputs = field bytes 0 3;
      outputs = field bytes 3 3;
      spare = field bytes 6 2;
      slots = slots_of 8 (drop 1 bytes);
    }

-- whose slot i is, counted from 0, where it is used; a count above 4 leaves no slot unused
abbrev pub slot_side : TransitionRecord → ℕ → Option Side
slot_side r i =
    if nat_lt i side_slots then then_some (nat_lt i r.inputs) Input
    else then_some (nat_lt i (side_slots + r.outputs)) Output

-- p holds of some slot from i on, and of whose it is
abbrev pub some_slot_from : (Option Side → Slot → Bool) → TransitionRecord → ℕ → List Slot → Bool
some_slot_from p r i [] = false
some_slot_from p r i (s ∷ ss) = p (slot_side r i) s || some_slot_from p r (i + 1) ss

abbrev pub some_slot : (Option Side → Slot → Bool) → TransitionRecord → Bool
some_slot p r = some_slot_from p r 0 r.slots

-- whether bounds of a kind may carry marks
abbrev pub takes_marks : NetKind → Bool
takes_marks Plain = false
takes_marks Marked = true

-- what may be wrong with a slot, by whose it is
abbrev pub not_zero : Option Side → Slot → Bool
not_zero None s = not (is_unused s)
not_zero (Some side) s = has_stray_bit s

abbrev pub place_missing : NetHeader → Option Side → Slot → Bool
place_missing h side s = is_some side && nat_le h.places s.place

abbrev pub mark_under_plain : NetHeader → Option Side → Slot → Bool
mark_under_plain h side s = is_some side && (not (takes_marks h.kind) && has_mark s)

abbrev pub empty_range : Option Side → Slot → Bool
empty_range side s = is_some side && is_empty s

-- what may be wrong with a transition of full length
abbrev pub record_rows : NetHeader → TransitionRecord → List (Row NetRefusal)
record_rows h r =
    row 11 NotZero (not (r.spare == 0) || some_slot not_zero r)
    ∷ (row 12 OutsideLimits (nat_lt side_slots r.inputs || nat_lt side_slots r.outputs)
    ∷ (row 13 NoSuchPlace (some_slot (place_missing h) r)
    ∷ (row 14 MarkUnderPlain (some_slot (mark_under_plain h) r)
    ∷ (row 15 EmptyRange (some_slot empty_range r)
    ∷ []))))

-- and with a transition's bytes
abbrev pub transition_rows : NetHeader → List ℕ → List (Row NetRefusal)
transition_rows h bytes =
    row 10 BytesMissing (nat_lt (length bytes) transition_size)
    ∷ record_rows h (transition_record bytes)

unfoldable pub transition_refusal : NetHeader → List ℕ → Option NetRefusal
transition_refusal h bytes = first_refusal (transition_rows h bytes)

-- ---- the whole net
abbrev pub at_record : ℕ → Option NetRefusal → Option NetFault
at_record at None = None
at_record at (Some refusal) = Some (record { refusal = refusal; at = at })

abbrev pub or_else : Option NetFault → Option NetFault → Option NetFault
or_else None later = later
or_else (Some fault) later = Some fault

abbrev pub header_fault : List ℕ → Option NetFault
header_fault bytes = at_record 0 (header_refusal (take header_size bytes))

abbrev pub transition_fault : NetHeader → ℕ → List ℕ → Option NetFault
transition_fault h at bytes = at_record at (transition_refusal h (take transition_size bytes))

-- n transitions, the first of them record `at`
abbrev pub transitions_fault : NetHeader → ℕ → ℕ → List ℕ → Option NetFault
transitions_fault h zero at bytes = None
transitions_fault h (suc n) at bytes =
    or_else (transition_fault h at bytes) (transitions_fault h n (at + 1) (drop transition_size bytes))

-- the header at the front of the bytes
abbrev pub front_header : List ℕ → NetHeader
front_header bytes = net_header_of (take header_size bytes)

abbrev pub net_fault : List ℕ → Option NetFault
net_fault bytes =
    or_else (header_fault bytes)
    (transitions_fault (front_header bytes) (front_header bytes).transitions 1 (drop header_size bytes))

-- the table of the record with this number
abbrev pub rows_at : List ℕ → ℕ → List (Row NetRefusal)
rows_at bytes zero = header_rows (take header_size bytes)
rows_at bytes (suc t) =
    transition_rows (front_header bytes)
    (take transition_size (drop (transition_size * t) (drop header_size bytes)))

-- a fault has the first number that holds in the table of its record
abbrev pub FaultNumbered : List ℕ → NetFault → Type 0
FaultNumbered bytes fault =
    first_number (rows_at bytes fault.at) ≡ Some (refusal_number fault.refusal)

-- what a test answers: what it read, or what is wrong
abbrev pub tested : {X F : Type 0} → X → Option F → Result X F
tested x None = Ok x
tested x (Some fault) = Err fault

-- the bytes have no fault, and so say a net
unfoldable pub sound : List ℕ → Bool
sound bytes = not (is_some (net_fault bytes))
