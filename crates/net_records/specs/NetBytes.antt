-- The net that bytes say, and what is asked of it.
use Rattle.std.specs.Prelude.{ℕ, zero, suc, ◌+◌, ◌-◌, ◌*◌, Bool, ◌&&◌, List, [], ◌∷◌, map, take}
use Rattle.std.specs.Prelude.{drop, Some, None, Option, nat_le, if◌then◌else◌}
use Rattle.std.specs.Prelude.{◌≡◌, IsTrue, IsFalse, MatchOption}
use Rattle.std.specs.Borrow.{Bor}
use Rattle.bounds.specs.Kinds.{Kind}
use Rattle.nets.specs.Nets.{Arc, Transition, Net}
use Rattle.nets.specs.declared.side.Side.{Side}
use Rattle.nets.specs.declared.side.Side.TheVariants.{Input, Output}
use Rattle.net_records.specs.Sizes.{header_size, transition_size, slot_size, side_slots}
use Rattle.net_records.specs.Slots.{slot_of, slot_range}
use Rattle.net_records.specs.NetRecords.{front_header, transition_record}
use Rattle.net_records.specs.Parts.{Unread}
use Rattle.net_records.specs.declared.header.NetHeader.{NetHeader}
use Rattle.net_records.specs.declared.slot.Slot.{Slot}
use Rattle.net_records.specs.declared.transition.TransitionRecord.{TransitionRecord}

abbrev pub slot_arc : {B : Type 0} → Kind B → Slot → Arc B
slot_arc kind s = record { place = s.place; range = slot_range kind s }

abbrev pub record_transition : {B : Type 0} → Kind B → TransitionRecord → Transition B
record_transition kind r =
    record {
      inputs =
          map (slot_arc kind) (take r.inputs (take side_slots r.slots));
      outputs = map (slot_arc kind) (take r.outputs (drop side_slots r.slots));
    }

-- n transitions, one after the other
abbrev pub transitions_of : {B : Type 0} → Kind B → ℕ → List ℕ → List (Transition B)
transitions_of kind zero bytes = []
transitions_of kind (suc n) bytes =
    record_transition kind (transition_record (take transition_size bytes))
    ∷ transitions_of kind n (drop transition_size bytes)

abbrev pub net_of : {B : Type 0} → Kind B → List ℕ → Net B
net_of kind bytes =
    record {
      places =
          (front_header bytes).places;
      transitions = transitions_of kind (front_header bytes).transitions (drop header_size bytes);
    }

-- ---- the records after the net's
-- how many bytes the net records are
abbrev pub net_size : NetHeader → ℕ
net_size h = header_size + transition_size * h.transitions

abbrev pub later_records : List ℕ → List ℕ
later_records bytes = drop (net_size (front_header bytes)) bytes

-- and the number of the first
abbrev pub first_later : List ℕ → ℕ
first_later bytes = 1 + (front_header bytes).transitions

-- what a reader behind the net's records holds
abbrev pub after_net : List ℕ → Unread
after_net bytes = record { rest = later_records bytes; next = first_later bytes }

-- ---- what is asked of the bytes
-- the bytes of a transition, numbered from 1
abbrev pub transition_bytes : List ℕ → ℕ → List ℕ
transition_bytes bytes t =
    take transition_size (drop (header_size + transition_size * (t - 1)) bytes)

abbrev pub has_transition : List ℕ → ℕ → Bool
has_transition bytes t = nat_le 1 t && nat_le t (front_header bytes).transitions

-- the bytes of the transition of this number; none where there is no such transition
abbrev pub TransitionAt : (bytes : List ℕ) → (number : ℕ) → Option (Bor (List ℕ)) → Type 0
TransitionAt bytes number answer =
    MatchOption answer
    (IsFalse (has_transition bytes number))
    (λ part. IsTrue (has_transition bytes number) × (part.now ≡ transition_bytes bytes number))

abbrev pub side_count : Side → TransitionRecord → ℕ
side_count Input r = r.inputs
side_count Output r = r.outputs

-- where the slots of a side begin
abbrev pub side_start : Side → ℕ
side_start Input = 1
side_start Output = 1 + side_slots * slot_size

-- how many arcs a transition has on a side
abbrev pub arcs_at : List ℕ → ℕ → Side → ℕ
arcs_at bytes t side =
    if has_transition bytes t
    then side_count side (transition_record (transition_bytes bytes t)) else 0

-- the slot of an arc, both numbered from 1
abbrev pub slot_at : List ℕ → ℕ → Side → ℕ → Option Slot
slot_at bytes t side a =
    (if nat_le 1 a && nat_le a (arcs_at bytes t side)
    then Some (slot_of (take slot_size (drop (side_start side + slot_size * (a - 1)) (transition_bytes bytes t)))) else None)
