-- The net that sound bytes say keeps the limits of every net.
use Rattle.std.proofs.Common.{◌≡◌, ℕ, zero, suc, ◌+◌, ◌<◌, ◌≤◌, Bool, true, false, cond, ltb, leb, List, [], ◌∷◌, map, length, take, drop, Some, None, Option, sym, refl, ap, ◌∙◌, arith, length-take}
use Rattle.std.specs.Bool.{then_some}
use Rattle.std.proofs.lemmas.List.{length-map}
use Rattle.std.proofs.lemmas.Bool.{leb-false, le-ltb, lt-ltb, or_parts, cond-true, cond-false}
use Rattle.bounds.specs.Kinds.{Kind}
use Rattle.bounds.specs.MarkedKind.{marked_kind}
use Rattle.bounds.specs.Ranges.{below_zero}
use Rattle.nets.specs.Nets.{largest_end, RangeLimits, Every, ArcLimits, TransitionLimits, Limits}
use Rattle.nets.specs.declared.side.Side.{Side}
use Rattle.nets.specs.declared.side.Side.TheVariants.{Input, Output}
use Rattle.nets.proofs.Ranges.{open_range, some_range}
use Rattle.net_records.specs.Bits.{field, flag}
use Rattle.net_records.specs.NetBytes.{slot_arc, record_transition, transitions_of, net_of}
use Rattle.net_records.specs.NetRecords.{net_header_of, transition_record, slot_side, some_slot_from, place_missing, empty_range, record_rows, transition_refusal, transition_fault, transitions_fault, sound}
use Rattle.net_records.specs.Slots.{end_at, slot_of, slots_of, upper_bound, lower_bound, is_empty}
use Rattle.net_records.proofs.Fields.{field_below}
use Rattle.net_records.proofs.Stores.{length_transitions}
use Rattle.net_records.proofs.Tables.{NoneHolds}
use Rattle.net_records.proofs.Clean.{or_none, refusal_none, at_none, parts, few_transitions, refusal_counts}
use Rattle.net_records.specs.declared.header.NetHeader.{NetHeader}
use Rattle.net_records.specs.declared.slot.End.{End}
use Rattle.net_records.specs.declared.slot.Slot.{Slot}
use Rattle.net_records.specs.declared.transition.TransitionRecord.{TransitionRecord}

end_small : (n : ℕ) → n < 32768 → n ≤ largest_end
end_small n h = omega arith

abbrev SmallEnd : Option End → Type 0
SmallEnd None = Unit
SmallEnd (Some e) = e.number ≤ largest_end

-- both end numbers are small
abbrev Small : Slot → Type 0
Small s = (s.lower.number ≤ largest_end) × SmallEnd s.upper

upper_small : (open_ended : Bool) (e : End) → e.number ≤ largest_end → SmallEnd (cond open_ended None (Some e))
upper_small true e h = tt
upper_small false e h = h

slot_small : (bytes : List ℕ) → Small (slot_of bytes)
slot_small bytes =
    (end_small (field bytes 7 15) (field_below bytes 7 15), upper_small (flag bytes 22) (end_at bytes 23) (end_small (field bytes 24 15) (field_below bytes 24 15)))

slots_small : (n : ℕ) (bytes : List ℕ) → Every Small (slots_of n bytes)
slots_small zero bytes = tt
slots_small (suc n) bytes = (slot_small (take 5 bytes), slots_small n (drop 5 bytes))

below : (i m k : ℕ) → i + suc m ≡ k → i < k
below i m k e = omega arith

module _ {B : Type 0} (kind : Kind B) where
  -- by whether the range has an upper limit
  range_limits : (lower : End) (upper : Option End) → lower.number ≤ largest_end → SmallEnd upper
      → below_zero marked_kind (record { upper = upper_bound marked_kind upper; lower = lower_bound marked_kind lower }) ≡ false
      → RangeLimits kind (record { upper = upper_bound kind upper; lower = lower_bound kind lower })
  range_limits lower None low_small high_small e = open_range kind lower.number lower.strict low_small
  range_limits lower (Some upper) low_small high_small e =
      some_range kind lower.number lower.strict low_small upper.number upper.strict high_small e

  -- ---- slots
  slot_limits : (h : NetHeader) (s : Slot) → Small s → leb h.places s.place ≡ false → is_empty s ≡ false → ArcLimits kind h.places (slot_arc kind s)
  slot_limits h s small there some =
      record {
        place = leb-false h.places s.place there;
        range = range_limits s.lower s.upper small.0 small.1 some;
      }

  module _ (h : NetHeader) (r : TransitionRecord) where
    used_input : (i m n : ℕ) → i + suc m ≡ r.inputs → i + suc n ≡ 4 → slot_side r i ≡ Some Input
    used_input i m n e f =
        cond-true (ltb i 4) _ _ (lt-ltb i 4 (omega arith)) ∙ ap (λ t. then_some t Input) (lt-ltb i r.inputs (below i m r.inputs e))

    used_output : (i m : ℕ) → i + suc m ≡ 4 + r.outputs → 4 ≤ i → slot_side r i ≡ Some Output
    used_output i m e f =
        cond-false (ltb i 4) _ _ (le-ltb i 4 f) ∙ ap (λ t. then_some t Output) (lt-ltb i (4 + r.outputs) (below i m (4 + r.outputs) e))

    -- the slots from i on have their places, and ranges that are not empty
    abbrev Rest : ℕ → List Slot → Type 0
    Rest i ss =
        (some_slot_from (place_missing h) r i ss ≡ false) × (some_slot_from empty_range r i ss ≡ false)

    rest_of : (i : ℕ) (s : Slot) (ss : List Slot) → Rest i (s ∷ ss) → Rest (i + 1) ss
    rest_of i s ss e =
        ((or_parts (place_missing h (slot_side r i) s) _ e.0).1, (or_parts (empty_range (slot_side r i) s) _ e.1).1)

    first_limits : (i : ℕ) (s : Slot) (ss : List Slot) (side : Side) → slot_side r i ≡ Some side → Small s → Rest i (s ∷ ss) → ArcLimits kind h.places (slot_arc kind s)
    first_limits i s ss side used small e =
        slot_limits
        h
        s
        small
        (sym (ap (λ o. place_missing h o s) used) ∙ (or_parts (place_missing h (slot_side r i) s) _ e.0).0)
        (sym (ap (λ o. empty_range o s) used) ∙ (or_parts (empty_range (slot_side r i) s) _ e.1).0)

    input_limits : (i m n : ℕ) (ss : List Slot) → i + m ≡ r.inputs → i + n ≡ 4 → Every Small ss → Rest i ss → Every (ArcLimits kind h.places) (map (slot_arc kind) (take m (take n ss)))
    input_limits i zero n ss e f small rest = tt
    input_limits i (suc m) zero ss e f small rest = tt
    input_limits i (suc m) (suc n) [] e f small rest = tt
    input_limits i (suc m) (suc n) (s ∷ ss) e f small rest =
        (first_limits i s ss Input (used_input i m n e f) small.0 rest, input_limits (i + 1) m n ss (omega arith) (omega arith) small.1 (rest_of i s ss rest))

    output_limits : (i m : ℕ) (ss : List Slot) → i + m ≡ 4 + r.outputs → 4 ≤ i → Every Small ss → Rest i ss → Every (ArcLimits kind h.places) (map (slot_arc kind) (take m ss))
    output_limits i zero ss e f small rest = tt
    output_limits i (suc m) [] e f small rest = tt
    output_limits i (suc m) (s ∷ ss) e f small rest =
        (first_limits i s ss Output (used_output i m e f) small.0 rest, output_limits (i + 1) m ss (omega arith) (omega arith) small.1 (rest_of i s ss rest))

    later_limits : (i n : ℕ) (ss : List Slot) → i + n ≡ 4 → Every Small ss → Rest i ss → Every (ArcLimits kind h.places) (map (slot_arc kind) (take r.outputs (drop n ss)))
    later_limits i zero ss f small rest = output_limits i r.outputs ss (omega arith) (omega arith) small rest
    later_limits i (suc n) [] f small rest = output_limits 4 r.outputs [] refl (omega arith) tt (refl, refl)
    later_limits i (suc n) (s ∷ ss) f small rest = later_limits (i + 1) n ss (omega arith) small.1 (rest_of i s ss rest)

    -- ---- transitions
    few : (m : ℕ) (ss : List Slot) → m ≤ 4 → length (map (slot_arc kind) (take m ss)) ≤ 4
    few m ss le = omega (arith, length-map (take m ss) (slot_arc kind), length-take m ss)

    record_limits : NoneHolds (record_rows h r) → Every Small r.slots → r.inputs ≤ 4 → r.outputs ≤ 4 → TransitionLimits kind h.places (record_transition kind r)
    record_limits clear small inputs outputs =
        let rest : Rest 0 r.slots = (clear.1.1.0, clear.1.1.1.1.0) in
        record {
          few_inputs = few r.inputs (take 4 r.slots) inputs;
          few_outputs = few r.outputs (drop 4 r.slots) outputs;
          inputs = input_limits 0 r.inputs 4 r.slots (omega arith) refl small rest;
          outputs = later_limits 0 4 r.slots refl small rest;
        }

  transition_limits : (h : NetHeader) (bytes : List ℕ) → transition_refusal h bytes ≡ None → TransitionLimits kind h.places (record_transition kind (transition_record bytes))
  transition_limits h bytes e =
      let counts = refusal_counts h bytes e in
      record_limits h (transition_record bytes) (refusal_none h bytes e).1 (slots_small 8 (drop 1 bytes)) counts.0 counts.1

  every_transition : (h : NetHeader) (n at : ℕ) (bytes : List ℕ) → transitions_fault h n at bytes ≡ None → Every (TransitionLimits kind h.places) (transitions_of kind n bytes)
  every_transition h zero at bytes e = tt
  every_transition h (suc n) at bytes e =
      let both = or_none (transition_fault h at bytes) (transitions_fault h n (at + 1) (drop 41 bytes)) e in
      (transition_limits h (take 41 bytes) (at_none at _ both.0), every_transition h n (at + 1) (drop 41 bytes) both.1)

count_by : (m n : ℕ) → m ≡ n → n ≤ 64 → m ≤ 64
count_by m n e h = omega arith

places_from : (n : ℕ) → n < 64 → (1 ≤ n + 1) × (n + 1 ≤ 64)
places_from n h = (omega arith, omega arith)

pub sound_limits : {B : Type 0} (kind : Kind B) (bytes : List ℕ) → sound bytes ≡ true → Limits kind (net_of kind bytes)
sound_limits kind bytes e =
    let h = net_header_of (take 4 bytes) in
    let places = places_from (field (take 4 bytes) 2 6) (field_below (take 4 bytes) 2 6) in
    record {
      some_place = places.0;
      few_places = places.1;
      few_transitions = count_by _ h.transitions (length_transitions kind h.transitions (drop 4 bytes)) (few_transitions bytes e);
      transitions = every_transition kind h h.transitions 1 (drop 4 bytes) (parts bytes e).1;
    }
