-- What holds of bytes without a fault.
use Rattle.std.proofs.Common.{◌≡◌, ℕ, zero, suc, ◌+◌, ◌-◌, ◌*◌, ◌<◌, ◌≤◌, min, true, false, cond, not, ◌&&◌, eqb, ltb, leb, List, length, take, drop, is_some, Some, None, Option, MatchOption, Bor, sym, refl, ap, ◌∙◌, arith, length-drop, length-take}
use Rattle.std.proofs.lemmas.List.{drop-drop}
use Rattle.std.proofs.lemmas.Bool.{false≢true, ltb-false, or_parts, and_parts, and_right, leb-true, lt-leb, cond-true, cond-false}
use Rattle.net_records.specs.Bits.{field}
use Rattle.net_records.specs.NetBytes.{transition_bytes, has_transition, side_count, side_start, arcs_at, slot_at, net_size}
use Rattle.net_records.specs.NetRecords.{net_header_of, header_rows, at_record, or_else, header_fault, transition_rows, transition_refusal, transition_fault, transitions_fault, net_fault, sound, transition_record, record_rows}
use Rattle.net_records.specs.Slots.{slot_of}
use Rattle.nets.specs.declared.side.Side.{Side}
use Rattle.nets.specs.declared.side.Side.TheVariants.{Input, Output}
use Rattle.net_records.specs.Refusals.{NetFault}
use Rattle.net_records.proofs.Tables.{NoneHolds, none_holds}
use Rattle.net_records.specs.declared.fault.NetRefusal.{NetRefusal}
use Rattle.net_records.specs.declared.header.NetHeader.{NetHeader}
use Rattle.net_records.specs.declared.slot.Slot.{Slot}

clean_of : (o : Option NetFault) → not (is_some o) ≡ true → o ≡ None
clean_of None e = refl
clean_of (Some f) e = absurd (false≢true e)

pub sound_clean : (bytes : List ℕ) → sound bytes ≡ true → net_fault bytes ≡ None
unfolding sound
sound_clean bytes e = clean_of (net_fault bytes) e

pub clean_sound : (bytes : List ℕ) → net_fault bytes ≡ None → sound bytes ≡ true
unfolding sound
clean_sound bytes e = ap (λ o. not (is_some o)) e

pub faulty_unsound : (bytes : List ℕ) (f : NetFault) → net_fault bytes ≡ Some f → sound bytes ≡ false
unfolding sound
faulty_unsound bytes f e = ap (λ o. not (is_some o)) e

pub or_none : (a b : Option NetFault) → or_else a b ≡ None → (a ≡ None) × (b ≡ None)
or_none None b e = (refl, e)
or_none (Some f) b e = let z : ◌≡◌ {A = ℕ} 0 1 = cc in absurd (omega arith)

pub at_none : (at : ℕ) (o : Option NetRefusal) → at_record at o ≡ None → o ≡ None
at_none at None e = refl
at_none at (Some r) e = let z : ◌≡◌ {A = ℕ} 0 1 = cc in absurd (omega arith)

-- ---- each transition is whole and has no refusal
pub refusal_none : (h : NetHeader) (bytes : List ℕ) → transition_refusal h bytes ≡ None → (41 ≤ length bytes) × NoneHolds (record_rows h (transition_record bytes))
unfolding transition_refusal
refusal_none h bytes e =
    let clear = none_holds (transition_rows h bytes) e in
    (ltb-false (length bytes) 41 clear.0, clear.1)

pub transitions_clean : (h : NetHeader) (n at : ℕ) (bytes : List ℕ) → transitions_fault h n at bytes ≡ None → (i : ℕ) → i < n → (41 * i + 41 ≤ length bytes) × (transition_refusal h (take 41 (drop (41 * i) bytes)) ≡ None)
transitions_clean h zero at bytes e i lt = absurd (omega arith)
transitions_clean h (suc n) at bytes e zero lt =
    let here = at_none at _ (or_none (transition_fault h at bytes) _ e).0 in
    (omega (arith, (refusal_none h (take 41 bytes) here).0, length-take 41 bytes), here)
transitions_clean h (suc n) at bytes e (suc i) lt =
    let both = or_none (transition_fault h at bytes) (transitions_fault h n (at + 1) (drop 41 bytes)) e in
    let rest = transitions_clean h n (at + 1) (drop 41 bytes) both.1 i (omega arith) in
    let place : 41 + 41 * i ≡ 41 * suc i = omega arith in
    (omega (arith, rest.0, length-drop 41 bytes), ap (λ r. transition_refusal h (take 41 r)) (sym (drop-drop (41 * i) 41 bytes ∙ ap (λ m. drop m bytes) place)) ∙ rest.1)

module _ (bytes : List ℕ) (clean : sound bytes ≡ true) where
  pub parts : (header_fault bytes ≡ None) × (transitions_fault (net_header_of (take 4 bytes)) (net_header_of (take 4 bytes)).transitions 1 (drop 4 bytes) ≡ None)
  parts = or_none (header_fault bytes) _ (sound_clean bytes clean)

  header_none : NoneHolds (header_rows (take 4 bytes))
  header_none = none_holds (header_rows (take 4 bytes)) (at_none 0 _ parts.0)

  pub header_whole : 4 ≤ length bytes
  header_whole = omega (arith, ltb-false (length (take 4 bytes)) 4 header_none.0, length-take 4 bytes)

  pub few_transitions : (net_header_of (take 4 bytes)).transitions ≤ 64
  few_transitions =
      let b = field (take 4 bytes) 8 7 in
      ltb-false 64 b (or_parts (eqb (field (take 4 bytes) 0 2) 3) (ltb 64 b) header_none.1.1.0).1

  module _ (t : ℕ) (there : has_transition bytes t ≡ true) where
    within : (1 ≤ t) × (t ≤ (net_header_of (take 4 bytes)).transitions)
    within =
        let both = and_parts (leb 1 t) (leb t (net_header_of (take 4 bytes)).transitions) there in
        (leb-true 1 t both.0, leb-true t (net_header_of (take 4 bytes)).transitions both.1)

    at_place : drop (41 * (t - 1)) (drop 4 bytes) ≡ drop (4 + 41 * (t - 1)) bytes
    at_place = drop-drop (41 * (t - 1)) 4 bytes

    here : (41 * (t - 1) + 41 ≤ length (drop 4 bytes)) × (transition_refusal (net_header_of (take 4 bytes)) (take 41 (drop (41 * (t - 1)) (drop 4 bytes))) ≡ None)
    here = transitions_clean (net_header_of (take 4 bytes)) (net_header_of (take 4 bytes)).transitions 1 (drop 4 bytes) parts.1 (t - 1) (the_index t (net_header_of (take 4 bytes)).transitions within.0 within.1)
      where
        the_index : (m n : ℕ) → 1 ≤ m → m ≤ n → m - 1 < n
        the_index m n l h = omega arith

    pub transition_whole : 4 + 41 * (t - 1) + 41 ≤ length bytes
    transition_whole = whole (length bytes) (length (drop 4 bytes)) (41 * (t - 1)) here.0 (length-drop 4 bytes) header_whole
      where
        whole : (l d n : ℕ) → n + 41 ≤ d → d ≡ l - 4 → 4 ≤ l → 4 + n + 41 ≤ l
        whole l d n a b c = omega arith

    pub transition_length : length (transition_bytes bytes t) ≡ 41
    transition_length =
        length-take 41 (drop (4 + 41 * (t - 1)) bytes)
        ∙ short (length bytes) (4 + 41 * (t - 1)) (length (drop (4 + 41 * (t - 1)) bytes)) transition_whole (length-drop (4 + 41 * (t - 1)) bytes)
      where
        short : (l n d : ℕ) → n + 41 ≤ l → d ≡ l - n → min 41 d ≡ 41
        short l n d a b = omega arith

    pub transition_clean : transition_refusal (net_header_of (take 4 bytes)) (transition_bytes bytes t) ≡ None
    transition_clean = ap (λ r. transition_refusal (net_header_of (take 4 bytes)) (take 41 r)) (sym at_place) ∙ here.1

    -- the first 41 bytes of what begins there
    pub transition_part : {Q : Bor (List ℕ) → Type 0} (part : List ℕ) (r : Option (Bor (List ℕ))) → ((y : Bor (List ℕ)) → Q y → y.now ≡ take 41 part) → part ≡ drop (4 + 41 * (t - 1)) bytes → MatchOption r (length part < 41) Q → MatchOption r (has_transition bytes t ≡ false) (λ y. (has_transition bytes t ≡ true) × (y.now ≡ transition_bytes bytes t))
    transition_part part None first is m = absurd (omega (arith, m, ap length is, length-drop (4 + 41 * (t - 1)) bytes, transition_whole))
    transition_part part (Some y) first is m = (there, first y m ∙ ap (take 41) is)

  -- the net's records are there
  pub net_whole : net_size (net_header_of (take 4 bytes)) ≤ length bytes
  net_whole = by_count (net_header_of (take 4 bytes)).transitions refl
    where
      last : (n l d : ℕ) → 41 * n + 41 ≤ d → d ≡ l - 4 → 4 ≤ l → 4 + 41 * suc n ≤ l
      last n l d a b c = omega arith

      by_count : (n : ℕ) → (net_header_of (take 4 bytes)).transitions ≡ n → 4 + 41 * n ≤ length bytes
      by_count zero e = omega (arith, header_whole)
      by_count (suc n) e =
          last n (length bytes) (length (drop 4 bytes)) (transitions_clean (net_header_of (take 4 bytes)) (net_header_of (take 4 bytes)).transitions 1 (drop 4 bytes) parts.1 n (omega (arith, e))).0 (length-drop 4 bytes) header_whole

-- ---- slots of a transition
pub refusal_counts : (h : NetHeader) (bytes : List ℕ) → transition_refusal h bytes ≡ None → ((transition_record bytes).inputs ≤ 4) × ((transition_record bytes).outputs ≤ 4)
refusal_counts h bytes e =
    let r = transition_record bytes in
    let both = or_parts (ltb 4 r.inputs) (ltb 4 r.outputs) (refusal_none h bytes e).1.1.0 in
    (ltb-false 4 r.inputs both.0, ltb-false 4 r.outputs both.1)

pub few_arcs : (side : Side) (h : NetHeader) (bytes : List ℕ) → transition_refusal h bytes ≡ None → side_count side (transition_record bytes) ≤ 4
few_arcs Input h bytes e = (refusal_counts h bytes e).0
few_arcs Output h bytes e = (refusal_counts h bytes e).1

-- ---- what is answered for an arc
no_arcs : (a : ℕ) → (leb 1 a && leb a 0) ≡ false
no_arcs zero = refl
no_arcs (suc a) = and_right (leb 1 (suc a)) (leb (suc a) 0) (lt-leb (suc a) 0 (omega arith))

module _ (bytes : List ℕ) (t : ℕ) (side : Side) (a : ℕ) where
  slot_by : (n : ℕ) → arcs_at bytes t side ≡ n → slot_at bytes t side a ≡ cond (leb 1 a && leb a n) (Some (slot_of (take 5 (drop (side_start side + 5 * (a - 1)) (transition_bytes bytes t))))) None
  slot_by n e = ap (λ m. cond (leb 1 a && leb a m) (Some (slot_of (take 5 (drop (side_start side + 5 * (a - 1)) (transition_bytes bytes t))))) None) e

  pub slot_absent : has_transition bytes t ≡ false → slot_at bytes t side a ≡ None
  slot_absent h =
      slot_by 0 (cond-false (has_transition bytes t) _ _ h) ∙ cond-false (leb 1 a && leb a 0) _ _ (no_arcs a)

  pub slot_when : has_transition bytes t ≡ true → slot_at bytes t side a ≡ cond (leb 1 a && leb a (side_count side (transition_record (transition_bytes bytes t)))) (Some (slot_of (take 5 (drop (side_start side + 5 * (a - 1)) (transition_bytes bytes t))))) None
  slot_when h = slot_by (side_count side (transition_record (transition_bytes bytes t))) (cond-true (has_transition bytes t) _ _ h)

-- a slot lies within its transition
pub slot_within : (side : Side) (a n l : ℕ) → 1 ≤ a → a ≤ n → n ≤ 4 → l ≡ 41 → side_start side + 5 * (a - 1) + 5 ≤ l
slot_within Input a n l p q r e = omega arith
slot_within Output a n l p q r e = omega arith

-- the answers of a store, over the bytes of the transition that it found
module _ (bytes part : List ℕ) (t : ℕ) (side : Side) (a : ℕ) (there : has_transition bytes t ≡ true) (is : part ≡ transition_bytes bytes t) where
  pub answers_none : false ≡ (leb 1 a && leb a (side_count side (transition_record part))) → None ≡ slot_at bytes t side a
  answers_none e =
      sym
      (slot_when bytes t side a there
      ∙ cond-false (leb 1 a && leb a (side_count side (transition_record (transition_bytes bytes t)))) _ _ (ap (λ x. leb 1 a && leb a (side_count side (transition_record x))) (sym is) ∙ sym e))

  pub answers_slot : (s : Slot) (start n : ℕ) → true ≡ (leb 1 a && leb a (side_count side (transition_record part))) → start ≡ side_start side → n ≡ a → s ≡ slot_of (take 5 (drop (start + 5 * (n - 1)) part)) → Some s ≡ slot_at bytes t side a
  answers_slot s start n e begins same read =
      sym
      (slot_when bytes t side a there
      ∙ cond-true (leb 1 a && leb a (side_count side (transition_record (transition_bytes bytes t)))) _ _ (ap (λ x. leb 1 a && leb a (side_count side (transition_record x))) (sym is) ∙ sym e)
      ∙ ap Some
      (ap (λ x. slot_of (take 5 (drop (side_start side + 5 * (a - 1)) x))) (sym is)
      ∙ ap (λ m. slot_of (take 5 (drop (m + 5 * (a - 1)) part))) (sym begins)
      ∙ ap (λ m. slot_of (take 5 (drop (start + 5 * (m - 1)) part))) (sym same)
      ∙ sym read))

  pub answers_within : (start n : ℕ) → sound bytes ≡ true → true ≡ (leb 1 a && leb a (side_count side (transition_record part))) → start ≡ side_start side → n ≡ a → start + 5 * (n - 1) + 5 ≤ length part
  answers_within start n clean e begins same =
      let count = side_count side (transition_record part) in
      let both = and_parts (leb 1 a) (leb a count) (sym e) in
      let refused = ap (transition_refusal (net_header_of (take 4 bytes))) is ∙ transition_clean bytes clean t there in
      let long = ap length is ∙ transition_length bytes clean t there in
      within_by start n a (side_start side) (length part) (slot_within side a count (length part) (leb-true 1 a both.0) (leb-true a count both.1) (few_arcs side (net_header_of (take 4 bytes)) part refused) long) begins same
    where
      within_by : (start n a first l : ℕ) → first + 5 * (a - 1) + 5 ≤ l → start ≡ first → n ≡ a → start + 5 * (n - 1) + 5 ≤ l
      within_by start n a first l h p q = omega arith

-- the count of the bytes of the transition that was found, if one was
pub arcs_counted : (bytes : List ℕ) (t : ℕ) (side : Side) (o : Option (Bor (List ℕ))) (n : ℕ) {Q : Bor (List ℕ) → Type 0} → MatchOption o (has_transition bytes t ≡ false) (λ y. (has_transition bytes t ≡ true) × (y.now ≡ transition_bytes bytes t)) → MatchOption o (n ≡ 0) Q → ((y : Bor (List ℕ)) → Q y → n ≡ side_count side (transition_record y.now)) → n ≡ arcs_at bytes t side
arcs_counted bytes t side None n found is count = is ∙ sym (cond-false (has_transition bytes t) _ _ found)
arcs_counted bytes t side (Some y) n found is count =
    count y is ∙ ap (λ x. side_count side (transition_record x)) found.1 ∙ sym (cond-true (has_transition bytes t) _ _ found.0)
