-- The arcs of the net that bytes say, by the slots that lie in them.
use Rattle.std.proofs.Common.{◌≡◌, ℕ, zero, suc, ◌+◌, ◌-◌, ◌*◌, ◌<◌, ◌≤◌, min, Bool, true, false, cond, ◌&&◌, leb, List, [], map, length, get_or, take, drop, Some, None, Option, MatchOption, sym, refl, ap, ◌∙◌, ⊎_elim, arith, length-drop, length-take}
use Rattle.std.proofs.lemmas.List.{drop-drop, get_or-take, get_or-drop, get_or_past, get_or-map, length-map}
use Rattle.std.proofs.lemmas.Bool.{cases_Bool, and_parts, and_cases, and_from, and_right, leb-true, leb-false, le-leb, cond-true, cond-false, true≢false}
use Rattle.bounds.specs.Kinds.{Kind}
use Rattle.nets.specs.Nets.{Arc, Transition, numbered, no_arc, no_transition, transition_of, side_of, arcs_of, arc_of}
use Rattle.nets.specs.declared.side.Side.{Side}
use Rattle.nets.specs.declared.side.Side.TheVariants.{Input, Output}
use Rattle.net_records.specs.NetBytes.{slot_arc, record_transition, transitions_of, net_of, transition_bytes, has_transition, side_count, side_start, arcs_at, slot_at}
use Rattle.net_records.specs.NetRecords.{net_header_of, transition_record, sound}
use Rattle.net_records.specs.Slots.{slot_of, slots_of}
use Rattle.net_records.specs.declared.slot.Slot.{Slot}
use Rattle.net_records.specs.declared.transition.TransitionRecord.{TransitionRecord}
use Rattle.net_records.proofs.Clean.{few_arcs, transition_clean, slot_absent, slot_when}

-- ---- the slots
pub length_slots : (n : ℕ) (bytes : List ℕ) → length (slots_of n bytes) ≡ n
length_slots zero bytes = refl
length_slots (suc n) bytes = ap suc (length_slots n (drop 5 bytes))

getD_slots : (n : ℕ) (bytes : List ℕ) (j : ℕ) (d : Slot) → j < n → get_or (slots_of n bytes) j d ≡ slot_of (take 5 (drop (5 * j) bytes))
getD_slots zero bytes j d h = absurd (omega arith)
getD_slots (suc n) bytes zero d h = refl
getD_slots (suc n) bytes (suc j) d h =
    let e : 5 + 5 * j ≡ 5 * suc j = omega arith in
    getD_slots n (drop 5 bytes) j d (omega arith) ∙ ap (λ x. slot_of (take 5 x)) (drop-drop (5 * j) 5 bytes ∙ ap (λ m. drop m bytes) e)

-- the four slots of a side
abbrev side_row : Side → List Slot → List Slot
side_row Input ss = take 4 ss
side_row Output ss = drop 4 ss

length_row : (side : Side) (ss : List Slot) → length ss ≡ 8 → length (side_row side ss) ≡ 4
length_row Input ss e = length-take 4 ss ∙ omega (arith, e)
length_row Output ss e = length-drop 4 ss ∙ omega (arith, e)

getD_row : (side : Side) (part : List ℕ) (j : ℕ) (d : Slot) → j < 4 → get_or (side_row side (slots_of 8 (drop 1 part))) j d ≡ slot_of (take 5 (drop (side_start side + 5 * j) part))
getD_row Input part j d h =
    get_or-take 4 (slots_of 8 (drop 1 part)) j d h
    ∙ getD_slots 8 (drop 1 part) j d (omega arith)
    ∙ ap (λ x. slot_of (take 5 x)) (drop-drop (5 * j) 1 part)
getD_row Output part j d h =
    let e : 1 + 5 * (4 + j) ≡ 21 + 5 * j = omega arith in
    get_or-drop 4 (slots_of 8 (drop 1 part)) j d
    ∙ getD_slots 8 (drop 1 part) (4 + j) d (omega arith)
    ∙ ap (λ x. slot_of (take 5 x)) (drop-drop (5 * (4 + j)) 1 part ∙ ap (λ m. drop m part) e)

-- ---- small sums
under : (j l c : ℕ) → l ≡ c → j < c → j < l
under j l c e h = omega arith

over : (j l c : ℕ) → l ≡ c → c < suc j → l ≤ j
over j l c e h = omega arith

below_four : (j c : ℕ) → j < c → c ≤ 4 → j < 4
below_four j c h k = omega arith

previous : (j a : ℕ) → suc j ≡ a → j ≡ a - 1
previous j a e = omega arith

nothing : {X : Type 0} {d : X} (a : ℕ) → numbered [] a d ≡ d
nothing zero = refl
nothing (suc a) = refl

-- ---- the transitions
module _ {B : Type 0} (kind : Kind B) where
  pub length_transitions : (n : ℕ) (bytes : List ℕ) → length (transitions_of kind n bytes) ≡ n
  length_transitions zero bytes = refl
  length_transitions (suc n) bytes = ap suc (length_transitions n (drop 41 bytes))

  getD_transitions : (n : ℕ) (bytes : List ℕ) (i : ℕ) (d : Transition B) → i < n → get_or (transitions_of kind n bytes) i d ≡ record_transition kind (transition_record (take 41 (drop (41 * i) bytes)))
  getD_transitions zero bytes i d h = absurd (omega arith)
  getD_transitions (suc n) bytes zero d h = refl
  getD_transitions (suc n) bytes (suc i) d h =
      let e : 41 + 41 * i ≡ 41 * suc i = omega arith in
      getD_transitions n (drop 41 bytes) i d (omega arith) ∙ ap (λ x. record_transition kind (transition_record (take 41 x))) (drop-drop (41 * i) 41 bytes ∙ ap (λ m. drop m bytes) e)

  -- a transition that is there
  there : (bytes : List ℕ) (t : ℕ) → has_transition bytes t ≡ true → transition_of (net_of kind bytes) t ≡ record_transition kind (transition_record (transition_bytes bytes t))
  there bytes zero h = absurd (true≢false (sym h))
  there bytes (suc i) h =
      let n = (net_header_of (take 4 bytes)).transitions in
      let lt = leb-true (suc i) n (and_parts (leb 1 (suc i)) (leb (suc i) n) h).1 in
      let e : suc i - 1 ≡ i = omega arith in
      getD_transitions n (drop 4 bytes) i no_transition lt
      ∙ ap (λ x. record_transition kind (transition_record (take 41 x))) (drop-drop (41 * i) 4 bytes)
      ∙ ap (λ m. record_transition kind (transition_record (take 41 (drop (4 + 41 * m) bytes)))) (sym e)

  -- and one that is not
  absent : (bytes : List ℕ) (t : ℕ) → has_transition bytes t ≡ false → transition_of (net_of kind bytes) t ≡ no_transition
  absent bytes zero h = refl
  absent bytes (suc i) h =
      let n = (net_header_of (take 4 bytes)).transitions in
      let past : n ≤ i =
      ⊎_elim (λ e. absurd (omega (arith, leb-false 1 (suc i) e))) (λ e. below_suc n i (leb-false (suc i) n e)) (and_cases (leb 1 (suc i)) (leb (suc i) n) h) in
      get_or_past (transitions_of kind n (drop 4 bytes)) i no_transition (at_most (length (transitions_of kind n (drop 4 bytes))) n i (length_transitions n (drop 4 bytes)) past)
    where
      below_suc : (n i : ℕ) → n < suc i → n ≤ i
      below_suc n i h = omega arith

      at_most : (l n i : ℕ) → l ≡ n → n ≤ i → l ≤ i
      at_most l n i e h = omega arith

  side_arcs : (side : Side) (r : TransitionRecord) → side_of side (record_transition kind r) ≡ map (slot_arc kind) (take (side_count side r) (side_row side r.slots))
  side_arcs Input r = refl
  side_arcs Output r = refl

  -- ---- the answers
  abbrev pub arc_from : Option Slot → Arc B
  arc_from None = no_arc kind
  arc_from (Some s) = slot_arc kind s

  -- what `map_or` makes of the slot is what `of` reads of the arc
  pub mapped : {Y P : Type 0} {Q : Slot → Type 0} (of : Arc B → Y) (o : Option Slot) (r : Y) → MatchOption o P Q → (P → r ≡ of (no_arc kind)) → ((s : Slot) → Q s → r ≡ of (slot_arc kind s)) → r ≡ of (arc_from o)
  mapped of None r m none some = none m
  mapped of (Some s) r m none some = some s m

  few_then : (c l : ℕ) → l ≡ 4 → c ≤ 4 → min c l ≡ c
  few_then c l e h = omega arith

  length_arcs : (side : Side) (r : TransitionRecord) → length r.slots ≡ 8 → side_count side r ≤ 4 → length (take (side_count side r) (side_row side r.slots)) ≡ side_count side r
  length_arcs side r e few =
      length-take (side_count side r) (side_row side r.slots) ∙ few_then (side_count side r) (length (side_row side r.slots)) (length_row side r.slots e) few

  no_side : (side : Side) → side_of {B = B} side no_transition ≡ []
  no_side Input = refl
  no_side Output = refl

  module _ (bytes : List ℕ) (clean : sound bytes ≡ true) (t : ℕ) (side : Side) where
    few : has_transition bytes t ≡ true → side_count side (transition_record (transition_bytes bytes t)) ≤ 4
    few h = few_arcs side (net_header_of (take 4 bytes)) (transition_bytes bytes t) (transition_clean bytes clean t h)

    arcs_there : has_transition bytes t ≡ true → arcs_of (net_of kind bytes) t side ≡ map (slot_arc kind) (take (side_count side (transition_record (transition_bytes bytes t))) (side_row side (slots_of 8 (drop 1 (transition_bytes bytes t)))))
    arcs_there h = ap (side_of side) (there bytes t h) ∙ side_arcs side (transition_record (transition_bytes bytes t))

    pub answered_arcs : arcs_at bytes t side ≡ length (arcs_of (net_of kind bytes) t side)
    answered_arcs = ⊎_elim yes_there not_there (cases_Bool (has_transition bytes t))
      where
        yes_there : has_transition bytes t ≡ true → arcs_at bytes t side ≡ length (arcs_of (net_of kind bytes) t side)
        yes_there h =
            let r = transition_record (transition_bytes bytes t) in
            let row = take (side_count side r) (side_row side (slots_of 8 (drop 1 (transition_bytes bytes t)))) in
            cond-true (has_transition bytes t) _ _ h
            ∙ sym (ap length (arcs_there h) ∙ length-map row (slot_arc kind) ∙ length_arcs side r (length_slots 8 (drop 1 (transition_bytes bytes t))) (few h))

        not_there : has_transition bytes t ≡ false → arcs_at bytes t side ≡ length (arcs_of (net_of kind bytes) t side)
        not_there h = cond-false (has_transition bytes t) _ _ h ∙ sym (ap length (ap (side_of side) (absent bytes t h) ∙ no_side side))

    -- the arc of a number among those of a side
    counted : (c : ℕ) (row : List Slot) (a : ℕ) (s : Slot) → length row ≡ 4 → c ≤ 4 → ((j : ℕ) → suc j ≡ a → j < 4 → get_or row j s ≡ s) → numbered (map (slot_arc kind) (take c row)) a (no_arc kind) ≡ arc_from (cond (leb 1 a && leb a c) (Some s) None)
    counted c row zero s long small is = refl
    counted c row (suc j) s long small is = by_count (leb (suc j) c) refl
      where
        by_count : (u : Bool) → leb (suc j) c ≡ u → get_or (map (slot_arc kind) (take c row)) j (no_arc kind) ≡ arc_from (cond (leb 1 (suc j) && leb (suc j) c) (Some s) None)
        by_count true e =
            let lt = leb-true (suc j) c e in
            let len = length-take c row ∙ few_then c (length row) long small in
            let one = le-leb 1 (suc j) (omega arith) in
            get_or-map (slot_arc kind) (take c row) j s (no_arc kind) (under j (length (take c row)) c len lt)
            ∙ ap (slot_arc kind) (get_or-take c row j s lt ∙ is j refl (below_four j c lt small))
            ∙ sym (ap arc_from (cond-true (leb 1 (suc j) && leb (suc j) c) (Some s) None (and_from (leb 1 (suc j)) (leb (suc j) c) one e)))
        by_count false e =
            let ge = leb-false (suc j) c e in
            let len = length-map (take c row) (slot_arc kind) ∙ length-take c row ∙ few_then c (length row) long small in
            get_or_past (map (slot_arc kind) (take c row)) j (no_arc kind) (over j (length (map (slot_arc kind) (take c row))) c len ge)
            ∙ sym (ap arc_from (cond-false (leb 1 (suc j) && leb (suc j) c) (Some s) None (and_right (leb 1 (suc j)) (leb (suc j) c) e)))

    pub answered_arc : (a : ℕ) → arc_of kind (net_of kind bytes) t side a ≡ arc_from (slot_at bytes t side a)
    answered_arc a = ⊎_elim yes_there not_there (cases_Bool (has_transition bytes t))
      where
        yes_there : has_transition bytes t ≡ true → arc_of kind (net_of kind bytes) t side a ≡ arc_from (slot_at bytes t side a)
        yes_there h =
            let p = transition_bytes bytes t in
            let r = transition_record p in
            let s = slot_of (take 5 (drop (side_start side + 5 * (a - 1)) p)) in
            ap (λ xs. numbered xs a (no_arc kind)) (arcs_there h)
            ∙ counted (side_count side r) (side_row side (slots_of 8 (drop 1 p))) a s (length_row side (slots_of 8 (drop 1 p)) (length_slots 8 (drop 1 p))) (few h) (λ j e lt. getD_row side p j s lt ∙ ap (λ m. slot_of (take 5 (drop (side_start side + 5 * m) p))) (previous j a e))
            ∙ sym (ap arc_from (slot_when bytes t side a h))

        not_there : has_transition bytes t ≡ false → arc_of kind (net_of kind bytes) t side a ≡ arc_from (slot_at bytes t side a)
        not_there h =
            ap (λ xs. numbered xs a (no_arc kind)) (ap (side_of side) (absent bytes t h) ∙ no_side side) ∙ nothing a ∙ sym (ap arc_from (slot_absent bytes t side a h))
