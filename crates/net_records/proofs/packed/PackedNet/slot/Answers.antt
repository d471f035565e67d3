use Rattle.std.proofs.Common.{◌≡◌, ◌+◌, ◌-◌, ◌*◌, length, take, drop, ap, ◌∙◌, arith, length-drop, length-take, sym}
use Rattle.std.proofs.lemmas.List.{take_rest}
use Rattle.net_records.specs.Slots.{slot_of}
use Rattle.net_records.proofs.Clean.{transition_length, answers_none, answers_slot, answers_within}
use Rattle.net_records.proofs.packed.PackedNet.slot.Goals as goal

pub returns-then-not-has_arc : goal.returns-then-not-has_arc
returns-then-not-has_arc c =
    let part = c.in_ok-bytes.bytes.now in
    let found = c.in_ok-bytes.ensures in
    answers_none c.args.self.now.bytes.now part c.args.transition c.args.side c.args.arc found.0 found.1 c.if-not-has_arc.ensures

pub slice_bounds-split-start : goal.slice_bounds-split-start
slice_bounds-split-start c =
    let part = c.in_ok-bytes.bytes.now in
    let found = c.in_ok-bytes.ensures in
    omega (arith, answers_within c.args.self.now.bytes.now part c.args.transition c.args.side c.args.arc found.0 found.1 c.first_slot.result c.from.result c.args.self.now.tested c.if-not-has_arc.ensures c.first_slot.ensures.start c.from.ensures)

pub slice_bounds-split-count : goal.slice_bounds-split-count
slice_bounds-split-count c =
    let part = c.in_ok-bytes.bytes.now in
    let found = c.in_ok-bytes.ensures in
    omega (arith, answers_within c.args.self.now.bytes.now part c.args.transition c.args.side c.args.arc found.0 found.1 c.first_slot.result c.from.result c.args.self.now.tested c.if-not-has_arc.ensures c.first_slot.ensures.start c.from.ensures)

pub returns-in_err-slot : goal.returns-in_err-slot
returns-in_err-slot c =
    let part = c.in_ok-bytes.bytes.now in
    let found = c.in_ok-bytes.ensures in
    let start = c.first_slot.result + 5 * (c.from.result - 1) in
    let within = answers_within c.args.self.now.bytes.now part c.args.transition c.args.side c.args.arc found.0 found.1 c.first_slot.result c.from.result c.args.self.now.tested c.if-not-has_arc.ensures c.first_slot.ensures.start c.from.ensures in
    let long = ap length found.1 ∙ transition_length c.args.self.now.bytes.now c.args.self.now.tested c.args.transition found.0 in
    absurd (omega (arith, c.in_err-slot.ensures, within, long, length-take (41 - start) (drop start part), length-drop start part))

pub returns : goal.returns
returns c =
    let part = c.in_ok-bytes.bytes.now in
    let found = c.in_ok-bytes.ensures in
    let start = c.first_slot.result + 5 * (c.from.result - 1) in
    let long = ap length found.1 ∙ transition_length c.args.self.now.bytes.now c.args.self.now.tested c.args.transition found.0 in
    let rest : take (41 - start) (drop start part) ≡ drop start part = ap (λ n. take (n - start) (drop start part)) (sym long) ∙ take_rest part start in
    let read = c.in_ok-slot.ensures in
    answers_slot c.args.self.now.bytes.now part c.args.transition c.args.side c.args.arc found.0 found.1 c.in_ok-slot.slot c.first_slot.result c.from.result c.if-not-has_arc.ensures c.first_slot.ensures.start c.from.ensures (read.1 ∙ ap (λ x. slot_of (take 5 x)) rest)
