use Rattle.std.proofs.Common.{◌≡◌, ◌*◌, ◌<◌, length, ltb, get_or, take, drop, Some, None, Ok, Err, sym, ap, ◌∙◌, arith, rules, length-drop, length-set}
use Rattle.std.proofs.lemmas.Bool.{cond-true, cond-false, lt-ltb, le-ltb}
use Rattle.std.proofs.lemmas.List.{take_all}
use Rattle.net_records.specs.Slots.{slots_of}
use Rattle.net_records.specs.declared.fault.NetRefusal.TheVariants.{BytesMissing}
use Rattle.net_records.proofs.Fields.{record_fields}
use Rattle.net_records.proofs.Rows.{slots_step, rest_step}
use Rattle.net_records.proofs.transition.TransitionRecord.read.Goals as goal

pub loop-slot-preserved : goal.loop-slot-preserved
loop-slot-preserved c =
    let bytes = drop 1 c.args.bytes.now in
    let rest = c.loop-slot.rest.now in
    let i = c.loop-slot.slot-index in
    let so_far = c.loop-slot.invariant in
    let found : c.split.result ≡ Some (c.in_ok-slot.field-0-0, c.in_ok-slot.field-0-1) = search rules in
    let parted = rw found at c.split.ensures in
    record {
      whole = length-set c.loop-slot.slot-items i _ ∙ so_far.whole;
      rest = rest_step bytes rest _ i so_far.rest parted.2;
      so_far = slots_step bytes rest c.loop-slot.slot-items i _ (omega arith) so_far.rest so_far.so_far parted.1;
      long = omega (arith, parted.0, ap length so_far.rest, length-drop (5 * i) bytes, length-drop 1 c.args.bytes.now);
    }

pub returns-in_err-slot : goal.returns-in_err-slot
returns-in_err-slot c =
    let bytes = c.args.bytes.now in
    let i = c.loop-slot.slot-index in
    let none : c.split.result ≡ None = search rules in
    let short = rw none at c.split.ensures in
    let few : length bytes < 41 = omega (arith, short, ap length c.loop-slot.invariant.rest, length-drop (5 * i) (drop 1 bytes), length-drop 1 bytes) in
    let missing : c.from_residual-in_err-slot.result ≡ Err BytesMissing = search rules in
    missing ∙ sym (cond-true (ltb (length bytes) 41) _ _ (lt-ltb (length bytes) 41 few))

pub returns : goal.returns
returns c =
    let bytes = c.args.bytes.now in
    let items = c.loop-slot.slot-items in
    let so_far = c.loop-slot.invariant in
    let end : c.loop-slot.slot-index ≡ 8 = omega arith in
    let slots = sym (take_all 8 items (omega arith)) ∙ ap (λ n. take n items) (sym end) ∙ so_far.so_far ∙ ap (λ n. slots_of n (drop 1 bytes)) end in
    let count : c.in_ok-counts.counts.now ≡ get_or bytes 0 0 = search rules in
    ap Ok (record_fields bytes c.in_ok-counts.counts.now _ _ items count c.side_count.ensures c.side_count-2.ensures slots) ∙ sym (cond-false (ltb (length bytes) 41) _ _ (le-ltb (length bytes) 41 (omega arith)))
