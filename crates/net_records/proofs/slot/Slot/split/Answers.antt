use Rattle.std.proofs.Common.{◌≡◌, ◌+◌, ◌*◌, cond, Some, None, refl, arith, rules}
use Rattle.std.proofs.lemmas.List.{take_rest}
use Rattle.net_records.specs.Slots.{zero_end}
use Rattle.net_records.specs.declared.slot.End.{End}
use Rattle.net_records.proofs.Fields.{split_slot}
use Rattle.net_records.proofs.slot.Slot.split.Goals as goal
use Rattle.net_records.proofs.slot.Slot.split.Goals.{then-unlimited, else-unlimited, then-unlimited-2, else-unlimited-2}

pub returns : goal.returns
returns c =
    let bytes = c.args.bytes.now in
    let upper : End = record { strict = c.bit-2.result; number = c.from-4.result * 128 + c.from-5.result } in
    let above : c.if-unlimited.slot ≡ cond c.bit-unlimited.result None (Some upper) =
    elim c.if-unlimited.branch [ then-unlimited w ↦ search rules | else-unlimited w ↦ search rules ] in
    let below : c.if-unlimited-2.slot ≡ cond c.bit-unlimited.result upper zero_end =
    elim c.if-unlimited-2.branch [ then-unlimited-2 w ↦ search rules | else-unlimited-2 w ↦ search rules ] in
    (omega arith, split_slot bytes _ upper c.bit-unlimited.result (λ i. omega (arith, c.type_inv.bytes i)) refl c.bit.ensures (omega (arith, c.from.ensures, c.from-2.ensures, c.from-3.ensures)) c.bit-unlimited.ensures c.bit-2.ensures (omega (arith, c.from-4.ensures, c.from-5.ensures)) c.bit-3.ensures above below, take_rest bytes 5)
