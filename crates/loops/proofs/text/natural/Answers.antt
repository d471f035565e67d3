use Rattle.std.proofs.Common.{◌<◌, length, sym, ap, ◌∙◌, arith}
use Rattle.std.proofs.lemmas.Bool.{eqb-false}
use Rattle.std.specs.Option.{option_map}
use Rattle.loops.specs.Lines.{clipped}
use Rattle.loops.proofs.Scans.{read_more, read_broken, read_all, natural_some}
use Rattle.loops.proofs.text.natural.Goals as goal

pub returns-then-not-is_ascii_digit-clause-value : goal.returns-then-not-is_ascii_digit-clause-value
returns-then-not-is_ascii_digit-clause-value c =
    let text = c.args.text.now in
    let some : 0 < length text = omega (arith, eqb-false (length text) 0 (sym c.if-is_empty.ensures)) in
    read_broken text c.loop-b.b-index c.loop-b.number c.loop-b-test.true c.loop-b.invariant.1 (sym c.if-not-is_ascii_digit.ensures.value) ∙ ap (option_map clipped) (sym (natural_some text some))

pub loop-b-preserved : goal.loop-b-preserved
loop-b-preserved c =
    let text = c.args.text.now in
    let i = c.loop-b.b-index in
    (omega (arith, c.min-number.ensures), read_more text i c.loop-b.number c.loop-b-test.true c.loop-b.invariant.1 c.min-number.result (sym c.if-not-is_ascii_digit.ensures.value) (omega (arith, c.min-number.ensures, c.from.ensures)))

pub returns : goal.returns
returns c =
    let text = c.args.text.now in
    let some : 0 < length text = omega (arith, eqb-false (length text) 0 (sym c.if-is_empty.ensures)) in
    record {
      value = read_all text c.loop-b.b-index c.loop-b.number c.loop-b-test.false c.loop-b.invariant.0 c.loop-b.invariant.1 ∙ ap (option_map clipped) (sym (natural_some text some));
      bound = c.loop-b.invariant.0;
    }
