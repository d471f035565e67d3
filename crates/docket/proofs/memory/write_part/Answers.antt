use Rattle.std.proofs.Common.{◌+◌, set, subst, sym, arith}
use Rattle.docket.proofs.Parts.{Written, all_written, one_written}
use Rattle.docket.proofs.memory.write_part.Goals as goal

pub loop-at-preserved : goal.loop-at-preserved
loop-at-preserved g c = (
  c.loop-at.invariant.0,
  λ f agrees.
      let at = c.loop-at.at in
      subst (λ i. Written f c.args.start c.args.items.now (at + 1) (set c.loop-at.items (c.args.start + i) c.item.result)) (sym c.from.ensures)
      (one_written f c.args.start c.args.items.now at c.item.result c.loop-at.items (omega (arith, c.loop-at-test.true, c.requires.room)) (agrees at c.item.result c.loop-at-test.true c.item.ensures) (c.loop-at.invariant.1 f agrees)),
)

pub returns : goal.returns
returns g c = λ f agrees.
    all_written f c.args.start c.args.items.now c.loop-at.at c.args.size c.loop-at.items (omega (arith, c.loop-at-test.false)) c.loop-at.auto.at-end (c.loop-at.invariant.1 f agrees)
