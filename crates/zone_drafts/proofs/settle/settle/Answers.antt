use Rattle.std.proofs.Common.{sym, subst, rules, arith}
use Rattle.zone_cells.specs.Settling.{Settles}
use Rattle.zone_cells.proofs.Settling.{settled_none, settled_more, settled_not, settled_all}
use Rattle.zone_drafts.proofs.settle.settle.Goals as goal

pub loop-pivot-init : goal.loop-pivot-init
loop-pivot-init g c = settled_none g.B.Bound.kind c.args.points c.args.pivots.now c.args.cells.now

pub returns-in_err-settle_point : goal.returns-in_err-settle_point
returns-in_err-settle_point g c =
    subst (Settles g.B.Bound.kind c.args.points c.args.pivots.now c.args.cells.now c.settle_point.new.cells) (search rules) (settled_not g.B.Bound.kind c.args.points c.args.pivots.now c.args.cells.now c.loop-pivot.pivot-index c.loop-pivot.cells c.loop-pivot-test.true c.loop-pivot.invariant _ c.in_err-settle_point.ensures.cells (sym c.in_err-settle_point.ensures.answer))

pub loop-pivot-preserved : goal.loop-pivot-preserved
loop-pivot-preserved g c =
    settled_more g.B.Bound.kind c.args.points c.args.pivots.now c.args.cells.now c.loop-pivot.pivot-index c.loop-pivot.cells c.loop-pivot-test.true c.loop-pivot.invariant _ c.in_ok-settle_point.ensures.cells (sym c.in_ok-settle_point.ensures.answer)

pub returns : goal.returns
returns g c =
    settled_all g.B.Bound.kind c.args.points c.args.pivots.now c.args.cells.now c.loop-pivot.pivot-index c.loop-pivot.cells (omega (arith, c.loop-pivot-test.false, c.loop-pivot.auto.pivot-index-end)) c.loop-pivot.invariant
