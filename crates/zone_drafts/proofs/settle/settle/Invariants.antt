use Rattle.zone_cells.proofs.Settling.{SettledSoFar}
use Rattle.zone_drafts.proofs.settle.settle.Given as goal

abbrev pub invariant-loop-pivot : goal.invariant-loop-pivot
invariant-loop-pivot g l = SettledSoFar g.B.Bound.kind l.points l.pivots l.initial.cells l.pivot-index l.cells
