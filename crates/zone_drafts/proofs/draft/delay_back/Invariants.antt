use Rattle.std.proofs.Common.{◌≡◌, cond, eqb}
use Rattle.zone_cells.specs.Cells.{times, put, column_least}
use Rattle.zone_drafts.proofs.draft.delay_back.Given as goal

abbrev pub invariant-loop-i : goal.invariant-loop-i
invariant-loop-i g l = (l.points ≡ 0 → l.i ≡ 1) × (l.cells ≡ times l.i (λ i c. cond (eqb i 0) c (put 0 i (column_least g.B.Bound.kind l.points i c) c)) l.initial.cells)
