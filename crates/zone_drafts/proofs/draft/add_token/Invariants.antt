use Rattle.std.proofs.Common.{◌≡◌}
use Rattle.zone_cells.specs.Cells.{times, linked}
use Rattle.zone_drafts.proofs.draft.add_token.Given as goal

abbrev pub invariant-loop-i : goal.invariant-loop-i
invariant-loop-i g l = l.cells ≡ times l.i (λ i c. linked g.B.Bound.kind l.fn.range l.n i c) l.initial.cells
