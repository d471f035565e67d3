use Rattle.std.proofs.Common.{◌≡◌}
use Rattle.zone_cells.specs.Cells.{times, lowered, in_draft}
use Rattle.zone_drafts.proofs.draft.relax_row.Given as goal

abbrev pub invariant-loop-i : goal.invariant-loop-i
invariant-loop-i g l =
    l.cells ≡ times l.i (λ i c. lowered g.B.Bound.kind l.row i (g.B.Bound.kind.sum (in_draft g.B.Bound.kind l.initial.cells l.row l.pivot) (in_draft g.B.Bound.kind c l.pivot i)) c) l.initial.cells
