use Rattle.std.proofs.Common.{◌≡◌, cond, eqb}
use Rattle.zone_cells.specs.Cells.{relaxed_row, times}
use Rattle.zone_drafts.proofs.draft.relax.Given as goal

abbrev pub invariant-loop-row : goal.invariant-loop-row
invariant-loop-row g l =
    l.cells ≡ times l.row (λ j c. cond (eqb j l.pivot) c (relaxed_row g.B.Bound.kind l.points l.pivot j c)) l.initial.cells
