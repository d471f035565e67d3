use Rattle.std.proofs.Common.{◌≡◌, get_or}
use Rattle.zone_cells.specs.Cells.{times, put, in_draft, moved_row}
use Rattle.zone_drafts.proofs.draft.take_off.Given as goal

abbrev pub invariant-loop-i : goal.invariant-loop-i
invariant-loop-i g l =
    l.cells ≡ times l.i (λ i c. put l.row i (in_draft g.B.Bound.kind c l.from (get_or l.kept i 0)) c) l.initial.cells

abbrev pub invariant-loop-row : goal.invariant-loop-row
invariant-loop-row g l = l.cells ≡ times l.row (λ j c. moved_row g.B.Bound.kind l.kept l.points j c) l.initial.cells
