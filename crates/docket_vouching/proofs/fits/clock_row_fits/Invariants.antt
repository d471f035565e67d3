use Rattle.std.proofs.Common.{ℕ, ◌<◌, ◌≤◌, IsTrue, get_or}
use Rattle.zone_cells.specs.Cells.{in_page}
use Rattle.docket_vouching.specs.Asked.{rows_within}
use Rattle.docket_vouching.proofs.fits.clock_row_fits.Given as goal

abbrev pub invariant-loop-i : goal.invariant-loop-i
invariant-loop-i g l =
    let kind = g.B.Bound.kind in
    IsTrue l.fits → (k : ℕ) → 1 ≤ k → k < l.i → IsTrue (kind.at_most ((rows_within kind l.rows).low (get_or l.points k 0)) (in_page kind l.page 0 k))
