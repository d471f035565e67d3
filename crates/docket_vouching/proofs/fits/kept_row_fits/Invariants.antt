use Rattle.std.proofs.Common.{ℕ, ◌<◌, ◌≤◌, ◌||◌, IsTrue, get_or}
use Rattle.zone_cells.specs.Cells.{in_page}
use Rattle.docket_vouching.specs.Asked.{rows_within}
use Rattle.docket_vouching.specs.Fits.{way_fits, own_fits}
use Rattle.docket_vouching.proofs.fits.kept_row_fits.Given as goal

abbrev pub invariant-loop-i : goal.invariant-loop-i
invariant-loop-i g l =
    let kind = g.B.Bound.kind in
    record {
      up : IsTrue l.fits → IsTrue (kind.at_most (get_or l.rows (get_or l.points l.j 0) kind.no_limit) (in_page kind l.page l.j 0));
      entries : IsTrue l.fits → (k : ℕ) → 1 ≤ k → k < l.i → IsTrue (way_fits kind (in_page kind l.page) (rows_within kind l.rows) l.points l.j k || own_fits kind (in_page kind l.page) (in_page kind l.own) l.kept l.j k);
    }
