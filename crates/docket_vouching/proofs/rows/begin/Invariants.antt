use Rattle.std.proofs.Common.{◌≡◌, ℕ, ◌<◌, length, get_or}
use Rattle.zone_cells.specs.Cells.{in_page}
use Rattle.docket_vouching.proofs.rows.begin.Given as goal

abbrev pub invariant-loop-k : goal.invariant-loop-k
invariant-loop-k g l =
    let kind = g.B.Bound.kind in
    record {
      ups : length l.up ≡ 9;
      lows : length l.low ≡ 9;
      up_done : (j : ℕ) → j < l.k → get_or l.up j kind.no_limit ≡ in_page kind l.page j 0;
      low_done : (j : ℕ) → j < l.k → get_or l.low j kind.no_limit ≡ in_page kind l.page 0 j;
    }
