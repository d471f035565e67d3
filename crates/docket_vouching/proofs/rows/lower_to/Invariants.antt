use Rattle.std.proofs.Common.{◌≡◌, ℕ, ◌<◌, ◌≤◌, length, get_or}
use Rattle.zone_walks.specs.Walks.{lesser}
use Rattle.zone_cells.specs.Cells.{in_page}
use Rattle.docket_vouching.proofs.rows.lower_to.Given as goal

abbrev pub invariant-loop-k : goal.invariant-loop-k
invariant-loop-k g l =
    let kind = g.B.Bound.kind in
    record {
      lows : length l.low ≡ 9;
      low_done : (j : ℕ) → j < l.k → get_or l.low j kind.no_limit ≡ lesser kind (in_page kind l.page l.token j) (get_or l.initial.low j kind.no_limit);
      low_rest : (j : ℕ) → l.k ≤ j → get_or l.low j kind.no_limit ≡ get_or l.initial.low j kind.no_limit;
    }
