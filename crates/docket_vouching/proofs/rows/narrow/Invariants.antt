use Rattle.std.proofs.Common.{◌≡◌, ℕ, ◌<◌, ◌≤◌, length, get_or}
use Rattle.zone_walks.specs.Walks.{lesser}
use Rattle.zone_cells.specs.Cells.{in_page}
use Rattle.docket_vouching.proofs.rows.narrow.Given as goal

abbrev pub invariant-loop-k : goal.invariant-loop-k
invariant-loop-k g l =
    let kind = g.B.Bound.kind in
    record {
      ups : length l.up ≡ 9;
      lows : length l.low ≡ 9;
      up_done : (j : ℕ) → j < l.k → get_or l.up j kind.no_limit ≡ lesser kind (get_or l.initial.up j kind.no_limit) (kind.sum (in_page kind l.page j l.token) l.fn.range.upper);
      low_done : (j : ℕ) → j < l.k → get_or l.low j kind.no_limit ≡ lesser kind (get_or l.initial.low j kind.no_limit) (kind.sum l.fn.range.lower (in_page kind l.page l.token j));
      up_rest : (j : ℕ) → l.k ≤ j → get_or l.up j kind.no_limit ≡ get_or l.initial.up j kind.no_limit;
      low_rest : (j : ℕ) → l.k ≤ j → get_or l.low j kind.no_limit ≡ get_or l.initial.low j kind.no_limit;
    }
