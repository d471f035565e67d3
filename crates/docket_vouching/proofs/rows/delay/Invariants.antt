use Rattle.std.proofs.Common.{◌≡◌, ℕ, ◌<◌, ◌-◌, length, get_or}
use Rattle.zone_cells.specs.Cells.{in_page}
use Rattle.zone_closed_forms.specs.ClosedForms.{least_below}
use Rattle.docket_vouching.proofs.rows.delay.Given as goal

abbrev pub invariant-loop-k : goal.invariant-loop-k
invariant-loop-k g l =
    let kind = g.B.Bound.kind in
    record {
      ups : length l.up ≡ 9;
      lows : length l.low ≡ 9;
      up_done : (j : ℕ) → j < l.k → get_or l.up j kind.no_limit ≡ in_page kind l.page j 0;
      low_done : (j : ℕ) → j < l.k → get_or l.low j kind.no_limit ≡ kind.zero;
    }

abbrev pub invariant-loop-token : goal.invariant-loop-token
invariant-loop-token g l =
    let kind = g.B.Bound.kind in
    record {
      lows : length l.low ≡ 9;
      low_done : (j : ℕ) → j < 9 → get_or l.low j kind.no_limit ≡ least_below kind (in_page kind l.page) (l.token - 1) j;
    }
