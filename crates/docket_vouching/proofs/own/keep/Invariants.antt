use Rattle.std.proofs.Common.{◌≡◌, ℕ, ◌<◌, length, get_or}
use Rattle.docket_vouching.proofs.own.keep.Given as goal

abbrev pub invariant-loop-j : goal.invariant-loop-j
invariant-loop-j g l =
    let kind = g.B.Bound.kind in
    record {
      tos : length l.to ≡ 13;
      done : (j : ℕ) → j < l.j → get_or l.to j kind.no_limit ≡ get_or l.from (get_or l.kept j 0) kind.no_limit;
    }
