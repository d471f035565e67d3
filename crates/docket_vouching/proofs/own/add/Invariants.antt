use Rattle.std.proofs.Common.{◌≡◌, ℕ, ◌+◌, ◌<◌, length, get_or}
use Rattle.nets.specs.Nets.{arcs_of}
use Rattle.nets.specs.declared.side.Side.TheVariants.{Input}
use Rattle.zone_cells.specs.Cells.{arc_at}
use Rattle.docket_vouching.proofs.own.add.Given as goal

abbrev pub invariant-loop-arc : goal.invariant-loop-arc
invariant-loop-arc g l =
    let kind = g.B.Bound.kind in
    let arcs = arcs_of (g.N.NetStore.net l.store) l.transition Input in
    record {
      ups : length l.up ≡ 13;
      lows : length l.low ≡ 13;
      up_old : (j : ℕ) → j < l.first → get_or l.up j kind.no_limit ≡ get_or l.initial.up j kind.no_limit;
      low_old : (j : ℕ) → j < l.first → get_or l.low j kind.no_limit ≡ get_or l.initial.low j kind.no_limit;
      up_new : (a : ℕ) → a < l.arc → get_or l.up (l.first + a) kind.no_limit ≡ (arc_at kind arcs a).range.upper;
      low_new : (a : ℕ) → a < l.arc → get_or l.low (l.first + a) kind.no_limit ≡ (arc_at kind arcs a).range.lower;
    }
