use Rattle.std.proofs.Common.{◌≡◌, length}
use Rattle.nets.specs.Nets.{arcs_of}
use Rattle.nets.specs.declared.side.Side.TheVariants.{Output}
use Rattle.zone_cells.specs.Cells.{in_page}
use Rattle.zone_closed_forms.specs.ClosedForms.{all_narrowed}
use Rattle.zone_closed_forms.specs.ClockRows.{AlikeOr, narrowed_on}
use Rattle.docket_vouching.specs.Rows.{rows_in}
use Rattle.docket_vouching.proofs.rows.narrow_matched.Given as goal

abbrev pub invariant-loop-arc : goal.invariant-loop-arc
invariant-loop-arc g l =
    let kind = g.B.Bound.kind in
    let arcs = arcs_of (g.N.NetStore.net l.store) l.transition Output in
    record {
      ups : length l.up ≡ 9;
      lows : length l.low ≡ 9;
      so_far : AlikeOr 9 (all_narrowed kind (in_page kind l.page) arcs l.matching (rows_in kind l.initial.up l.initial.low)) (narrowed_on kind (in_page kind l.page) arcs l.matching l.arc (rows_in kind l.up l.low));
    }
