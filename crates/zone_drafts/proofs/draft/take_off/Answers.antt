use Rattle.std.proofs.Common.{get_or, ap, ◌∙◌}
use Rattle.zone_cells.specs.Cells.{times, put, in_draft}
use Rattle.zone_drafts.proofs.Steps.{one_more, last_one}
use Rattle.zone_drafts.proofs.draft.take_off.Goals as goal

pub loop-row-preserved : goal.loop-row-preserved
loop-row-preserved g c =
    let kept = c.args.kept.now in
    let row = c.loop-row.row in
    let from = c.byte-from.ensures ∙ ap (λ j. get_or kept j 0) c.from.ensures in
    one_more row _ c.args.cells.now c.loop-row.cells _ c.loop-row.invariant (last_one c.args.points c.loop-i.i _ c.loop-row.cells _ c.loop-i.invariant c.loop-i-test.false c.loop-i.auto.i-end ∙ ap (λ j. times c.args.points (λ i d. put row i (in_draft g.B.Bound.kind d j (get_or kept i 0)) d) c.loop-row.cells) from)
