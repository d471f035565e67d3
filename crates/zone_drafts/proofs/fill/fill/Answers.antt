use Rattle.std.proofs.Common.{ap, ◌∙◌}
use Rattle.zone_cells.specs.Cells.{put}
use Rattle.zone_drafts.proofs.Steps.{one_more, last_one}
use Rattle.zone_drafts.proofs.fill.fill.Goals as goal

pub loop-i-preserved : goal.loop-i-preserved
loop-i-preserved g c = (
  c.loop-i.invariant.0,
  λ bounds agrees.
      one_more c.loop-i.i _ c.loop-j.draft c.loop-i.draft _ (c.loop-i.invariant.1 bounds agrees)
      (c.put.ensures ∙ ap (λ b. put c.loop-j.j c.loop-i.i b c.loop-i.draft) (agrees c.loop-j.j c.loop-i.i _ c.loop-j-test.true c.loop-i-test.true c.bound.ensures)),
)

pub loop-j-preserved : goal.loop-j-preserved
loop-j-preserved g c = (
  c.loop-j.invariant.0,
  λ bounds agrees.
      one_more c.loop-j.j _ c.args.draft.now c.loop-j.draft _ (c.loop-j.invariant.1 bounds agrees)
      (last_one c.args.points c.loop-i.i _ c.loop-j.draft _ (c.loop-i.invariant.1 bounds agrees) c.loop-i-test.false c.loop-i.auto.i-end),
)

pub returns : goal.returns
returns g c = λ bounds agrees.
    last_one c.args.points c.loop-j.j _ c.args.draft.now _ (c.loop-j.invariant.1 bounds agrees) c.loop-j-test.false c.loop-j.auto.j-end
