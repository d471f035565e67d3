use Rattle.std.proofs.Common.{[], ap, ◌∙◌, arith}
use Rattle.nets.specs.Nets.{arcs_of}
use Rattle.nets.specs.declared.side.Side.TheVariants.{Output}
use Rattle.zone_matchings.proofs.Steps.{numbered_from, pushed_numbered}
use Rattle.zone_matchings.proofs.outputs.Outputs.of.Goals as goal

pub loop-arc-preserved : goal.loop-arc-preserved
loop-arc-preserved g c =
    let arcs = arcs_of (g.N.NetStore.net c.args.store.now) c.args.transition Output in
    let arc = c.loop-arc.arc in
    let some = c.loop-arc.auto.arc in (
      omega (arith, c.loop-arc.invariant.0, c.push.ensures.len),
      pushed_numbered (λ a. a.place) arcs arc _ [] c.loop-arc.arcs.items _ _ some (omega (arith, c.loop-arc-test.true, c.arc_count-arc-end.ensures.is)) c.loop-arc.invariant.1 c.push.ensures.items (c.place.ensures ∙ ap (λ a. a.place) (numbered_from arcs arc _ some)),
    )
