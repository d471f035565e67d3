use Rattle.std.proofs.Common.{◌≡◌, ◌+◌, ◌-◌, ◌<◌, ap, ap₂, ◌∙◌, arith}
use Rattle.arrayvec.specs.ArrayVec.{array_vec_len}
use Rattle.zone_cells.specs.Cells.{added_cells}
use Rattle.nets.specs.Nets.{arcs_of}
use Rattle.nets.specs.declared.side.Side.TheVariants.{Input}
use Rattle.zone_matchings.proofs.Steps.{numbered_from, pushed_numbered}
use Rattle.zone_drafts.proofs.Steps.{one_numbered}
use Rattle.zone_drafts.proofs.firing.Firing.add_inputs.Goals as goal

pub loop-arc-preserved : goal.loop-arc-preserved
loop-arc-preserved g c =
    let arcs = arcs_of (g.N.NetStore.net c.args.self.now.store.now) c.args.self.now.transition Input in
    let arc = c.loop-arc.arc in
    let some = c.loop-arc.auto.arc in
    let here = numbered_from arcs arc _ some in
    let room : array_vec_len c.loop-arc.tokens < 12 = omega (arith, c.loop-arc.invariant.0, c.loop-arc-test.true, c.arc_count-arc-end.ensures.few, c.requires) in
    let more = c.push.ensures.len room in
    let point : c.len.result ≡ array_vec_len c.args.tokens.now + 1 + (arc - 1) = omega (arith, c.len.ensures.value, more, c.loop-arc.invariant.0, some) in (
      omega (arith, c.loop-arc.invariant.0, more),
      pushed_numbered (λ a. a.place) arcs arc _ c.args.tokens.now.items c.loop-arc.tokens.items _ _ some (omega (arith, c.loop-arc-test.true, c.arc_count-arc-end.ensures.is)) c.loop-arc.invariant.1 (c.push.ensures.items room) (c.place.ensures ∙ ap (λ a. a.place) here),
      one_numbered arc _ c.args.cells.now c.loop-arc.cells _ some c.loop-arc.invariant.2 (c.add_token.ensures ∙ ap₂ (λ r n. added_cells g.B.Bound.kind r n c.loop-arc.cells) (c.range-range.ensures ∙ ap (λ a. a.range) here) point),
    )
