use Rattle.std.proofs.Common.{◌∙◌}
use Rattle.nets.specs.Nets.{transition_of}
use Rattle.zones.proofs.Arcs.{transition_limits}
use Rattle.zone_drafts.proofs.Backwards.{narrowed_all}
use Rattle.zone_drafts.proofs.firing.Firing.narrow_all.Goals as goal

pub returns : goal.returns
returns g c =
    let kind = g.B.Bound.kind in
    let net = g.N.NetStore.net c.args.self.now.store.now in
    let t = c.args.self.now.transition in
    narrowed_all kind (transition_of net t) net.places (transition_limits kind net t c.keeps_limits.ensures) c.args.self.now.matching.now c.args.self.now.places.now c.args.cells.now c.narrow_matched.new.cells c.settle.new.cells _ _ c.narrow_matched.ensures (c.deref.ensures.0 ∙ c.sift.ensures) c.settle.ensures
