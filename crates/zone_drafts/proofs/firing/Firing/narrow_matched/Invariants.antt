use Rattle.std.proofs.Common.{◌≡◌, ◌-◌}
use Rattle.nets.specs.Nets.{arcs_of}
use Rattle.nets.specs.declared.side.Side.TheVariants.{Output}
use Rattle.zone_drafts.proofs.Backwards.{after_arcs}
use Rattle.zone_drafts.proofs.firing.Firing.narrow_matched.Given as goal

abbrev pub invariant-loop-arc : goal.invariant-loop-arc
invariant-loop-arc g l =
    (l.arc-end ≡ 0 → l.arc ≡ 1) × (l.cells ≡ after_arcs g.B.Bound.kind (arcs_of (g.N.NetStore.net l.self.store.now) l.self.transition Output) l.self.matching.now l.initial.cells (l.arc - 1))
