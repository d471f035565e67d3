use Rattle.std.proofs.Common.{◌≡◌, ◌+◌, ◌-◌, map, take}
use Rattle.arrayvec.specs.ArrayVec.{array_vec_len}
use Rattle.nets.specs.Nets.{arcs_of}
use Rattle.nets.specs.declared.side.Side.TheVariants.{Output}
use Rattle.zone_matchings.proofs.outputs.Outputs.of.Given as goal

abbrev pub invariant-loop-arc : goal.invariant-loop-arc
invariant-loop-arc g l =
    (array_vec_len l.arcs + 1 ≡ l.arc) × (l.arcs.items ≡ map (λ a. a.place) (take (l.arc - 1) (arcs_of (g.N.NetStore.net l.store) l.transition Output)))
