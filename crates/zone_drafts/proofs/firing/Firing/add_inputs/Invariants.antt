use Rattle.std.proofs.Common.{◌≡◌, ◌+◌, ◌-◌, ◌++◌, map, take}
use Rattle.arrayvec.specs.ArrayVec.{array_vec_len}
use Rattle.zone_cells.specs.Cells.{times, added_cells, arc_at}
use Rattle.nets.specs.Nets.{arcs_of}
use Rattle.nets.specs.declared.side.Side.TheVariants.{Input}
use Rattle.zone_drafts.proofs.firing.Firing.add_inputs.Given as goal

abbrev pub invariant-loop-arc : goal.invariant-loop-arc
invariant-loop-arc g l =
    (array_vec_len l.tokens + 1 ≡ array_vec_len l.initial.tokens + l.arc)
    × (l.tokens.items ≡ l.initial.tokens.items ++ map (λ a. a.place) (take (l.arc - 1) (arcs_of (g.N.NetStore.net l.self.store.now) l.self.transition Input)))
    × (l.cells ≡ times (l.arc - 1) (λ a c. added_cells g.B.Bound.kind (arc_at g.B.Bound.kind (arcs_of (g.N.NetStore.net l.self.store.now) l.self.transition Input) a).range (array_vec_len l.initial.tokens + 1 + a) c) l.initial.cells)
