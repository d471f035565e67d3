use Rattle.std.proofs.Common.{◌≡◌, ◌+◌, ◌++◌, map, take}
use Rattle.arrayvec.specs.ArrayVec.{array_vec_len}
use Rattle.nets.specs.Nets.{arcs_of}
use Rattle.nets.specs.declared.side.Side.TheVariants.{Input}
use Rattle.docket_vouching.proofs.points.all_places.Given as goal

abbrev pub invariant-loop-arc : goal.invariant-loop-arc
invariant-loop-arc g l =
    (array_vec_len l.tokens ≡ array_vec_len l.initial.tokens + l.arc)
    × (l.tokens.items ≡ l.initial.tokens.items ++ map (λ a. a.place) (take l.arc (arcs_of (g.N.NetStore.net l.store) l.transition Input)))
