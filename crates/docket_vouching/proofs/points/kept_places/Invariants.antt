use Rattle.std.proofs.Common.{◌≡◌, map, take}
use Rattle.arrayvec.specs.ArrayVec.{array_vec_len}
use Rattle.nets.specs.Nets.{numbered}
use Rattle.docket_vouching.proofs.points.kept_places.Given as goal

abbrev pub invariant-loop-point : goal.invariant-loop-point
invariant-loop-point l =
    (array_vec_len l.tokens ≡ l.point-index) × (l.tokens.items ≡ map (λ i. numbered l.places i 0) (take l.point-index l.kept))
