use Rattle.std.proofs.Common.{◌≡◌, ◌+◌, ◌-◌, ◌≤◌, ◌∷◌, ◌++◌, false}
use Rattle.arrayvec.specs.ArrayVec.{array_vec_len}
use Rattle.zone_cells.specs.Sifted.{sifted}
use Rattle.docket_vouching.proofs.points.staying.Given as goal

abbrev pub invariant-loop-token : goal.invariant-loop-token
invariant-loop-token l =
    (array_vec_len l.points ≤ l.token) × (l.points.items ++ sifted false l.matching l.token (l.tokens + 1 - l.token) ≡ 0 ∷ sifted false l.matching 1 l.tokens)
