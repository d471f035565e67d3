use Rattle.std.proofs.Common.{◌≡◌, ◌+◌, ◌-◌, ◌≤◌, ◌∷◌, ◌++◌}
use Rattle.arrayvec.specs.ArrayVec.{array_vec_len}
use Rattle.zone_cells.specs.Sifted.{sifted}
use Rattle.zone_drafts.proofs.tokens.sift.Given as goal

abbrev pub invariant-loop-token : goal.invariant-loop-token
invariant-loop-token l =
    (array_vec_len l.points ≤ l.token) × (l.points.items ++ sifted l.matched l.matching l.token (l.tokens + 1 - l.token) ≡ 0 ∷ sifted l.matched l.matching 1 l.tokens)
