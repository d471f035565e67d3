use Rattle.std.proofs.Common.{◌≡◌, ◌++◌, drop}
use Rattle.arrayvec.specs.ArrayVec.{array_vec_len}
use Rattle.docket_rules.specs.Tables.{given, initial_tokens}
use Rattle.docket.proofs.docket.open.paired.Given as goal

abbrev pub invariant-loop-place : goal.invariant-loop-place
invariant-loop-place l =
    (array_vec_len l.tokens ≡ l.place-index) × (l.tokens.items ++ initial_tokens (given (drop l.place-index l.places) (drop l.place-index l.ages)) ≡ initial_tokens (given l.places l.ages))
