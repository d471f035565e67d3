use Rattle.std.proofs.Common.{◌≡◌, map, take}
use Rattle.arrayvec.specs.ArrayVec.{array_vec_len}
use Rattle.nets.specs.Nets.{numbered}
use Rattle.zone_drafts.proofs.tokens.some_tokens.Given as goal

abbrev pub invariant-loop-number : goal.invariant-loop-number
invariant-loop-number l =
    (array_vec_len l.tokens ≡ l.number-index) × (l.tokens.items ≡ map (λ i. numbered l.places i 0) (take l.number-index l.numbers))
