use Rattle.std.proofs.Common.{◌+ℤ◌, w64, FitsSigned, ◌∙◌, arith, rules}
use Rattle.std.proofs.lemmas.Int.{ints, to_z-of_z}
use Rattle.bounds.specs.Words.{word_small}
use Rattle.bounds.specs.PlainKind.{same_plain}
use Rattle.bounds.proofs.PlainWords.{plain_sum}
use Rattle.bounds.proofs.plain.PlainBoundBound.sum.Goals as goal

pub returns : goal.returns
returns c =
    let a = c.args.self in
    let b = c.args.other in
    let p : FitsSigned w64 a.limit = search rules in
    let q : FitsSigned w64 b.limit = search rules in
    let s : FitsSigned w64 (a.limit +ℤ b.limit) = omega (arith, ints, word_small a.limit a.held, word_small b.limit b.held) in
    let word = simp to_z-of_z at c.capped.ensures in
    same_plain _ _ (word ∙ plain_sum a.limit b.limit a.held b.held)
