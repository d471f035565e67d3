use Rattle.std.proofs.Common.{◌≡◌, ◌+ℤ◌, ◌||◌, w64, FitsSigned, ap, ap₂, ◌∙◌, arith, rules}
use Rattle.std.proofs.lemmas.Int.{ints}
use Rattle.bounds.specs.MarkedKind.{same_marked}
use Rattle.bounds.specs.Places.{half, even, capped_place, half_small}
use Rattle.bounds.specs.declared.marked.MarkedNumber.{MarkedNumber}
use Rattle.bounds.proofs.MarkedWords.{marked_sum}
use Rattle.bounds.proofs.marked.MarkedBoundBound.sum.Goals as goal

pub returns : goal.returns
returns c =
    let a = c.args.self in
    let b = c.args.other in
    let x : c.parts-a.result ≡ record { number = half a.limit; strict = even a.limit } = c.parts-a.ensures in
    let y : c.parts-b.result ≡ record { number = half b.limit; strict = even b.limit } = c.parts-b.ensures in
    let m = ap (λ (n : MarkedNumber). n.number) x in
    let n = ap (λ (n : MarkedNumber). n.number) y in
    let r : FitsSigned w64 c.parts-a.result.number = search rules in
    let t : FitsSigned w64 c.parts-b.result.number = search rules in
    let s : FitsSigned w64 (c.parts-a.result.number +ℤ c.parts-b.result.number) =
    omega (arith, ints, m, n, half_small a.limit a.held, half_small b.limit b.held) in
    let word : c.capped.result.limit ≡ capped_place (c.parts-a.result.number +ℤ c.parts-b.result.number) (c.parts-a.result.strict || c.parts-b.result.strict) = search rules in
    same_marked _ _ (word ∙ ap₂ (λ (k l : MarkedNumber). capped_place (k.number +ℤ l.number) (k.strict || l.strict)) x y ∙ marked_sum a.limit b.limit a.held b.held)
