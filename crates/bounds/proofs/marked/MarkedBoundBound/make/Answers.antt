use Rattle.std.proofs.Common.{w32, w64, FitsSigned, rules}
use Rattle.std.proofs.lemmas.Int.{to_z-of_z}
use Rattle.bounds.proofs.MarkedWords.{marked_made}
use Rattle.bounds.proofs.marked.MarkedBoundBound.make.Goals as goal

pub returns : goal.returns
returns c =
    let given : FitsSigned w32 c.args.number = search rules in
    let read : FitsSigned w64 c.in_ok-number.number = search rules in
    let is = simp to_z-of_z at c.in_ok-number.ensures in
    let word = simp to_z-of_z at c.capped.ensures in
    marked_made c.args.number c.in_ok-number.number c.args.strict c.capped.result is word
