use Rattle.std.proofs.Common.{◌≡◌, true, false, rules}
use borrow.Author.Tests.{tests}
use Rattle.std.proofs.lemmas.Iterator.{first_from_Range}
use Rattle.zones.specs.Digits.{digit_fits}
use Rattle.zone_matchings.proofs.Steps.{next_below}
use Rattle.zone_matchings.proofs.outputs.Outputs.next_digit.Goals as goal

pub returns : goal.returns
returns c =
    let test = digit_fits c.args.self.now.arcs.items c.args.self.now.tokens.now c.args.before.now in
    next_below 16 test c.args.digit c.find.result (first_from_Range _ _ _ c.find.result (λ x. test x ≡ true) (λ x. test x ≡ false) c.find.ensures.ran (λ x q k. search (rules, tests)) (λ x q k. search (rules, tests)))
