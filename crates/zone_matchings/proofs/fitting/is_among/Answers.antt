use Rattle.std.proofs.Common.{rules, eqb, ◌∙◌}
use borrow.Author.Tests.{tests}
use Rattle.std.proofs.lemmas.Iterator.{YieldsList-from_slice}
use Rattle.std.proofs.lemmas.Iterator.Search.{any_from_yields_List}
use Rattle.zone_matchings.proofs.Steps.{any-among}
use Rattle.zone_matchings.proofs.fitting.is_among.Goals as goal

pub returns : goal.returns
returns c =
    any_from_yields_List (λ d. eqb d c.args.token) _ _ c.any.result c.any.ensures.ran (YieldsList-from_slice c.args.digits.now cc) (λ x b q h. search (rules, tests))
    ∙ any-among c.args.token c.args.digits.now
