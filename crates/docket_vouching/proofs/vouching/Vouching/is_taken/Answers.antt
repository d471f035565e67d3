use Rattle.std.proofs.Common.{rules, eqb, take, ap, ◌∙◌}
use borrow.Author.Tests.{tests}
use Rattle.std.proofs.lemmas.Iterator.{YieldsList-from_take, YieldsList-from_slice}
use Rattle.std.proofs.lemmas.Iterator.Search.{any_from_yields_List}
use Rattle.zones.specs.Predecessors.{among}
use Rattle.zone_matchings.proofs.Steps.{any-among}
use Rattle.docket_vouching.proofs.vouching.Vouching.is_taken.Goals as goal

pub returns : goal.returns
returns g c =
    let earlier = take c.args.k c.args.self.now.pairing.now in
    let partner = c.byte-partner.result in
    any_from_yields_List (λ d. eqb d partner) _ _ c.any.result c.any.ensures.ran (YieldsList-from_take c.args.k (YieldsList-from_slice c.args.self.now.pairing.now cc) c.take.ensures.count) (λ x b q h. search (rules, tests))
    ∙ any-among partner earlier
    ∙ ap (λ p. among p earlier) c.byte-partner.ensures
