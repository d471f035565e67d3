use Rattle.std.proofs.Common.{rules, arith, length, refl, sym, ap, ◌∙◌, ◌||◌}
use borrow.Author.Tests.{tests}
use Rattle.std.proofs.lemmas.Bool.{eq-eqb, not_from_true}
use Rattle.std.proofs.lemmas.Iterator.{YieldsList-from_range}
use Rattle.std.proofs.lemmas.Iterator.Search.{any_from_yields_List}
use Rattle.std.specs.List.{list_any, range_with_len}
use Rattle.docket_vouching.specs.Asked.{shown}
use Rattle.zone_pages.specs.Comparison.{partner_unsound}
use Rattle.docket_vouching.proofs.vouching.Vouching.lacks_partners.Goals as goal

pub returns-else-self : goal.returns-else-self
returns-else-self g c =
    let claim = c.args.self.now in
    let n = length claim.pairing.now in
    any_from_yields_List (partner_unsound (length (shown g.B.Bound.kind claim.asked).places) claim.pairing.now) _ _ c.any.result c.any.ensures.ran (YieldsList-from_range 0 n n refl (omega arith)) (λ x b q k. search (rules, tests))
    ∙ sym (ap (λ t. t || list_any (partner_unsound (length (shown g.B.Bound.kind claim.asked).places) claim.pairing.now) (range_with_len 0 n)) (not_from_true _ (eq-eqb n (length claim.page.places.now) c.if-self.false)))
