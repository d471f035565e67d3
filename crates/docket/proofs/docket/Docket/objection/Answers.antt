use Rattle.std.proofs.Common.{ap, ◌∙◌}
use Rattle.docket.specs.Dockets.{world_over}
use Rattle.docket_rules.specs.Worlds.{page_cells_at, page_places_at}
use Rattle.docket_vouching.specs.Asked.{shown}
use Rattle.zone_cells.specs.Drafts.{page_zone}
use Rattle.zone_pages.specs.Objections.{objection_of}
use Rattle.docket.proofs.docket.Docket.objection.Goals as goal

pub returns : goal.returns
returns g c =
    let kind = g.B.Bound.kind in
    let asked = shown kind c.args.asked in
    let world = world_over c.args.self.now c.args.book.now in
    let zone = c.args.voucher.now.zone in
    c.check.ensures.is
    ∙ ap (λ p. objection_of kind (page_zone kind p c.page.result.cells.now) asked c.pairing.result.now) c.page.ensures.places
    ∙ ap (λ cells. objection_of kind (page_zone kind (page_places_at world zone) cells) asked c.pairing.result.now) c.page.ensures.cells
    ∙ ap (λ p. objection_of kind (page_zone kind (page_places_at world zone) (page_cells_at world zone)) asked p) c.pairing.ensures
