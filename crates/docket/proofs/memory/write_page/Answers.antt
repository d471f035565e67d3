use Rattle.std.proofs.Common.{◌/◌, ◌%◌, map, ap, get_or, length, rules, ◌∙◌}
use Rattle.zone_cells.specs.Cells.{in_draft}
use Rattle.zone_cells.specs.Drafts.{draft_zone}
use Rattle.zone_cells.specs.Sizes.{page_cells, page_places}
use Rattle.docket_rules.specs.Calls.{cell_of, cells_of, with_page}
use Rattle.std.specs.List.{range_with_len}
use Rattle.docket.proofs.Parts.{padded}
use Rattle.docket.proofs.memory.write_page.Goals as goal

pub returns-clause-cells : goal.returns-clause-cells
returns-clause-cells g c =
    c.write_part.ensures (λ at. cell_of g.B.Bound.kind (length c.args.tokens.now) (in_draft g.B.Bound.kind c.args.draft.now) (at / 9) (at % 9)) (λ at x below k. search rules)
    ∙ ap (λ n. with_page page_cells n (cells_of g.B.Bound.kind (draft_zone g.B.Bound.kind c.args.tokens.now c.args.draft.now)) c.args.cells.now) c.from.ensures

pub returns-clause-places : goal.returns-clause-places
returns-clause-places g c =
    c.write_part-2.ensures (λ at. get_or c.args.tokens.now at 0) (λ at x below k. search rules)
    ∙ ap (λ n. with_page page_places n (map (λ at. get_or c.args.tokens.now at 0) (range_with_len 0 page_places)) c.args.places.now) c.from-2.ensures
    ∙ ap (λ xs. with_page page_places c.args.number xs c.args.places.now) (padded (λ at. get_or c.args.tokens.now at 0) c.args.tokens.now 0 page_places (λ i. search rules) c.requires.few)
