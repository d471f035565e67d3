use Rattle.std.proofs.Common.{rules, length, suc, sym, ap, ◌∙◌, add-one}
use Rattle.std.proofs.lemmas.Bool.{cond-true, le-leb}
use Rattle.zone_cells.specs.Cells.{in_page, written}
use Rattle.zone_pages.proofs.book.Page.load.Goals as goal

pub returns-then-self-le-PAGE_PLACES : goal.returns-then-self-le-PAGE_PLACES
returns-then-self-le-PAGE_PLACES g c =
    let places = c.args.self.now.places.now in
    let page = c.args.self.now.cells.now in
    c.fill.ensures (in_page g.B.Bound.kind page) (λ j i b p q k. search rules)
    ∙ ap (λ n. written (in_page g.B.Bound.kind page) n c.args.draft.now) (add-one (length places) ∙ sym (cond-true _ (suc (length places)) 0 (le-leb _ 8 c.if-self-le-PAGE_PLACES.true)))
