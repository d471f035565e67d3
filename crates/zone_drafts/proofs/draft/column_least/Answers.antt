use Rattle.std.proofs.Common.{ℕ, ◌-◌, refl, ap, ◌∙◌, rules}
use borrow.Author.Tests.{tests}
use Rattle.std.proofs.lemmas.Iterator.{YieldsList-from_range}
use Rattle.std.proofs.lemmas.Iterator.Consumers.{fold_from_yields_List}
use Rattle.std.specs.List.{fold, range_with_len}
use Rattle.zone_cells.specs.Cells.{in_draft}
use Rattle.zone_walks.specs.Walks.{lesser}
use Rattle.zone_drafts.proofs.Steps.{fold_from_one}
use Rattle.zone_drafts.proofs.draft.column_least.Goals as goal

pub returns : goal.returns
returns g c =
    let kind = g.B.Bound.kind in
    let least : g.row.B.Denot → ℕ → g.row.B.Denot = λ b j. lesser kind (in_draft kind c.args.cells.now j c.args.i) b in
    fold_from_yields_List _ least _ c.fold.result c.fold.ensures.ran (YieldsList-from_range 1 c.args.points _ refl refl) (λ a x b q k. search (rules, tests))
    ∙ ap (λ z. fold least z (range_with_len 1 (c.args.points - 1))) c.zero.ensures
    ∙ fold_from_one (λ j b. least b j) kind.zero c.args.points
