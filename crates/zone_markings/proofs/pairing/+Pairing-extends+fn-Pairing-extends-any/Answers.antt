use Rattle.std.proofs.Common.{◌∙◌, ◌&&◌, ◌++◌, ◌∷◌, [], ap, sym, length, refl, arith, rules, tests}
use Rattle.std.proofs.lemmas.Iterator.{YieldsList-from_range}
use Rattle.std.proofs.lemmas.List.{length-map}
use Rattle.std.proofs.lemmas.Iterator.Search.{any_from_yields_List}
use Rattle.zone_cells.specs.Cells.{in_draft}
use Rattle.zone_markings.specs.Initial.{as_token, marking_of}
use Rattle.zone_markings.specs.Pairings.{by_ages, extends, follows}
use Rattle.zone_markings.proofs.pairing.+Pairing-extends+fn-Pairing-extends-any.Goals as goal

pub any-returns-then-number_fits : goal.any-returns-then-number_fits
any-returns-then-number_fits g t c =
    let s = by_ages g.B.Bound.kind (in_draft g.B.Bound.kind c.captures.self.now.cells.now) (marking_of c.captures.self.now.initial.now.items) in
    let later = c.captures.later.now in
    c.extends.ensures
    ∙ ap (λ ps. extends s ps later) c.one_more.ensures
    ∙ ap (λ b. b && extends s (c.captures.chosen.now.items ++ c.args.number ∷ []) later) (sym c.if-number_fits.true ∙ c.number_fits.ensures)

pub returns : goal.returns
returns g t c =
    let kind = g.B.Bound.kind in
    let d = in_draft kind c.args.self.now.cells.now in
    let m = marking_of c.args.self.now.initial.now.items in
    let s = by_ages kind d m in
    let chosen = c.args.chosen.now.items in
    any_from_yields_List (follows s chosen c.in-Some.place.now (λ more. extends s more c.in-Some.later.now)) _ _ c.any.result c.any.ensures.ran (YieldsList-from_range 1 c.end.result (length m) refl (omega (arith, c.end.ensures.is, length-map c.args.self.now.initial.now.items as_token))) (λ x b q k. search (rules, tests))
    ∙ ap (extends s chosen) (sym c.in-Some.ensures.cases.0)
