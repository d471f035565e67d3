use Rattle.std.proofs.Common.{get_or, sym, ap, ◌∙◌}
use Rattle.nets.specs.Nets.{arcs_of}
use Rattle.nets.specs.declared.side.Side.TheVariants.{Output}
use Rattle.zone_cells.specs.Cells.{in_page}
use Rattle.docket_vouching.specs.Rows.{rows_in}
use Rattle.docket_vouching.proofs.Arcs.{passed, crosses, narrows}
use Rattle.docket_vouching.proofs.rows.narrow_by.Goals as goal

pub returns-then-token-eq0-clause-rows : goal.returns-then-token-eq0-clause-rows
returns-then-token-eq0-clause-rows g c =
    passed g.B.Bound.kind 9 (in_page g.B.Bound.kind c.args.page.now) (arcs_of (g.N.NetStore.net c.args.store.now) c.args.transition Output) c.args.matching.now c.args.arc c.requires.arc c.requires.matching c.byte-token.result (c.byte-token.ensures ∙ ap (λ i. get_or c.args.matching.now i 0) c.from.ensures) (rows_in g.B.Bound.kind c.args.up.now c.args.low.now) c.if-token-eq0.true

pub returns-then-is_crossed-clause-rows : goal.returns-then-is_crossed-clause-rows
returns-then-is_crossed-clause-rows g c =
    crosses g.B.Bound.kind 9 (in_page g.B.Bound.kind c.args.page.now) (arcs_of (g.N.NetStore.net c.args.store.now) c.args.transition Output) c.args.matching.now c.args.arc c.requires.arc c.requires.matching c.byte-token.result (c.byte-token.ensures ∙ ap (λ i. get_or c.args.matching.now i 0) c.from.ensures) (rows_in g.B.Bound.kind c.args.up.now c.args.low.now) c.if-token-eq0.false c.range-range.result c.range-range.ensures (sym c.is_crossed.ensures ∙ c.if-is_crossed.true)

pub returns-clause-rows : goal.returns-clause-rows
returns-clause-rows g c =
    narrows g.B.Bound.kind 9 (in_page g.B.Bound.kind c.args.page.now) (arcs_of (g.N.NetStore.net c.args.store.now) c.args.transition Output) c.args.matching.now c.args.arc c.requires.arc c.requires.matching c.byte-token.result (c.byte-token.ensures ∙ ap (λ i. get_or c.args.matching.now i 0) c.from.ensures) (rows_in g.B.Bound.kind c.args.up.now c.args.low.now) c.if-token-eq0.false c.range-range.result c.range-range.ensures (sym c.is_crossed.ensures ∙ c.if-is_crossed.false) (rows_in g.B.Bound.kind c.narrow.new.up c.narrow.new.low) c.narrow.ensures.rows c.requires.tokens
