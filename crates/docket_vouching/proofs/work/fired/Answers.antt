use Rattle.std.proofs.Common.{true, false}
use Rattle.nets.specs.Nets.{arcs_of, transition_of}
use Rattle.nets.specs.declared.side.Side.TheVariants.{Output}
use Rattle.zone_cells.specs.Cells.{in_page}
use Rattle.zone_cells.specs.Drafts.{page_zone}
use Rattle.zone_closed_forms.specs.ClosedForms.{narrowed_from}
use Rattle.docket_vouching.specs.Rows.{rows_in}
use Rattle.docket_vouching.proofs.Arcs.{narrowed_in}
use Rattle.docket_vouching.proofs.Zones.{fired_worked, void_worked}
use Rattle.docket_vouching.proofs.work.fired.Goals as goal

pub returns-then-not-narrow_matched-clause-zone : goal.returns-then-not-narrow_matched-clause-zone
returns-then-not-narrow_matched-clause-zone g c =
    let kind = g.B.Bound.kind in
    let net = g.N.NetStore.net c.args.store.now in
    let x = in_page kind c.args.page.now.cells.now in
    let z = page_zone kind c.args.page.now.places.now c.args.page.now.cells.now in
    let ms = c.args.matching.now in
    let arcs = arcs_of net c.args.transition Output in
    let last = rows_in kind c.narrow_matched.new.up c.narrow_matched.new.low in
    void_worked kind (transition_of net c.args.transition) ms z c.requires.few (narrowed_from kind arcs ms x) (rows_in kind c.args.up.now c.args.low.now)
    (narrowed_in kind 9 x arcs ms (rows_in kind c.begin.new.up c.begin.new.low) last c.narrow_matched.result false c.requires.digits c.begin.ensures.rows c.narrow_matched.ensures.rows c.if-not-narrow_matched.true)

pub returns-clause-zone : goal.returns-clause-zone
returns-clause-zone g c =
    let kind = g.B.Bound.kind in
    let net = g.N.NetStore.net c.args.store.now in
    let x = in_page kind c.args.page.now.cells.now in
    let z = page_zone kind c.args.page.now.places.now c.args.page.now.cells.now in
    let ms = c.args.matching.now in
    let arcs = arcs_of net c.args.transition Output in
    let last = rows_in kind c.narrow_matched.new.up c.narrow_matched.new.low in
    fired_worked kind (transition_of net c.args.transition) ms z c.requires.few (narrowed_from kind arcs ms x) last (rows_in kind c.replace.new.up c.replace.new.low) c.replace.result
    (narrowed_in kind 9 x arcs ms (rows_in kind c.begin.new.up c.begin.new.low) last c.narrow_matched.result true c.requires.digits c.begin.ensures.rows c.narrow_matched.ensures.rows c.if-not-narrow_matched.false) c.replace.ensures.zone
