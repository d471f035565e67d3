use Rattle.std.proofs.Common.{[], arith}
use Rattle.zone_cells.specs.Drafts.{page_zone}
use Rattle.zone_closed_forms.specs.ClosedForms.{begun}
use Rattle.zones.specs.Predecessors.{staying}
use Rattle.zones.specs.Zones.{points}
use Rattle.docket_vouching.specs.Asked.{spread_zone}
use Rattle.docket_vouching.specs.Rows.{rows_in}
use Rattle.docket_vouching.proofs.Zones.{fewer_alike, spread_same, zone_on}
use Rattle.docket_vouching.proofs.work.whole.Goals as goal

pub returns-clause-zone : goal.returns-clause-zone
returns-clause-zone g c =
    let kind = g.B.Bound.kind in
    let z = page_zone kind c.args.page.now.places.now c.args.page.now.cells.now in
    let rows = rows_in kind c.begin.new.up c.begin.new.low in
    zone_on _ (spread_zone kind z (staying [] z) [] rows) _ (spread_same kind z [] [] (begun z.bound) rows (fewer_alike 9 (points z) (begun z.bound) rows (omega (arith, c.requires.few)) c.begin.ensures.rows)) c.replace.ensures.zone
