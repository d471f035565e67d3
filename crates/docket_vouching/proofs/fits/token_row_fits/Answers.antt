use Rattle.zone_cells.specs.Cells.{in_page}
use Rattle.docket_vouching.specs.Asked.{rows_within}
use Rattle.docket_vouching.proofs.Fitting.{from_added, from_kept}
use Rattle.docket_vouching.proofs.fits.token_row_fits.Goals as goal

pub returns-then-kept-j-eq0 : goal.returns-then-kept-j-eq0
returns-then-kept-j-eq0 g c =
    let kind = g.B.Bound.kind in
    λ e. from_added kind (in_page kind c.args.page.now) (in_page kind c.args.own.now) (rows_within kind c.args.rows.now) c.args.points.now c.args.kept.now c.args.j (c.added_row_fits.ensures e)

pub returns-else-kept-j-eq0 : goal.returns-else-kept-j-eq0
returns-else-kept-j-eq0 g c =
    let kind = g.B.Bound.kind in
    λ e. from_kept kind (in_page kind c.args.page.now) (in_page kind c.args.own.now) (rows_within kind c.args.rows.now) c.args.points.now c.args.kept.now c.args.j c.if-kept-j-eq0.false (c.kept_row_fits.ensures e)
