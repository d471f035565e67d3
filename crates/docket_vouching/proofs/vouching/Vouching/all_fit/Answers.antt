use Rattle.std.proofs.Common.{subst, arith, ◌+◌, length}
use Rattle.zone_cells.specs.Cells.{in_page}
use Rattle.zone_pages.proofs.Comparison.{none_below}
use Rattle.zone_pages.specs.Comparison.{exceeds_in_row}
use Rattle.docket_vouching.specs.Asked.{rows_within, shown}
use Rattle.docket_vouching.specs.Fits.{KeptAt}
use Rattle.docket_vouching.proofs.Fitting.{apart, clock_row, first_row, next_row, token_row}
use Rattle.docket_vouching.proofs.vouching.Vouching.all_fit.Goals as goal

pub loop-j-init : goal.loop-j-init
loop-j-init g c =
    let kind = g.B.Bound.kind in
    let claim = c.args.self.now in
    first_row (exceeds_in_row kind (in_page kind claim.page.cells.now) (shown kind claim.asked).bound claim.pairing.now)
    (clock_row kind (in_page kind claim.page.cells.now) (in_page kind claim.asked.page.now) (rows_within kind claim.asked.rows.now) claim.asked.parts.now.kept.items claim.pairing.now c.points_of-points.result c.kept_of-kept.result (omega (arith, c.if-self-ge-PAGE_POINTS.false)) c.points_of-points.ensures (subst (λ xs. KeptAt xs c.points_of-points.result c.kept_of-kept.result) c.deref.ensures.0 c.kept_of-kept.ensures) (apart claim.page.places.now (shown kind claim.asked).places claim.pairing.now c.requires) (c.clock_row_fits.ensures c.if-not-clock_row_fits.false))

pub loop-j-preserved : goal.loop-j-preserved
loop-j-preserved g c =
    let kind = g.B.Bound.kind in
    let claim = c.args.self.now in
    next_row (exceeds_in_row kind (in_page kind claim.page.cells.now) (shown kind claim.asked).bound claim.pairing.now) c.loop-j.j c.loop-j.invariant
    (token_row kind (in_page kind claim.page.cells.now) (in_page kind claim.asked.page.now) (rows_within kind claim.asked.rows.now) claim.asked.parts.now.kept.items claim.pairing.now c.points_of-points.result c.kept_of-kept.result (omega (arith, c.if-self-ge-PAGE_POINTS.false)) c.points_of-points.ensures (subst (λ xs. KeptAt xs c.points_of-points.result c.kept_of-kept.result) c.deref.ensures.0 c.kept_of-kept.ensures) (apart claim.page.places.now (shown kind claim.asked).places claim.pairing.now c.requires) c.loop-j.j c.loop-j-test.true (λ e. omega (arith, e, c.loop-j.auto.j)) (c.token_row_fits.ensures c.if-not-token_row_fits.false))

pub returns : goal.returns
returns g c =
    let kind = g.B.Bound.kind in
    let claim = c.args.self.now in
    λ _. none_below (length claim.pairing.now + 1) (exceeds_in_row kind (in_page kind claim.page.cells.now) (shown kind claim.asked).bound claim.pairing.now) (λ k l. c.loop-j.invariant k (omega (arith, l, c.loop-j-test.false)))
