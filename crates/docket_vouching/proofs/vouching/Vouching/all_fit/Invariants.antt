use Rattle.std.proofs.Common.{◌≡◌, ℕ, ◌<◌, false}
use Rattle.zone_cells.specs.Cells.{in_page}
use Rattle.zone_pages.specs.Comparison.{exceeds_in_row}
use Rattle.docket_vouching.specs.Asked.{shown}
use Rattle.docket_vouching.proofs.vouching.Vouching.all_fit.Given as goal

abbrev pub invariant-loop-j : goal.invariant-loop-j
invariant-loop-j g l =
    let kind = g.B.Bound.kind in
    (k : ℕ) → k < l.j → exceeds_in_row kind (in_page kind l.self.page.cells.now) (shown kind l.self.asked).bound l.self.pairing.now k ≡ false
