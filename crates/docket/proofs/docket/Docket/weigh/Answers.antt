use Rattle.std.proofs.Common.{sym, ◌∙◌}
use Rattle.docket.specs.Dockets.{world_over}
use Rattle.docket.proofs.Weighed.{weighed}
use Rattle.docket.proofs.docket.Docket.weigh.Goals as goal

pub returns : goal.returns
returns g c =
    weighed g.B.Bound.kind (g.N.NetStore.net c.args.store.now) (world_over c.args.self.now c.args.book.now) c.args.bytes.now c.args.item
    c.page-page.result.places.now c.page-page.result.cells.now c.page-page.ensures.places c.page-page.ensures.cells
    c.args.scratch.now c.work_out-parts.new.cells c.work_out-parts.result c.work_out-parts.ensures.works c.work_out-parts.ensures.means
    c.in_ok-voucher.voucher c.judge.result (sym c.read_voucher.ensures ∙ c.in_ok-voucher.was) c.judge.ensures
