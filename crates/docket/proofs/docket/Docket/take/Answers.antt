use Rattle.std.proofs.Common.{Ok, ap, subst, sym, ◌∙◌, rules}
use Rattle.docket_rules.specs.Worlds.{with_book}
use Rattle.docket.specs.Discharging.{Weighed}
use Rattle.docket.proofs.Weighed.{call_refused, call_taken, call_works}
use Rattle.docket.proofs.docket.Docket.take.Goals as goal

pub returns-in_err-answer-clause-step : goal.returns-in_err-answer-clause-step
returns-in_err-answer-clause-step g c =
    call_refused g.B.Bound.kind (g.N.NetStore.net c.args.store.now) (with_book c.args.self.now c.args.cells.now c.args.places.now) c.args.voucher.now c.in-Proving.item
    c.args.scratch.now c.weigh-answer.new.scratch c.wipe.new.cells (ap (λ s. s.stage) (sym c.self.view_is) ∙ c.in-Proving.is) (search rules) c.wipe.ensures
    c.in_err-answer.field-0.0 c.weigh-answer.result c.from_residual.result c.in_err-answer.was (search rules) c.weigh-answer.ensures

pub returns-clause-step : goal.returns-clause-step
returns-clause-step g c =
    call_taken g.B.Bound.kind (g.N.NetStore.net c.args.store.now) (with_book c.args.self.now c.args.cells.now c.args.places.now) c.args.voucher.now c.in-Proving.item
    c.args.scratch.now c.weigh-answer.new.scratch c.wipe.new.cells (ap (λ s. s.stage) (sym c.self.view_is) ∙ c.in-Proving.is) (search rules) c.wipe.ensures
    c.weigh-answer.result c.in_ok-answer.was c.weigh-answer.ensures c.advance.new.self c.advance.ensures

pub returns-clause-worked : goal.returns-clause-worked
returns-clause-worked g c =
    call_works g.B.Bound.kind (g.N.NetStore.net c.args.store.now) (with_book c.args.self.now c.args.cells.now c.args.places.now) c.args.voucher.now c.in-Proving.item
    c.args.scratch.now c.weigh-answer.new.scratch c.wipe.new.cells (ap (λ s. s.stage) (sym c.self.view_is) ∙ c.in-Proving.is) (search rules) c.wipe.ensures
    (Ok tt) (subst (Weighed g.B.Bound.kind (g.N.NetStore.net c.args.store.now) (with_book c.args.self.now c.args.cells.now c.args.places.now) c.args.voucher.now c.in-Proving.item c.args.scratch.now c.weigh-answer.new.scratch) c.in_ok-answer.was c.weigh-answer.ensures)
