use Rattle.std.proofs.Common.{refl}
use Rattle.std.proofs.lemmas.Result.{err_from_is_err_and}
use Rattle.net_records.proofs.Numbers.{fault_numbered}
use Rattle.net_records.proofs.Walks.{tested_ok, tested_err, tested_none, tested_some, walked_none, walked_more, walked_fault, walked_all, header_clean}
use Rattle.net_records.proofs.net.check_net.Goals as goal

pub loop-init : goal.loop-init
loop-init c =
    walked_none c.in_ok-header.header c.args.bytes.now c.new-reader.result _ c.new-reader.ensures (c.in_ok-header.ensures.moved refl)

pub returns-in_err-check_transition : goal.returns-in_err-check_transition
returns-in_err-check_transition c =
    let bytes = c.args.bytes.now in
    let h = c.in_ok-header.header in
    let clean = header_clean bytes c.new-reader.result h c.new-reader.ensures c.in_ok-header.ensures.answer in
    let f = c.in_err-check_transition.field-0.0 in
    let fault = tested_err tt f _ c.in_err-check_transition.ensures.answer in
    let p = err_from_is_err_and c.from_residual-in_err-check_transition.result c.from_residual-in_err-check_transition.ensures.1 in
    let first = walked_fault h c.loop.counter c.loop.reader bytes c.loop-test.true c.loop.invariant f fault clean.0 clean.1 in
    rw (p.1, p.2) (record { answer = tested_some _ f _ first; number = fault_numbered bytes f first })

pub loop-preserved : goal.loop-preserved
loop-preserved c =
    let none = (tested_ok tt tt _ c.in_ok-check_transition.ensures.answer).0 in
    walked_more c.in_ok-header.header c.loop.counter c.loop.reader c.args.bytes.now c.loop-test.true c.loop.invariant _ none (c.in_ok-check_transition.ensures.moved refl)

pub returns : goal.returns
returns c =
    let bytes = c.args.bytes.now in
    let h = c.in_ok-header.header in
    let clean = header_clean bytes c.new-reader.result h c.new-reader.ensures c.in_ok-header.ensures.answer in
    record {
      answer = tested_none _ h _ (walked_all h c.loop.counter c.loop.reader bytes c.loop-test.false c.loop.invariant clean.0 clean.1) clean.1;
      number = tt;
    }
