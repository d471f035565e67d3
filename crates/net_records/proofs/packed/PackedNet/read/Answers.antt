use Rattle.std.proofs.lemmas.Result.{err_from_is_err_and}
use Rattle.net_records.proofs.Clean.{clean_sound}
use Rattle.net_records.proofs.Walks.{tested_ok, tested_err}
use Rattle.net_records.proofs.packed.PackedNet.read.Goals as goal

pub invariant_of-result : goal.invariant_of-result
invariant_of-result c =
    let read = tested_ok _ c.in_ok-header.header _ c.in_ok-header.ensures.answer in
    record { tested = clean_sound c.args.bytes.now read.0; read = read.1 }

pub returns-in_err-header-clause-answer : goal.returns-in_err-header-clause-answer
returns-in_err-header-clause-answer c =
    let p = err_from_is_err_and c.from_residual.result c.from_residual.ensures.1 in
    rw (p.1, p.2) (tested_err _ c.in_err-header.field-0.0 _ c.in_err-header.ensures.answer)
