use Rattle.std.proofs.Common.{Err, ap, ◌∙◌}
use Rattle.std.proofs.lemmas.Result.{err_from_is_err_and}
use Rattle.net_records.proofs.Walks.{read_err, read_ok}
use Rattle.net_records.proofs.transition.TransitionRecord.test.Goals as goal

pub returns-in_err-read : goal.returns-in_err-read
returns-in_err-read c =
    let p = err_from_is_err_and c.from_residual.result c.from_residual.ensures.1 in
    p.1 ∙ ap Err p.2 ∙ read_err c.args.header c.args.bytes.now _ c.in_err-read.ensures

pub returns : goal.returns
returns c = c.check.ensures ∙ read_ok c.args.header c.args.bytes.now c.in_ok-read.field-0 c.in_ok-read.ensures
