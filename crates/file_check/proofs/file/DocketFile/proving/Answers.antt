use Rattle.std.proofs.Common.{[]}
use Rattle.std.proofs.lemmas.Result.{err_from_is_err_and}
use Rattle.file_check.proofs.Walking.{close_on, going_self, passes_after, passes_out}
use Rattle.file_rules.specs.Asks.{proving_asked, voucher_count, vouchers_asked}
use Rattle.file_check.proofs.file.DocketFile.proving.Goals as goal

pub returns-in_err-told_close-clause-told : goal.returns-in_err-told_close-clause-told
returns-in_err-told_close-clause-told g c =
    let words = g.W.Watcher.words in
    let kind = g.B.Bound.kind in
    let after = c.told_close.new.self in
    let p = err_from_is_err_and c.from_residual.result c.from_residual.ensures.1 in
    let file = c.args.self.now in
    let asks = proving_asked kind file.unread.next file.unread.rest in
    let said = g.W.Watcher.said c.args.watcher.now in
    passes_out words kind (Unit {0}) file file after asks asks [] [] said said (g.W.Watcher.said c.told_close.new.watcher) c.in_err-told_close.field-0.0 p.0 c.from_residual.result
    (going_self words kind file asks said) (c.in_err-told_close.ensures.told (vouchers_asked kind (voucher_count kind file.unread.rest) file.unread.next file.unread.rest)) p.1 p.2

pub returns-clause-told : goal.returns-clause-told
returns-clause-told g c =
    let words = g.W.Watcher.words in
    let kind = g.B.Bound.kind in
    let closed = c.in_ok-told_close.ensures in
    passes_after words kind _ _ c.told_vouchers.new.self _ _ [] _ _ (g.W.Watcher.said c.told_vouchers.new.watcher) c.told_vouchers.result
    (close_on words kind _ _ _ _ closed.unread closed.told) c.told_vouchers.ensures.told
