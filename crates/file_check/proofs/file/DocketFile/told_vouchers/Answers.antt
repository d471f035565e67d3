use Rattle.std.proofs.Common.{[], ◌≡◌, ◌<◌, length, refl, rules}
use Rattle.std.proofs.lemmas.Result.{err_from_is_err_and}
use Rattle.file_check.proofs.Walking.{passes_out, vouchers_all, vouchers_here, vouchers_on}
use Rattle.file_check.proofs.file.DocketFile.told_vouchers.Goals as goal

pub loop-self-preserved : goal.loop-self-preserved
loop-self-preserved g c =
    let step = c.in_ok-told_voucher.ensures in
    let some : 0 < length c.loop-self.self.unread.rest = search rules in
    record {
      going = vouchers_on g.W.Watcher.words g.B.Bound.kind _ _ _ _ _ c.loop-self.invariant.going _ _ some (step.moved refl) step.told;
      closed = step.closed;
    }

pub returns-in_err-told_voucher-clause-told : goal.returns-in_err-told_voucher-clause-told
returns-in_err-told_voucher-clause-told g c =
    let words = g.W.Watcher.words in
    let kind = g.B.Bound.kind in
    let some : 0 < length c.loop-self.self.unread.rest = search rules in
    let p = err_from_is_err_and c.from_residual.result c.from_residual.ensures.1 in
    let after = c.told_voucher.new.self in
    passes_out words kind (Unit {0}) _ _ after _ _ [] [] _ _ (g.W.Watcher.said c.told_voucher.new.watcher) c.in_err-told_voucher.field-0.0 p.0 c.from_residual.result
    (vouchers_here words kind _ _ _ _ _ c.loop-self.invariant.going some)
    (c.in_err-told_voucher.ensures.told _) p.1 p.2

pub returns-clause-told : goal.returns-clause-told
returns-clause-told g c =
    let none : length c.loop-self.self.unread.rest ≡ 0 = search rules in
    (vouchers_all g.W.Watcher.words g.B.Bound.kind _ _ _ _ _ c.loop-self.invariant.going none).goes
