use Rattle.std.proofs.Common.{◌≡◌, ◌++◌, rules}
use Rattle.std.proofs.lemmas.Result.{err_from_is_err_and}
use Rattle.docket_records.specs.Vouchers.{voucher_of}
use Rattle.file_check.proofs.Walking.{voucher_refused, voucher_taken}
use Rattle.file_check.proofs.file.DocketFile.told_voucher.Goals as goal

pub returns-in_err-discharge-clause-told : goal.returns-in_err-discharge-clause-told
returns-in_err-discharge-clause-told g c =
    let said = g.W.Watcher.said in
    let taken = c.in_ok-part.ensures in
    let heard : said c.voucher.new.self ≡ said c.args.watcher.now ++ g.W.Watcher.words.voucher c.voucher_record.new.self.world.state (voucher_of c.in_ok-part.part.bytes.now) = search rules in
    let p = err_from_is_err_and c.from_residual-in_err-discharge.result c.from_residual-in_err-discharge.ensures.1 in
    rw (p.1, p.2)
    (λ later. voucher_refused g.W.Watcher.words g.B.Bound.kind _ _ _ taken.waits _ _ taken.taken.0 taken.taken.1 taken.taken.2 _ _ heard later _ c.in_err-discharge.ensures.made)

pub returns-clause-told : goal.returns-clause-told
returns-clause-told g c =
    let said = g.W.Watcher.said in
    let taken = c.in_ok-part.ensures in
    let heard : said c.voucher.new.self ≡ said c.args.watcher.now ++ g.W.Watcher.words.voucher c.voucher_record.new.self.world.state (voucher_of c.in_ok-part.part.bytes.now) = search rules in
    λ later. voucher_taken g.W.Watcher.words g.B.Bound.kind _ _ _ taken.waits _ _ taken.taken.0 taken.taken.1 taken.taken.2 _ _ heard later c.in_ok-discharge.ensures.made
