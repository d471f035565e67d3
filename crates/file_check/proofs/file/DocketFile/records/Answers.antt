use Rattle.std.proofs.Common.{[], ◌+◌, drop, refl, sym, subst, take, ◌<◌}
use Rattle.std.proofs.lemmas.Result.{err_from_is_err_and}
use Rattle.docket_records.specs.declared.docket_header.DocketHeader.{DocketHeader}
use Rattle.docket_records.specs.DocketRecords.{docket_header_of}
use Rattle.file_rules.specs.Asks.{docket_asked, marking_asked, proving_asked}
use Rattle.file_rules.specs.Telling.{outcome}
use Rattle.file_check.proofs.Tokens.{header_small}
use Rattle.file_check.proofs.Walking.{comes_out, going_on, going_self, header_on, some_line}
use Rattle.file_check.proofs.file.DocketFile.records.Goals as goal

pub returns-in_err-header : goal.returns-in_err-header
returns-in_err-header g c =
    let words = g.W.Watcher.words in
    let kind = g.B.Bound.kind in
    let after = c.told_header.new.self in
    let p = err_from_is_err_and c.from_residual.result c.from_residual.ensures.1 in
    let file = c.args.self.now in
    let asks = docket_asked kind file.unread.next file.unread.rest in
    let said = g.W.Watcher.said c.args.watcher.now in
    comes_out words kind DocketHeader file file after asks asks [] said said (g.W.Watcher.said c.told_header.new.watcher) c.in_err-header.field-0.0 p.0 c.from_residual.result
    (going_self words kind file asks said) (c.in_err-header.ensures.told (marking_asked kind (docket_header_of (take 4 file.unread.rest)) (file.unread.next + 1) (drop 4 file.unread.rest))) p.1 p.2

pub listing-requires : goal.listing-requires
listing-requires g c = subst (λ h. h.initial < 16) (sym c.in_ok-header.ensures.header) (header_small (take 4 c.args.self.now.unread.rest))

pub returns-in_err-listing : goal.returns-in_err-listing
returns-in_err-listing g c =
    let words = g.W.Watcher.words in
    let kind = g.B.Bound.kind in
    let read = c.in_ok-header.ensures in
    let after = c.listing.new.self in
    let p = err_from_is_err_and c.from_residual-in_err-listing.result c.from_residual-in_err-listing.ensures.1 in
    comes_out words kind (Unit {0}) _ _ after _ _ [] _ _ (g.W.Watcher.said c.listing.new.watcher) c.in_err-listing.field-0.0 p.0 c.from_residual-in_err-listing.result
    (header_on words kind _ _ _ _ _ read.header (read.moved refl) read.told) c.in_err-listing.ensures p.1 p.2

pub returns-in_err-proving : goal.returns-in_err-proving
returns-in_err-proving g c =
    let words = g.W.Watcher.words in
    let kind = g.B.Bound.kind in
    let read = c.in_ok-header.ensures in
    let header = header_on words kind _ _ _ _ _ read.header (read.moved refl) read.told in
    let headed = c.told_header.new.self in
    let after = c.listing.new.self in
    let listed = going_on words kind _ _ after _ (marking_asked kind c.in_ok-header.header headed.unread.next headed.unread.rest) (proving_asked kind after.unread.next after.unread.rest) _ _ (g.W.Watcher.said c.listing.new.watcher) header c.in_ok-listing.ensures in
    let p = err_from_is_err_and c.from_residual-in_err-proving.result c.from_residual-in_err-proving.ensures.1 in
    comes_out words kind (Unit {0}) _ _ c.proving.new.self _ _ [] _ _ (g.W.Watcher.said c.proving.new.watcher) c.in_err-proving.field-0.0 p.0 c.from_residual-in_err-proving.result
    listed c.in_err-proving.ensures.told p.1 p.2

pub unreachable-requires : goal.unreachable-requires
unreachable-requires g c =
    let s = c.proving.new.self.world.state in
    some_line s s.stage c.in_ok-proving.ensures.closed c.in_default.ensures

pub returns : goal.returns
returns g c =
    let words = g.W.Watcher.words in
    let kind = g.B.Bound.kind in
    let read = c.in_ok-header.ensures in
    let header = header_on words kind _ _ _ _ _ read.header (read.moved refl) read.told in
    let last = g.W.Watcher.said c.proving.new.watcher in
    let out = outcome c.proving.new.self.world c.in-Some.line in
    header.goes last out (c.in_ok-listing.ensures last out (c.in_ok-proving.ensures.told last out (refl, refl, c.in-Some.ensures)))
