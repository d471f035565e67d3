use Rattle.std.proofs.Common.{[], ◌+◌, ◌*◌, drop, refl}
use Rattle.std.proofs.lemmas.Result.{err_from_is_err_and}
use Rattle.file_check.proofs.Walking.{going_self, marking_on, passes_after, passes_out, target_on}
use Rattle.file_check.proofs.file.DocketFile.listing.Goals as goal
use Rattle.file_check.specs.declared.initial.InitialLists.{InitialLists}
use Rattle.file_rules.specs.Asks.{initial_tokens_of, marking_asked, proving_asked, target_asked}

pub returns-in_err-lists : goal.returns-in_err-lists
returns-in_err-lists g c =
    let words = g.W.Watcher.words in
    let kind = g.B.Bound.kind in
    let after = c.told_tokens.new.self in
    let p = err_from_is_err_and c.from_residual.result c.from_residual.ensures.1 in
    let file = c.args.self.now in
    let asks = marking_asked kind c.args.header file.unread.next file.unread.rest in
    let said = g.W.Watcher.said c.args.watcher.now in
    passes_out words kind InitialLists file file after asks asks [] (proving_asked kind after.unread.next after.unread.rest) said said (g.W.Watcher.said c.told_tokens.new.watcher) c.in_err-lists.field-0.0 p.0 c.from_residual.result
    (going_self words kind file asks said) (c.in_err-lists.ensures.told (target_asked kind (initial_tokens_of c.args.header.initial file.unread.rest) c.args.header.zones (file.unread.next + c.args.header.initial) (drop (3 * c.args.header.initial) file.unread.rest))) p.1 p.2

pub returns-in_err-told_target : goal.returns-in_err-told_target
returns-in_err-told_target g c =
    let words = g.W.Watcher.words in
    let kind = g.B.Bound.kind in
    let read = c.in_ok-lists.ensures in
    let after = c.told_target.new.self in
    let p = err_from_is_err_and c.from_residual-in_err-told_target.result c.from_residual-in_err-told_target.ensures.1 in
    passes_out words kind (Unit {0}) _ _ after _ _ [] (proving_asked kind after.unread.next after.unread.rest) _ _ (g.W.Watcher.said c.told_target.new.watcher) c.in_err-told_target.field-0.0 p.0 c.from_residual-in_err-told_target.result
    (marking_on words kind _ _ _ _ c.args.header _ read.lists read.left read.told) (c.in_err-told_target.ensures.told _) p.1 p.2

pub returns : goal.returns
returns g c =
    let words = g.W.Watcher.words in
    let kind = g.B.Bound.kind in
    let read = c.in_ok-lists.ensures in
    let opened = c.in_ok-told_target.ensures in
    let marking = marking_on words kind _ _ _ _ c.args.header _ read.lists read.left read.told in
    let after = c.told_zones.new.self in
    passes_after words kind _ _ after _ _ (proving_asked kind after.unread.next after.unread.rest) _ _ (g.W.Watcher.said c.told_zones.new.watcher) c.told_zones.result
    (target_on words kind c.args.header.zones _ _ _ _ _ _ _ _ marking (opened.moved refl) opened.told) c.told_zones.ensures
