use Rattle.std.proofs.Common.{Err, ap, ◌∙◌, subst}
use Rattle.file_check.proofs.Walking.{tells_runs}
use Rattle.file_check.proofs.file.DocketFile.walk.Goals as goal
use Rattle.file_check.specs.Walks.{Comes}
use Rattle.file_rules.specs.Asks.{docket_asked}
use Rattle.file_rules.specs.Telling.{outcome}
use Rattle.file_rules.specs.declared.line.Line.TheVariants.{Refused}

pub returns-in-Ok-clause-line : goal.returns-in-Ok-clause-line
returns-in-Ok-clause-line g c =
    let file = c.args.self.now in
    tells_runs g.W.Watcher.words g.B.Bound.kind file.net (docket_asked g.B.Bound.kind file.unread.next file.unread.rest) file.world (g.W.Watcher.said c.args.watcher.now) (g.W.Watcher.said c.records.new.watcher) (outcome c.records.new.self.world c.in-Ok.line) c.in-Ok.ensures

pub returns-in-Err-Refused-clause-line : goal.returns-in-Err-Refused-clause-line
returns-in-Err-Refused-clause-line g c =
    let words = g.W.Watcher.words in
    let kind = g.B.Bound.kind in
    let file = c.args.self.now in
    let asks = docket_asked kind file.unread.next file.unread.rest in
    let first = g.W.Watcher.said c.args.watcher.now in
    let last = g.W.Watcher.said c.records.new.watcher in
    let here = c.in-Err-Refused in
    let after = c.records.new.self in
    tells_runs words kind file.net asks file.world first last (outcome after.world (Refused here.fault))
    (subst (λ r. Comes words kind file asks first after last r) (here.is ∙ ap Err here.field-0-is) c.records.ensures)
