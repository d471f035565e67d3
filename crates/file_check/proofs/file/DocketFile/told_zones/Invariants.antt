use Rattle.std.proofs.Common.{◌-◌, ◌≤◌}
use Rattle.file_check.proofs.Walking.{Going}
use Rattle.file_check.proofs.file.DocketFile.told_zones.Given as goal
use Rattle.file_rules.specs.Asks.{zones_asked}

abbrev pub invariant-loop : goal.invariant-loop
invariant-loop g l = record {
  going : Going g.W.Watcher.words g.B.Bound.kind l.initial.self (zones_asked g.B.Bound.kind l.count l.initial.self.unread.next l.initial.self.unread.rest) (g.W.Watcher.said l.initial.watcher) l.self (zones_asked g.B.Bound.kind (l.count - l.counter) l.self.unread.next l.self.unread.rest) (g.W.Watcher.said l.watcher);
  few : l.counter ≤ l.count;
}
