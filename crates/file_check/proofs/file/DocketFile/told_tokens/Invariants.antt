use Rattle.std.proofs.Common.{◌≡◌, ◌+◌, ◌-◌, ◌≤◌, ◌++◌, List}
use Rattle.file_check.proofs.Walking.{Going}
use Rattle.file_check.proofs.file.DocketFile.told_tokens.Given as goal
use Rattle.file_check.specs.Walks.{AsGiven, read_tokens}
use Rattle.file_rules.specs.Asks.{Ask, tokens_asked}

abbrev pub invariant-loop-at : goal.invariant-loop-at
invariant-loop-at g l = record {
  going : (later : List (Ask g.row.B.Denot)) → Going g.W.Watcher.words g.B.Bound.kind l.initial.self (tokens_asked l.count 1 l.initial.self.unread.next l.initial.self.unread.rest ++ later) (g.W.Watcher.said l.initial.watcher) l.self (tokens_asked (l.count - l.at) (l.at + 1) l.self.unread.next l.self.unread.rest ++ later) (g.W.Watcher.said l.watcher);
  given : AsGiven l.at l.initial.self.unread.rest l.lists;
  left : l.self.unread ≡ read_tokens l.at l.initial.self.unread;
  few : l.at ≤ l.count;
}
