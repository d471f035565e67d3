use Rattle.std.proofs.Common.{length}
use Rattle.file_check.proofs.Walking.{Going}
use Rattle.file_check.proofs.file.DocketFile.told_vouchers.Given as goal
use Rattle.file_check.specs.Files.{IsClosed}
use Rattle.file_rules.specs.Asks.{voucher_count, vouchers_asked}

abbrev pub invariant-loop-self : goal.invariant-loop-self
invariant-loop-self g l = record {
  going : Going g.W.Watcher.words g.B.Bound.kind l.initial.self (vouchers_asked g.B.Bound.kind (voucher_count g.B.Bound.kind l.initial.self.unread.rest) l.initial.self.unread.next l.initial.self.unread.rest) (g.W.Watcher.said l.initial.watcher) l.self (vouchers_asked g.B.Bound.kind (voucher_count g.B.Bound.kind l.self.unread.rest) l.self.unread.next l.self.unread.rest) (g.W.Watcher.said l.watcher);
  closed : IsClosed l.self.world.state.stage;
}

abbrev pub decreases-loop-self : goal.decreases-loop-self
decreases-loop-self g l = length l.self.unread.rest
