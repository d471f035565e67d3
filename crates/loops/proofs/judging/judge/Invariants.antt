use Rattle.loops.proofs.Rounds.{Progress}
use Rattle.loops.proofs.judging.judge.Given as goal

abbrev pub invariant-loop-count : goal.invariant-loop-count
invariant-loop-count g l = Progress g.B.Bound.kind l.text l.rest l.sum l.count
