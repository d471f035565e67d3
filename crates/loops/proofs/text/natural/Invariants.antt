use Rattle.std.proofs.Common.{◌≤◌}
use Rattle.loops.proofs.Scans.{Read}
use Rattle.loops.proofs.text.natural.Given as goal

abbrev pub invariant-loop-b : goal.invariant-loop-b
invariant-loop-b l = (l.number ≤ 262144) × Read l.text l.b-index l.number
