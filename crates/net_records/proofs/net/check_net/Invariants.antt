use Rattle.net_records.proofs.Walks.{Walked}
use Rattle.net_records.proofs.net.check_net.Given as goal

abbrev pub invariant-loop : goal.invariant-loop
invariant-loop l = Walked l.header l.counter l.reader l.bytes
