use Rattle.net_records.proofs.fault.FaultDisplay.fmt.Goals as goal

pub returns-clause-writes : goal.returns-clause-writes
returns-clause-writes g c =
    let writes = rw (g.met.R.Refusal.displays c.args.self.now.refusal) at c.write.ensures.writes in rw c.number-number.ensures at writes
