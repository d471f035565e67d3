use Rattle.net_handover.specs.HandoverNet.{handover_limits}
use Rattle.net_handover.proofs.store.HandoverNetStorePlainBound.keeps_limits.Goals as goal

pub returns : goal.returns
returns c =
    let line = c.args.self.now in
    handover_limits line.lower line.upper line.ordered line.small
