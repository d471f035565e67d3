use Rattle.net_records.proofs.Bounded.{sound_limits}
use Rattle.net_records.proofs.packed.PackedNetNetStore.keeps_limits.Goals as goal

pub returns : goal.returns
returns g c = sound_limits g.B.Bound.kind c.args.self.now.bytes.now c.args.self.now.tested
