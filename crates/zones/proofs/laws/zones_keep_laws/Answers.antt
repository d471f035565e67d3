use Rattle.zones.proofs.ZoneLaws.{zones_keep_laws}
use Rattle.zones.proofs.laws.zones_keep_laws.Goals as goal

pub returns : goal.returns
returns g c = zones_keep_laws g.B.Bound.kind
