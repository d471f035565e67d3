use Rattle.zone_walks.proofs.Rounds.{normal_forms_keep_laws}
use Rattle.zone_walks.proofs.laws.normal_forms_keep_laws.Goals as goal

pub returns : goal.returns
returns g c = normal_forms_keep_laws g.B.Bound.kind
