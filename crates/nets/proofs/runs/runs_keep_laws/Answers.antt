use Rattle.nets.proofs.RunLaws.{runs_keep_laws}
use Rattle.nets.proofs.runs.runs_keep_laws.Goals as goal

pub returns : goal.returns
returns g c = runs_keep_laws g.B.Bound.kind
