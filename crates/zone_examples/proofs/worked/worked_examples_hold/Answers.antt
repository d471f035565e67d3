use Rattle.zone_examples.proofs.Examples.{worked_examples_hold}
use Rattle.zone_examples.proofs.worked.worked_examples_hold.Goals as goal

pub returns : goal.returns
returns g c = worked_examples_hold g.B.Bound.kind
