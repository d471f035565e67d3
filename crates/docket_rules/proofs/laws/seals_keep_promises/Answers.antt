use Rattle.docket_rules.proofs.Kept.{promised}
use Rattle.docket_rules.proofs.laws.seals_keep_promises.Goals as goal

pub returns : goal.returns
returns g c net limits = promised g.B.Bound.kind net limits
