use Rattle.docket_dues.proofs.Stands.{dues_keep_laws}
use Rattle.docket_dues.proofs.laws.dues_keep_laws.Goals as goal

pub returns : goal.returns
returns g c = dues_keep_laws
