use Rattle.zone_closed_forms.proofs.FormLaws.{closed_form_laws}
use Rattle.zone_closed_forms.proofs.laws.closed_forms_are_predecessors.Goals as goal

pub returns : goal.returns
returns g c = closed_form_laws g.B.Bound.kind
