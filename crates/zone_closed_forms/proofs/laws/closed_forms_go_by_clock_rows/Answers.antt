use Rattle.zone_closed_forms.proofs.ClockRows.{clock_row_laws}
use Rattle.zone_closed_forms.proofs.laws.closed_forms_go_by_clock_rows.Goals as goal

pub returns : goal.returns
returns g c = clock_row_laws g.B.Bound.kind
