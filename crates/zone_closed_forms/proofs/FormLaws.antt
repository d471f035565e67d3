-- The closed forms, over every kind.
use Rattle.bounds.specs.Kinds.{Kind}
use Rattle.zone_closed_forms.specs.Laws.{ClosedFormLaws}
use Rattle.zone_closed_forms.proofs.Narrowed.{narrowed_form}
use Rattle.zone_closed_forms.proofs.Delayed.{delayed_form}
use Rattle.zone_closed_forms.proofs.Fired.{fired_form}

pub closed_form_laws : {B : Type 0} (kind : Kind B) → ClosedFormLaws kind
closed_form_laws kind =
    record {
      narrowing = λ places arcs matching z h limits inside. narrowed_form kind z h places arcs matching limits inside;
      delay = λ z h. delayed_form kind z h;
      firing = λ places t matching z h limits matched. fired_form kind places t matching z h limits matched;
    }
