-- What each step means for markings, over every kind.
use Rattle.bounds.specs.Kinds.{Kind}
use Rattle.zones.specs.Safety.{ZoneLaws}
use Rattle.zones.proofs.Forms.{form_satisfied, form_satisfies, none_satisfies}
use Rattle.zones.proofs.Vouched.{vouching_satisfies}
use Rattle.zones.proofs.Delays.{delay_satisfies}
use Rattle.zones.proofs.Firings.{firing_came}
use Rattle.zones.proofs.Grids.{grids_satisfy}

pub zones_keep_laws : {B : Type 0} (kind : Kind B) → ZoneLaws kind
zones_keep_laws kind =
    record {
      to_form = λ k z y m grid. form_satisfied kind k grid z y m;
      from_form = λ k z y m grid. form_satisfies kind k grid z y m;
      none = λ k z m grid. none_satisfies kind k grid z m;
      vouching = λ k v w pairing m grid. vouching_satisfies kind k grid v w pairing m;
      delay = λ k d z p m n grid. delay_satisfies kind k grid d z p m n;
      firing = λ k t z m n grid. firing_came kind k grid t z m n;
      grids = λ k z m grid. grids_satisfy kind k grid z m;
    }
