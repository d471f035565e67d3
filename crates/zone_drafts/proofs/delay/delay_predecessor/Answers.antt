use Rattle.zone_drafts.proofs.Backwards.{delayed_back}
use Rattle.zone_drafts.proofs.delay.delay_predecessor.Goals as goal

pub returns-then-places-from : goal.returns-then-places-from
returns-then-places-from g c = delayed_back g.B.Bound.kind c.args.places.now c.args.cells.now c.delay_back.new.cells c.delay_back.ensures
