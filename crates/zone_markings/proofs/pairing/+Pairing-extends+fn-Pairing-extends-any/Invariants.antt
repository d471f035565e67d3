use Rattle.std.proofs.Common.{◌+◌, ◌*◌, length}
use Rattle.zone_markings.proofs.pairing.+Pairing-extends+fn-Pairing-extends-any.Given as goal

abbrev pub decreases-Pairing::extends : goal.decreases-Pairing::extends
decreases-Pairing::extends g l = 2 * length l.places.now

abbrev pub decreases-any : goal.decreases-any
decreases-any g l = 2 * length l.later.now + 1
