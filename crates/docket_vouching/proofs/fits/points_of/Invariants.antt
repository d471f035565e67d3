use Rattle.std.proofs.Common.{◌≡◌, ℕ, ◌<◌, length, get_or}
use Rattle.zones.specs.Vouching.{partner}
use Rattle.docket_vouching.proofs.fits.points_of.Given as goal

abbrev pub invariant-loop-i : goal.invariant-loop-i
invariant-loop-i l =
    (length l.points ≡ 9) × ((k : ℕ) → k < l.i → get_or l.points k 0 ≡ partner l.pairing k)
