use Rattle.std.proofs.Common.{◌≡◌, ℕ, ◌<◌, length, get_or}
use Rattle.docket_vouching.proofs.fits.kept_of.Given as goal

abbrev pub invariant-loop-i : goal.invariant-loop-i
invariant-loop-i l =
    (length l.own ≡ 9) × ((k : ℕ) → k < l.i → get_or l.own k 0 ≡ get_or l.kept (get_or l.points k 0) 0)
