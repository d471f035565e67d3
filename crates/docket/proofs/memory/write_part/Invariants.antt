use Rattle.std.proofs.Common.{◌≡◌, ℕ, ◌<◌}
use Rattle.docket.proofs.Parts.{Written}
use Rattle.docket.proofs.memory.write_part.Given as goal

abbrev pub invariant-loop-at : goal.invariant-loop-at
invariant-loop-at g l =
    goal.F-IsAlwaysCallable g l.item
    × ((f : ℕ → _) → ((n : ℕ) (x : _) → n < l.size → goal.F-post g l.item n x → x ≡ f n) → Written f l.start l.initial.items l.at l.items)
