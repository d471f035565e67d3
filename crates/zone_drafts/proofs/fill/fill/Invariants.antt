use Rattle.std.proofs.Common.{◌≡◌, ℕ, ◌<◌}
use Rattle.zone_cells.specs.Cells.{times, put}
use Rattle.zone_drafts.proofs.fill.fill.Given as goal

-- the rows before j are written, and so much of row j
abbrev pub invariant-loop-i : goal.invariant-loop-i
invariant-loop-i g l =
    goal.F-IsAlwaysCallable g l.bound
    × ((bounds : ℕ → ℕ → _) → ((j i : ℕ) (b : _) → j < l.points → i < l.points → goal.F-post g l.bound j i b → b ≡ bounds j i)
    → l.draft ≡ times l.i (λ i d. put l.j i (bounds l.j i) d) l.initial.draft)

abbrev pub invariant-loop-j : goal.invariant-loop-j
invariant-loop-j g l =
    goal.F-IsAlwaysCallable g l.bound
    × ((bounds : ℕ → ℕ → _) → ((j i : ℕ) (b : _) → j < l.points → i < l.points → goal.F-post g l.bound j i b → b ≡ bounds j i)
    → l.draft ≡ times l.j (λ j c. times l.points (λ i d. put j i (bounds j i) d) c) l.initial.draft)
