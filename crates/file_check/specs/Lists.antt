-- A list that grows up to a most.
use Rattle.std.specs.Prelude.{◌≡◌, ℕ, ◌<◌, ◌≤◌, List, [], ◌∷◌, ◌++◌, length}

pub record Pushed (most : ℕ) (before : List ℕ) (x : ℕ) (after : List ℕ) : Type 0 where
  pub room : length before < most → after ≡ before ++ (x ∷ [])
  pub full : most ≤ length before → after ≡ before
