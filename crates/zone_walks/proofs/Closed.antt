-- Matrices in which every two legs are no shorter than one.
use Rattle.std.proofs.Common.{◌≡◌, ℕ, ◌<◌, true}
use Rattle.bounds.specs.Kinds.{Kind}
use Rattle.zone_walks.specs.Walks.{Matrix, lesser, Still, Settled}

pub record Closed {B : Type 0} (kind : Kind B) (n : ℕ) (x : Matrix B) : Type 0 where
  pub still : Still kind n x
  pub settled : (v : ℕ) → v < n → Settled kind n x v

-- x is nowhere above y
abbrev pub Below : {B : Type 0} → Kind B → ℕ → Matrix B → Matrix B → Type 0
Below kind n x y = (j i : ℕ) → j < n → i < n → kind.at_most (x j i) (y j i) ≡ true

-- the same bounds at the points
abbrev pub Same : {B : Type 0} → ℕ → Matrix B → Matrix B → Type 0
Same n x y = (j i : ℕ) → j < n → i < n → x j i ≡ y j i

-- every leg, or the way through p where that is less
abbrev pub relaxed : {B : Type 0} → Kind B → ℕ → Matrix B → Matrix B
relaxed kind p x j i = lesser kind (x j i) (kind.sum (x j p) (x p i))
