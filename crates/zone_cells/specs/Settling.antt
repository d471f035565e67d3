-- What closing a draft through some of its points answers and leaves.
--     eliminated    round by round, one for each pivot, whatever the cells hold
use Rattle.std.specs.Prelude.{◌≡◌, ℕ, ◌<◌, ◌≤◌, Bool, true, false, if◌then◌else◌, ◌⊎◌, List, []}
use Rattle.std.specs.Prelude.{◌∷◌, length}
use Rattle.bounds.specs.Kinds.{Kind}
use Rattle.zone_walks.specs.NormalForms.{most_points, largest_entry}
use Rattle.zone_walks.specs.Walks.{Matrix, Inside, Negative, NormalForm, Settled, Sized, Still}
use Rattle.zones.specs.Predecessors.{among}
use Rattle.zone_cells.specs.Cells.{in_draft, relaxed_cells}
use Rattle.zone_cells.specs.Sizes.{draft_cells}

-- the cells that are left, and whether no pivot's bound to itself was below zero when its turn came
abbrev pub eliminated : {B : Type 0} → Kind B → ℕ → List ℕ → List B → List B × Bool
eliminated kind points [] cells = (cells, true)
eliminated kind points (p ∷ pivots) cells =
    if kind.at_most kind.zero (in_draft kind cells p p)
    then eliminated kind points pivots (relaxed_cells kind points p cells)
    else (cells, false)

-- whole cells of small bounds, in which every point is settled or among the pivots
pub record Ready {B : Type 0} (kind : Kind B) (points : ℕ) (pivots : List ℕ)
    (cells : List B) : Type 0 where
  pub full : length cells ≡ draft_cells
  pub few : points ≤ most_points
  pub rounds : length pivots ≤ most_points
  pub inside : Inside points pivots
  pub still : Still kind points (in_draft kind cells)
  pub sized : Sized kind points largest_entry (in_draft kind cells)
  pub settled : (v : ℕ) → v < points → (among v pivots ≡ true) ⊎
      Settled kind points (in_draft kind cells) v

-- y is the normal form of x, which has no negative walk
pub record Consistent {B : Type 0} (kind : Kind B) (points : ℕ) (x y : Matrix B) : Type 0 where
  pub normal : NormalForm kind points x y
  pub none : Negative kind points x → ⊥

-- true with the normal form, false where some walk is negative
abbrev pub SettlingAnswered : {B : Type 0} → Kind B → ℕ → Matrix B → Matrix B → Bool → Type 0
SettlingAnswered kind points x y true = Consistent kind points x y
SettlingAnswered kind points x y false = Negative kind points x

pub record Settles {B : Type 0} (kind : Kind B) (points : ℕ) (pivots : List ℕ)
    (before after : List B) (answer : Bool) : Type 0 where
  pub run : (after, answer) ≡ eliminated kind points pivots before
  pub kept : length after ≡ length before
  pub answered : Ready kind points pivots before →
      SettlingAnswered kind points (in_draft kind before) (in_draft kind after) answer
