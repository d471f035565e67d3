-- What holds of every normal form, over every kind of bounds.
use Rattle.std.specs.Prelude.{◌≡◌, ℕ, ◌^◌, ◌<◌, ◌≤◌, ◌⊎◌, ℤ}
use Rattle.bounds.specs.Kinds.{Kind}
use Rattle.zone_walks.specs.Walks.{Matrix, Negative, NormalForm, Sized, Still, AgesAllowed}

-- the points of the largest predecessor: a clock and twelve tokens
abbrev pub most_points : ℕ
most_points = 13

-- so small that no sum on the way to a normal form grows past the largest size
abbrev pub largest_entry : ℕ
largest_entry = 2 ^ 26

-- x has a normal form
pub record Formed {B : Type 0} (kind : Kind B) (n : ℕ) (x : Matrix B) : Type 0 where
  pub form : Matrix B
  pub normal : NormalForm kind n x form

pub record NormalFormLaws {B : Type 0} (kind : Kind B) : Type 0 where
  -- bounds with no negative walk have a normal form
  pub exists : (n : ℕ) (x : Matrix B) → n ≤ most_points → Sized kind n largest_entry x →
      Still kind n x → Negative kind n x ⊎ Formed kind n x
  -- there is only one
  pub unique : (n : ℕ) (x y z : Matrix B) → NormalForm kind n x y → NormalForm kind n x z →
      (j i : ℕ) → j < n → i < n → y j i ≡ z j i
  -- the same ages meet it, on every grid
  pub to_form : (n k : ℕ) (x y : Matrix B) (age : ℕ → ℤ) → 1 ≤ k → NormalForm kind n x y →
      AgesAllowed kind k n x age → AgesAllowed kind k n y age
  pub from_form : (n k : ℕ) (x y : Matrix B) (age : ℕ → ℤ) → 1 ≤ k → Sized kind n largest_entry x →
      NormalForm kind n x y → AgesAllowed kind k n y age → AgesAllowed kind k n x age
  -- bounds with a negative walk are met by no ages, on any grid
  pub none : (n k : ℕ) (x : Matrix B) (age : ℕ → ℤ) → 1 ≤ k → Negative kind n x →
      AgesAllowed kind k n x age → ⊥
