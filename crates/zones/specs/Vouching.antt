-- When one zone vouches for another: every marking of the other is one of it.
use Rattle.std.specs.Prelude.{◌≡◌, ℕ, ◌<◌, ◌≤◌, false, List, [], ◌∷◌, map, length, ◌≢◌, slice_index}
use Rattle.std.specs.Prelude.{IsTrue}
use Rattle.bounds.specs.Kinds.{Kind}
use Rattle.nets.specs.Nets.{Every, numbered}
use Rattle.zones.specs.Predecessors.{among}
use Rattle.zones.specs.Zones.{Zone, points}

-- no number twice
abbrev pub Distinct : List ℕ → Type 0
Distinct [] = Unit {0}
Distinct (p ∷ ps) = (among p ps ≡ false) × Distinct ps

pub record Partner (count p : ℕ) : Type 0 where
  pub some : 1 ≤ p
  pub few : p ≤ count

-- the clock is its own partner
abbrev pub partner : List ℕ → ℕ → ℕ
partner pairing j = slice_index (0 ∷ pairing) j

-- v vouches for w: the pairing gives each token of v a token of w in the same place, none twice,
-- and no bound of w exceeds v's
pub record Vouches {B : Type 0} (kind : Kind B) (v w : Zone B) (pairing : List ℕ) : Type 0 where
  pub count : length pairing ≡ length v.places
  pub partners : Every (Partner (length w.places)) pairing
  pub distinct : Distinct pairing
  pub places : map (λ p. numbered w.places p 0) pairing ≡ v.places
  pub bounds : (j i : ℕ) → j < points v → i < points v → (j ≢ i) →
      IsTrue (kind.at_most (w.bound (partner pairing j) (partner pairing i)) (v.bound j i))
