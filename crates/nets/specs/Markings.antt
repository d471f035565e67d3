-- Tokens and markings. A marking is a bag: the order of its list means nothing.
use Rattle.std.specs.Prelude.{◌≡◌, ℕ, ◌+◌, ◌*◌, List, [], ◌∷◌, map, pos, IsTrue}
use Rattle.bounds.specs.Kinds.{Kind}
use Rattle.bounds.specs.Ranges.{holds}
use Rattle.nets.specs.Nets.{Arc}

-- the age counts k-ths of a unit on grid k
pub record Token : Type 0 where
  pub place : ℕ
  pub age : ℕ

abbrev pub Marking : Type 0
Marking = List Token

-- the same elements in another order
pub data Permuted {X : Type 0} : List X → List X → Type 0 where
  none : Permuted [] []
  keep : (x : X) {xs ys : List X} → Permuted xs ys → Permuted (x ∷ xs) (x ∷ ys)
  swap : (x y : X) (xs : List X) → Permuted (x ∷ (y ∷ xs)) (y ∷ (x ∷ xs))
  join : {xs ys zs : List X} → Permuted xs ys → Permuted ys zs → Permuted xs zs

abbrev pub older : ℕ → Token → Token
older d t = record { place = t.place; age = t.age + d }

-- every age d more
abbrev pub aged : ℕ → Marking → Marking
aged d m = map (older d) m

abbrev pub finer : ℕ → Token → Token
finer k t = record { place = t.place; age = k * t.age }

-- a marking of grid 1, counted on grid k
abbrev pub refined : ℕ → Marking → Marking
refined k m = map (finer k) m

-- the token stands in the arc's place, and the arc's range holds its age on grid k
pub record Fits {B : Type 0} (kind : Kind B) (k : ℕ) (arc : Arc B) (t : Token) : Type 0 where
  pub place : t.place ≡ arc.place
  pub age : IsTrue (holds kind k arc.range (pos t.age))

-- one token for each arc, in the arcs' order
abbrev pub FitsAll : {B : Type 0} → Kind B → ℕ → List (Arc B) → List Token → Type 0
FitsAll kind k [] [] = Unit {0}
FitsAll kind k [] (t ∷ ts) = ⊥
FitsAll kind k (a ∷ arcs) [] = ⊥
FitsAll kind k (a ∷ arcs) (t ∷ ts) = Fits kind k a t × FitsAll kind k arcs ts
