-- Walks over bounds between points, and normal forms.
--     matrix        x j i bounds the age of point j less the age of point i; only the points below
--                   some n count
--     walk          a list of legs from point to point; its sum adds up the bounds of its legs
--     normal form   at (j,i) the least sum over the walks from j to i of at most n legs
--     negative      some closed walk of at most n legs sums below zero
use Rattle.std.specs.Prelude.{◌≡◌, ℕ, ◌<◌, ◌≤◌, false, List, [], ◌∷◌, length, ℤ, ◌-ℤ◌, ◌==◌, IsTrue}
use Rattle.std.specs.Prelude.{if◌then◌else◌}
use Rattle.bounds.specs.Kinds.{Kind}

abbrev pub Matrix : Type 0 → Type 0
Matrix B = ℕ → ℕ → B

-- the lesser of two bounds
abbrev pub lesser : {B : Type 0} → Kind B → B → B → B
lesser kind a b = if kind.at_most a b then a else b

-- What bounds count for. Point 0 stands for a clock at age 0, and the least age is 0: an entry of
-- its row that lets more through than zero says no more than zero. From a point to itself it is
-- zero.
abbrev pub counted : {B : Type 0} → Kind B → Matrix B → Matrix B
counted kind d j i =
    if j == i then kind.zero
    else if j == 0 then lesser kind (d j i) kind.zero
    else d j i

-- ---- walks
-- the points to which the legs lead, one after the other; no leg, no sum
abbrev pub walk_end : ℕ → List ℕ → ℕ
walk_end j [] = j
walk_end j (p ∷ legs) = walk_end p legs

abbrev pub walk_sum : {B : Type 0} → Kind B → Matrix B → ℕ → List ℕ → B
walk_sum kind x j [] = kind.zero
walk_sum kind x j (p ∷ legs) = kind.sum (x j p) (walk_sum kind x p legs)

-- every point is one of the n
abbrev pub Inside : ℕ → List ℕ → Type 0
Inside n [] = Unit {0}
Inside n (p ∷ legs) = (p < n) × Inside n legs

-- the legs make a walk from j to i over n points, with so many legs at most
pub record Walk (n most j i : ℕ) (legs : List ℕ) : Type 0 where
  pub inside : Inside n legs
  pub few : length legs ≤ most
  pub ends : walk_end j legs ≡ i

-- ---- normal forms
pub record Negative {B : Type 0} (kind : Kind B) (n : ℕ) (x : Matrix B) : Type 0 where
  pub at : ℕ
  pub point : at < n
  pub legs : List ℕ
  pub closed : Walk n n at at legs
  pub below : kind.at_most kind.zero (walk_sum kind x at legs) ≡ false

-- a walk from j to i with this sum
pub record Reached {B : Type 0} (kind : Kind B) (n most : ℕ) (x : Matrix B) (j i : ℕ)
    (b : B) : Type 0 where
  pub legs : List ℕ
  pub walk : Walk n most j i legs
  pub sum : b ≡ walk_sum kind x j legs

pub record NormalForm {B : Type 0} (kind : Kind B) (n : ℕ) (x y : Matrix B) : Type 0 where
  pub reached : (j i : ℕ) → j < n → i < n → Reached kind n n x j i (y j i)
  pub least : (j i : ℕ) (legs : List ℕ) → j < n → i < n → Walk n n j i legs →
      IsTrue (kind.at_most (y j i) (walk_sum kind x j legs))

-- no bound is larger than this size
abbrev pub Sized : {B : Type 0} → Kind B → ℕ → ℕ → Matrix B → Type 0
Sized kind n most x = (j i : ℕ) → j < n → i < n → kind.size (x j i) ≤ most

-- a point's bound to itself is zero
abbrev pub Still : {B : Type 0} → Kind B → ℕ → Matrix B → Type 0
Still kind n x = (j : ℕ) → j < n → x j j ≡ kind.zero

-- no way through the point v is below the leg itself
abbrev pub Settled : {B : Type 0} → Kind B → ℕ → Matrix B → ℕ → Type 0
Settled kind n x v =
    (j i : ℕ) → j < n → i < n → IsTrue (kind.at_most (x j i) (kind.sum (x j v) (x v i)))

-- on grid k every bound allows the difference of the ages
abbrev pub AgesAllowed : {B : Type 0} → Kind B → ℕ → ℕ → Matrix B → (ℕ → ℤ) → Type 0
AgesAllowed kind k n x age =
    (j i : ℕ) → j < n → i < n → IsTrue (kind.allows k (x j i) (age j -ℤ age i))
