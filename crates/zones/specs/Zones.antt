-- Zones, and the markings that satisfy them.
--     zone       tokens, numbered from 1, with a place each, and bounds on the differences of their
--                ages
--     point      a token, or 0: a clock fixed at age 0
use Rattle.std.specs.Prelude.{◌≡◌, ℕ, zero, suc, List, ◌++◌, map, length, ℤ, pos, slice_index_or}
use Rattle.bounds.specs.Kinds.{Kind}
use Rattle.nets.specs.Markings.{Token, Marking, Permuted}
use Rattle.zone_walks.specs.Walks.{Matrix, counted, Negative, NormalForm, Sized, Still, AgesAllowed}

-- bound j i limits the age of point j less the age of point i; none is asked for where j is i
pub record Zone (B : Type 0) : Type 0 where
  pub places : List ℕ
  pub bound : Matrix B

abbrev pub points : {B : Type 0} → Zone B → ℕ
points z = suc (length z.places)

abbrev pub no_token : Token
no_token = record { place = 0; age = 0 }

abbrev pub age_of : List Token → ℕ → ℤ
age_of tokens zero = pos 0
age_of tokens (suc j) = pos (slice_index_or tokens j no_token).age

-- Each token of the zone is paired with a token of the marking, no two with the same one: the
-- chosen tokens, in the zone's order, and the rest make up the marking. Places agree, and every
-- bound allows its difference on grid k.
pub record Satisfies {B : Type 0} (kind : Kind B) (k : ℕ) (z : Zone B) (m : Marking) : Type 0 where
  pub chosen : List Token
  pub rest : Marking
  pub pairing : Permuted m (chosen ++ rest)
  pub places : map (λ t. t.place) chosen ≡ z.places
  pub allowed : AgesAllowed kind k (points z) (counted kind z.bound) (age_of chosen)

-- some closed walk sums below zero
abbrev pub Inconsistent : {B : Type 0} → Kind B → Zone B → Type 0
Inconsistent kind z = Negative kind (points z) (counted kind z.bound)

-- y is the normal form of z
pub record NormalOf {B : Type 0} (kind : Kind B) (z y : Zone B) : Type 0 where
  pub places : y.places ≡ z.places
  pub bounds : NormalForm kind (points z) (counted kind z.bound) y.bound

-- z is its own normal form, with zero from each point to itself
pub record InNormalForm {B : Type 0} (kind : Kind B) (z : Zone B) : Type 0 where
  pub still : Still kind (points z) z.bound
  pub bounds : NormalForm kind (points z) (counted kind z.bound) z.bound

-- no bound of the zone is larger than this size
abbrev pub SizedZone : {B : Type 0} → Kind B → ℕ → Zone B → Type 0
SizedZone kind most z = Sized kind (points z) most z.bound
