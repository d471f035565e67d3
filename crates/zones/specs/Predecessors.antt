-- Zones one step back: by a delay, and by a firing for a matching.
--     narrowing     a token's two bounds against the clock become no larger than a range's
--     matching      by output arc, which token of the zone the firing added there; 0 for none
--     void          a firing with this matching leads to no marking of the zone
use Rattle.std.specs.Prelude.{◌≡◌, ℕ, zero, suc, ◌/◌, ◌%◌, Bool, true, false, not, ◌&&◌, ◌||◌, List}
use Rattle.std.specs.Prelude.{[], ◌∷◌, ◌++◌, map, length, take, drop, ◌==◌, nat_le, slice_index}
use Rattle.std.specs.Prelude.{if◌then◌else◌}
use Rattle.bounds.specs.Kinds.{Kind}
use Rattle.bounds.specs.declared.range.Range.{Range}
use Rattle.nets.specs.Nets.{Arc, Transition, numbered}
use Rattle.zone_walks.specs.Walks.{Matrix, lesser, counted, Negative, NormalForm}
use Rattle.zones.specs.Zones.{Zone, points}

-- ---- a delay
-- every token may have been younger, down to age 0
abbrev pub released : {B : Type 0} → Kind B → Matrix B → Matrix B
released kind x j i = if j == 0 then kind.zero else x j i

-- z is in normal form
pub record DelayPredecessor {B : Type 0} (kind : Kind B) (z p : Zone B) : Type 0 where
  pub places : p.places ≡ z.places
  pub bounds : NormalForm kind (points z) (counted kind (released kind z.bound)) p.bound

-- ---- matchings
abbrev pub among : ℕ → List ℕ → Bool
among i [] = false
among i (d ∷ ds) = i == d || among i ds

-- a token of the zone, and it stands in this place
abbrev pub stands : List ℕ → ℕ → ℕ → Bool
stands places token place =
    nat_le 1 token && nat_le token (length places) && numbered places token 0 == place

-- one number for each output arc: 0, or a token in the arc's place that no later arc is given
abbrev pub matches : {B : Type 0} → List ℕ → List (Arc B) → List ℕ → Bool
matches places [] [] = true
matches places [] (d ∷ ds) = false
matches places (a ∷ arcs) [] = false
matches places (a ∷ arcs) (d ∷ ds) =
    (d == 0 || (stands places d a.place && not (among d ds))) && matches places arcs ds

-- four fields of four bits, the first arc's topmost
abbrev pub fields : ℕ → List ℕ
fields n = (n / 4096 % 16) ∷ (n / 256 % 16) ∷ (n / 16 % 16) ∷ (n % 16) ∷ []

abbrev pub all_zero : List ℕ → Bool
all_zero [] = true
all_zero (d ∷ ds) = d == 0 && all_zero ds

-- the matching that a 16-bit number says; fields of arcs that do not exist are 0
abbrev pub digits_of : {B : Type 0} → List (Arc B) → ℕ → List ℕ
digits_of arcs n = take (length arcs) (fields n)

abbrev pub is_matching : {B : Type 0} → List ℕ → List (Arc B) → ℕ → Bool
is_matching places arcs n =
    matches places arcs (digits_of arcs n) && all_zero (drop (length arcs) (fields n))

-- ---- narrowing
abbrev pub narrowed : {B : Type 0} → Kind B → ℕ → Range B → Matrix B → Matrix B
narrowed kind token range x j i =
    if j == token && i == 0 then lesser kind (x j i) range.upper
    else if j == 0 && i == token then lesser kind (x j i) range.lower
    else x j i

-- every matched token by the range of its arc
abbrev pub narrowed_by : {B : Type 0} → Kind B → List (Arc B) → List ℕ → Matrix B → Matrix B
narrowed_by kind [] ds x = x
narrowed_by kind (a ∷ arcs) [] x = x
narrowed_by kind (a ∷ arcs) (zero ∷ ds) x = narrowed_by kind arcs ds x
narrowed_by kind (a ∷ arcs) (suc d ∷ ds) x =
    narrowed_by kind arcs ds (narrowed kind (suc d) a.range x)

-- ---- taking tokens off: later ones move up to close the gap
-- so many tokens from the first one on, without those among the given
abbrev pub others : List ℕ → ℕ → ℕ → List ℕ
others gone first zero = []
others gone first (suc n) =
    if among first gone then others gone (suc first) n else first ∷ others gone (suc first) n

-- the tokens of a zone that stay, in their order
abbrev pub staying : {B : Type 0} → List ℕ → Zone B → List ℕ
staying gone z = others gone 1 (length z.places)

-- the bounds between some points alone
abbrev pub picked : {B : Type 0} → List ℕ → Matrix B → Matrix B
picked kept x j i = x (slice_index kept j) (slice_index kept i)

abbrev pub places_at : {B : Type 0} → List ℕ → Zone B → List ℕ
places_at tokens z = map (λ i. numbered z.places i 0) tokens

-- ---- adding tokens
-- point n, with a range and no limit against the other tokens
abbrev pub with_token : {B : Type 0} → Kind B → ℕ → Range B → Matrix B → Matrix B
with_token kind n range x j i =
    if j == n && i == 0 then range.upper
    else if j == 0 && i == n then range.lower
    else if j == n || i == n then kind.no_limit
    else x j i

-- a token for each arc, from point n on
abbrev pub with_tokens : {B : Type 0} → Kind B → ℕ → List (Arc B) → Matrix B → Matrix B
with_tokens kind n [] x = x
with_tokens kind n (a ∷ arcs) x = with_tokens kind (suc n) arcs (with_token kind n a.range x)

-- ---- a firing of t; z is in normal form
abbrev pub Void : {B : Type 0} → Kind B → Transition B → List ℕ → Zone B → Type 0
Void kind t matching z =
    Negative kind (points z) (counted kind (narrowed_by kind t.outputs matching z.bound))

-- The matched tokens are narrowed first, all of them; then they are taken off the normal form, and
-- the input arcs' tokens added.
pub record FiringPredecessor {B : Type 0} (kind : Kind B) (t : Transition B) (matching : List ℕ)
    (z p : Zone B) : Type 0 where
  pub possible : Void kind t matching z → ⊥
  pub narrow : Matrix B
  pub narrows : NormalForm kind (points z)
      (counted kind (narrowed_by kind t.outputs matching z.bound)) narrow
  pub places : p.places ≡ places_at (staying matching z) z ++ map (λ a. a.place) t.inputs
  pub bounds : NormalForm kind (points p) (counted kind
      (with_tokens kind (suc (length (staying matching z))) t.inputs
      (picked (0 ∷ staying matching z) narrow))) p.bound
