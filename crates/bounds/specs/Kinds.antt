-- What a kind of bounds means, and the laws that every kind keeps.
--     grid k        ages and differences are counted in k-ths of a unit; k is a whole number from 1
--     bound         a limit on a difference of two ages
--     strict mark   c allows what is at most c, and c strict what is less than c
--     size          how far a bound lies from zero: it limits how many bounds are added
use Rattle.std.specs.Prelude.{◌≡◌, ℕ, ◌+◌, ◌^◌, ◌≤◌, Bool, false, not, ◌&&◌, ◌||◌, ◌⊎◌, ℤ, pos}
use Rattle.std.specs.Prelude.{◌+ℤ◌, ◌*ℤ◌, Ok, Err, Result, int_le, int_lt, nat_le, unsigned_abs}
use Rattle.std.specs.Prelude.{IsTrue, IsFalse, if◌then◌else◌}
use Rattle.bounds.specs.declared.made.MakeError.{MakeError}
use Rattle.bounds.specs.declared.made.MakeError.TheVariants.{OutsideLimits, MarkNotTaken}

-- a sum past this size is no limit
abbrev pub largest_size : ℕ
largest_size = 2 ^ 40

-- bounds are made of the numbers from -262143 to 262143
abbrev pub largest_number : ℕ
largest_number = 262143

-- whether a bound of the number c allows the difference d on grid k
abbrev pub number_allows : ℕ → ℤ → Bool → ℤ → Bool
number_allows k c strict d = if strict then int_lt d (pos k *ℤ c) else int_le d (pos k *ℤ c)

-- the place of a number's bound in the order: c strict just below c, and c just below c + 1 strict
abbrev pub place : ℤ → Bool → ℤ
place c strict = c +ℤ c +ℤ pos (if strict then 0 else 1)

-- no law speaks of a number past the largest size, or of a mark that the kind does not take
pub record Named (marks : Bool) (c : ℤ) (strict : Bool) : Type 0 where
  pub small : unsigned_abs c ≤ largest_size
  pub takes : IsTrue strict → IsTrue marks

pub record Kind (B : Type 0) : Type 0 where
  -- the two bounds that every kind has, and whether it takes the strict mark
  pub zero : B
  pub no_limit : B
  pub marks : Bool
  -- the bound of a number, strict or not
  pub number : ℤ → Bool → B
  pub sum : B → B → B
  -- the order
  pub at_most : B → B → Bool
  pub size : B → ℕ
  -- allows k b d: on grid k the bound b allows the difference d
  pub allows : ℕ → B → ℤ → Bool
  -- any two bounds are in order, and nothing is above no limit
  pub total : (a b : B) → IsTrue (at_most a b) ⊎ IsTrue (at_most b a)
  pub transitive : (a b c : B) → IsTrue (at_most a b) → IsTrue (at_most b c) → IsTrue (at_most a c)
  pub antisymmetric : (a b : B) → IsTrue (at_most a b) → IsTrue (at_most b a) → a ≡ b
  pub top : (a : B) → IsTrue (at_most a no_limit)
  -- sums, while the sizes together stay within the largest
  pub associative : (a b c : B) → size a + size b + size c ≤ largest_size →
      sum (sum a b) c ≡ sum a (sum b c)
  pub commutative : (a b : B) → size a + size b ≤ largest_size → sum a b ≡ sum b a
  pub neutral : (a : B) → size a ≤ largest_size → sum zero a ≡ a
  pub monotone : (a b c : B) → size a + size c ≤ largest_size → size b + size c ≤ largest_size →
      IsTrue (at_most a b) → IsTrue (at_most (sum a c) (sum b c))
  -- no limit absorbs
  pub absorbs : (a : B) → sum no_limit a ≡ no_limit
  -- what is allowed on grid k
  pub larger_allows : (k : ℕ) (a b : B) (d : ℤ) → 1 ≤ k → IsTrue (at_most a b) →
      IsTrue (allows k a d) → IsTrue (allows k b d)
  pub sum_allows : (k : ℕ) (a b : B) (d e : ℤ) → 1 ≤ k → IsTrue (allows k a d) →
      IsTrue (allows k b e) → IsTrue (allows k (sum a b) (d +ℤ e))
  pub zero_allows : (k : ℕ) (d : ℤ) → 1 ≤ k → allows k zero d ≡ int_le d (pos 0)
  pub below_zero : (k : ℕ) (a : B) → 1 ≤ k → IsFalse (at_most zero a) → IsFalse (allows k a (pos 0))
  pub no_limit_allows : (k : ℕ) (d : ℤ) → 1 ≤ k → IsTrue (allows k no_limit d)
  pub grids : (k : ℕ) (a : B) (d : ℤ) → 1 ≤ k → allows k a (pos k *ℤ d) ≡ allows 1 a d
  -- sizes
  pub zero_size : size zero ≡ 0
  pub no_limit_size : size no_limit ≡ 0
  pub sum_size : (a b : B) → size (sum a b) ≤ size a + size b
  pub sum_capped : (a b : B) → size (sum a b) ≤ largest_size
  -- the bounds of numbers: what they allow, their order, their sizes and their sums
  pub number_zero : number (pos 0) false ≡ zero
  pub numbers_allow : (k : ℕ) (c : ℤ) (s : Bool) (d : ℤ) → 1 ≤ k → Named marks c s →
      allows k (number c s) d ≡ number_allows k c s d
  pub numbers_order : (c d : ℤ) (s t : Bool) → Named marks c s → Named marks d t →
      at_most (number c s) (number d t) ≡ int_le (place c s) (place d t)
  pub numbers_size : (c : ℤ) (s : Bool) → Named marks c s → size (number c s) ≡ unsigned_abs c
  pub numbers_sum : (c d : ℤ) (s t : Bool) → Named marks c s → Named marks d t →
      sum (number c s) (number d t) ≡ (if nat_le (unsigned_abs (c +ℤ d)) largest_size
      then number (c +ℤ d) (s || t) else no_limit)

-- what making answers: the bound of the number, unless the number is outside the limits or the kind
-- does not take the mark
abbrev pub made : {B : Type 0} → Kind B → ℤ → Bool → Result B MakeError
made kind c strict =
    if nat_le (unsigned_abs c) largest_number
    then (if strict && not kind.marks then Err MarkNotTaken else Ok (kind.number c strict))
    else Err OutsideLimits

-- the bound of the number, without its mark where the kind does not take it; outside the limits no
-- limit
abbrev pub bound_of : {B : Type 0} → Kind B → ℤ → Bool → B
bound_of kind c strict =
    if nat_le (unsigned_abs c) largest_number then kind.number c (strict && kind.marks)
    else kind.no_limit
