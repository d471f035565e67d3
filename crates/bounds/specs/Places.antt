-- Places of bounds in the order, as words: 2c for c strict, and 2c + 1 for c.
--     half, even     of a place: the number, and whether it is strict
use Rattle.std.specs.Prelude.{◌≡◌, ◌%◌, ◌≤◌, Bool, true, false, ◌||◌, ◌⊎◌, ℤ, pos, negsuc, ◌==◌}
use Rattle.std.specs.Prelude.{unsigned_abs, refl, nat_le, IsTrue, if◌then◌else◌}
use Rattle.std.specs.Int.Signed.{shr_z}
use Rattle.std.specs.Ordering.{int_eq}
use Rattle.std.proofs.Common.{arith, ap, inl, inr, ⊎_elim}
use Rattle.std.proofs.lemmas.Bool.{eqb-true, eqb-false, eq-eqb, ne_eqb, leb-true}
use Rattle.std.proofs.lemmas.Bool.Decides.{Decides-int_eq}
use Rattle.std.proofs.lemmas.Int.{ints}
use Rattle.bounds.specs.Kinds.{largest_size, place}
use Rattle.bounds.specs.Words.{no_limit_size, no_limit_word}

-- rounded down
abbrev pub half : ℤ → ℤ
half z = shr_z z 2

abbrev pub even : ℤ → Bool
even z = unsigned_abs z % 2 == 0

-- ---- a place has one number and one mark
place_by : (z : ℤ) (s : Bool) → even z ≡ s → place (half z) s ≡ z
place_by (pos n) true e = omega (arith, ints, eqb-true (n % 2) 0 e)
place_by (pos n) false e = omega (arith, ints, eqb-false (n % 2) 0 e)
place_by (negsuc n) true e = omega (arith, ints, eqb-true (unsigned_abs (negsuc n) % 2) 0 e)
place_by (negsuc n) false e = omega (arith, ints, eqb-false (unsigned_abs (negsuc n) % 2) 0 e)

pub place-half : (z : ℤ) → place (half z) (even z) ≡ z
place-half z = place_by z (even z) refl

half_by : (z c : ℤ) (s : Bool) → z ≡ place c s → half z ≡ c
half_by (pos n) c true e = omega (arith, ints)
half_by (pos n) c false e = omega (arith, ints)
half_by (negsuc n) c true e = omega (arith, ints)
half_by (negsuc n) c false e = omega (arith, ints)

pub half_place : (c : ℤ) (s : Bool) → half (place c s) ≡ c
half_place c s = half_by (place c s) c s refl

pub even_place : (c : ℤ) (s : Bool) → even (place c s) ≡ s
even_place c true = eq-eqb (unsigned_abs (place c true) % 2) 0 (omega (arith, ints))
even_place c false = ne_eqb (unsigned_abs (place c false) % 2) 0 (λ e. omega (arith, ints))

-- ---- words of marked bounds: places of numbers within the largest size, or no limit
-- the place of the largest number
abbrev pub largest_place : ℤ
largest_place = place (pos largest_size) false

abbrev pub is_marked_word : ℤ → Bool
is_marked_word z = nat_le (unsigned_abs (half z)) largest_size || int_eq z no_limit_word

-- a number past the largest size is no limit
abbrev pub capped_place : ℤ → Bool → ℤ
capped_place c s = if nat_le (unsigned_abs c) largest_size then place c s else no_limit_word

pub place_cases : (z : ℤ) → IsTrue (is_marked_word z) →
    (unsigned_abs (half z) ≤ largest_size) ⊎ (z ≡ no_limit_word)
place_cases z h = by_test (nat_le (unsigned_abs (half z)) largest_size) refl h
  where
    by_test : (t : Bool) → nat_le (unsigned_abs (half z)) largest_size ≡ t →
        IsTrue (t || int_eq z no_limit_word) →
        (unsigned_abs (half z) ≤ largest_size) ⊎ (z ≡ no_limit_word)
    by_test true e h = inl (leb-true (unsigned_abs (half z)) largest_size e)
    by_test false e h = inr ((Decides-int_eq z no_limit_word).0 h)

-- so the sum of the numbers of two words has room in 64 bits
pub half_small : (z : ℤ) → IsTrue (is_marked_word z) → unsigned_abs (half z) ≤ no_limit_size
half_small z h =
    ⊎_elim (λ s. omega (arith, ints, s)) (λ e. omega (arith, ints, ap half e)) (place_cases z h)
