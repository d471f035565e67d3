-- Words of bounds: whole numbers near zero, and one far from them that says that there is no limit.
use Rattle.std.specs.Prelude.{◌≡◌, ℕ, ◌≤◌, Bool, true, false, ◌||◌, ◌⊎◌, ℤ, pos, nat_le}
use Rattle.std.specs.Prelude.{unsigned_abs, refl, IsTrue, if◌then◌else◌}
use Rattle.std.specs.Ordering.{int_eq}
use Rattle.std.proofs.Common.{arith, inl, inr}
use Rattle.std.proofs.lemmas.Bool.{leb-true}
use Rattle.std.proofs.lemmas.Bool.Decides.{Decides-int_eq}
use borrow.Author.Differences.{ints}
use Rattle.bounds.specs.Kinds.{largest_size}

-- so large that its sum with any word is no number's; all its bytes are alike
abbrev pub no_limit_size : ℕ
no_limit_size = 2314885530818453536

abbrev pub no_limit_word : ℤ
no_limit_word = pos no_limit_size

-- ---- words of plain bounds
abbrev pub is_plain_word : ℤ → Bool
is_plain_word z = nat_le (unsigned_abs z) largest_size || int_eq z no_limit_word

-- a number past the largest size is no limit
abbrev pub capped_word : ℤ → ℤ
capped_word z = if nat_le (unsigned_abs z) largest_size then z else no_limit_word

pub word_cases : (z : ℤ) → IsTrue (is_plain_word z) →
    (unsigned_abs z ≤ largest_size) ⊎ (z ≡ no_limit_word)
word_cases z h = by_test (nat_le (unsigned_abs z) largest_size) refl h
  where
    by_test : (t : Bool) → nat_le (unsigned_abs z) largest_size ≡ t →
        IsTrue (t || int_eq z no_limit_word) → (unsigned_abs z ≤ largest_size) ⊎ (z ≡ no_limit_word)
    by_test true e h = inl (leb-true (unsigned_abs z) largest_size e)
    by_test false e h = inr ((Decides-int_eq z no_limit_word).0 h)

pub capped_held : (z : ℤ) → IsTrue (is_plain_word (capped_word z))
capped_held z = by_test (nat_le (unsigned_abs z) largest_size) refl
  where
    by_test : (t : Bool) → nat_le (unsigned_abs z) largest_size ≡ t →
        IsTrue (is_plain_word (if t then z else no_limit_word))
    by_test true e = grind (arith, ints)
    by_test false e = refl

-- so the sum of two words has room in 64 bits
pub word_small : (z : ℤ) → IsTrue (is_plain_word z) → unsigned_abs z ≤ no_limit_size
word_small z h = grind (arith, ints)
