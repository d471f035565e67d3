-- The next number that a test passes.
--     least    the number is above the given one and below the limit, passes, and none between
--              passes
use Rattle.std.specs.Prelude.{◌≡◌, ℕ, ◌<◌, Bool, false, Some, None, Option, IsTrue}

pub record Least (limit : ℕ) (test : ℕ → Bool) (after n : ℕ) : Type 0 where
  pub above : after < n
  pub small : n < limit
  pub passes : IsTrue (test n)
  pub between : (i : ℕ) → after < i → i < n → test i ≡ false

abbrev pub NextBelow : ℕ → (ℕ → Bool) → ℕ → Option ℕ → Type 0
NextBelow limit test after None = (i : ℕ) → after < i → i < limit → test i ≡ false
NextBelow limit test after (Some n) = Least limit test after n

-- among the numbers of 16 bits
abbrev pub Next : (ℕ → Bool) → ℕ → Option ℕ → Type 0
Next = NextBelow 65536
