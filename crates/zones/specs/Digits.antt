-- A matching digit by digit, from the first arc on.
--     arcs      the place of each output arc
--     before    the digits before this one
use Rattle.std.specs.Prelude.{◌≡◌, ℕ, zero, suc, ◌+◌, ◌*◌, ◌/◌, ◌<◌, ◌≤◌, Bool, true, false, not}
use Rattle.std.specs.Prelude.{◌&&◌, ◌||◌, List, [], ◌∷◌, ◌++◌, length, take, ◌==◌, nat_lt}
use Rattle.std.specs.Prelude.{slice_index, IsTrue}
use Rattle.zones.specs.Predecessors.{among, stands}

-- the digit is 0, or a token in the arc's place that no arc before has
abbrev pub digit_fits : List ℕ → List ℕ → List ℕ → ℕ → Bool
digit_fits arcs places before digit =
    (digit == 0) || (nat_lt (length before) (length arcs) &&
    (stands places digit (slice_index arcs (length before)) && not (among digit before)))

abbrev pub all_fit : List ℕ → List ℕ → List ℕ → List ℕ → Bool
all_fit arcs places before [] = true
all_fit arcs places before (d ∷ ds) =
    digit_fits arcs places before d && all_fit arcs places (before ++ (d ∷ [])) ds

-- so many digits from the first on fit, and the one after them does not
pub record Fitting (arcs places digits : List ℕ) (count : ℕ) : Type 0 where
  pub within : count ≤ length digits
  pub before : (k : ℕ) → k < count → IsTrue
      (digit_fits arcs places (take k digits) (slice_index digits k))
  pub stop : count < length digits → digit_fits arcs places (take count digits)
      (slice_index digits count) ≡ false

-- the number with another digit at a position, and 0 at each later one
abbrev pub raised : ℕ → ℕ → ℕ → ℕ
raised n zero digit = digit * 4096
raised n (suc zero) digit = n / 4096 * 4096 + digit * 256
raised n (suc (suc zero)) digit = n / 256 * 256 + digit * 16
raised n (suc (suc (suc position))) digit = n / 16 * 16 + digit
