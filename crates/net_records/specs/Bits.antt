-- Fields of bits in a row of bytes, most significant bit first.
use Rattle.std.specs.Prelude.{ℕ, zero, suc, ◌+◌, ◌-◌, ◌*◌, ◌/◌, ◌%◌, ◌^◌, Bool, List, ◌==◌}
use Rattle.std.specs.Prelude.{slice_index}

-- bit i: 0 is the topmost bit of the first byte
abbrev pub bit : List ℕ → ℕ → ℕ
bit bytes i = slice_index bytes (i / 8) / 2 ^ (7 - i % 8) % 2

-- the number that `width` bits write, from bit `from` on
abbrev pub field : List ℕ → ℕ → ℕ → ℕ
field bytes from zero = 0
field bytes from (suc width) = 2 * field bytes from width + bit bytes (from + width)

abbrev pub flag : List ℕ → ℕ → Bool
flag bytes i = bit bytes i == 1
