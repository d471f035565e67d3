-- The lines of a text, and the whole numbers that they write.
use Rattle.std.specs.Prelude.{ℕ, suc, ◌+◌, ◌-◌, ◌*◌, min, Bool, ◌&&◌, List, [], ◌∷◌, ℤ, pos, negsuc}
use Rattle.std.specs.Prelude.{neg_ℤ, Some, None, Option, ◌==◌, nat_le, if◌then◌else◌}
use Rattle.std.specs.Option.{option_map}
use Rattle.bounds.specs.Kinds.{largest_number}

-- b stands first in the first line
abbrev pub grown : ℕ → List (List ℕ) → List (List ℕ)
grown b [] = (b ∷ []) ∷ []
grown b (line ∷ rest) = (b ∷ line) ∷ rest

-- a line feed ends a line; what stands after the last one is a line unless it is empty
abbrev pub lines : List ℕ → List (List ℕ)
lines [] = []
lines (b ∷ text) = if b == 10 then [] ∷ lines text else grown b (lines text)

-- the first line, and what follows its line feed
abbrev pub first_line : List ℕ → List ℕ
first_line [] = []
first_line (b ∷ text) = if b == 10 then [] else b ∷ first_line text

abbrev pub after_line : List ℕ → List ℕ
after_line [] = []
after_line (b ∷ text) = if b == 10 then text else after_line text

abbrev pub digit : ℕ → Bool
digit b = nat_le 48 b && nat_le b 57

-- digits after the number that is read so far
abbrev pub digits_after : ℕ → List ℕ → Option ℕ
digits_after n [] = Some n
digits_after n (b ∷ text) = if digit b then digits_after (10 * n + (b - 48)) text else None

-- one decimal digit or more
abbrev pub natural : List ℕ → Option ℕ
natural [] = None
natural (b ∷ text) = digits_after 0 (b ∷ text)

-- the same, perhaps after a minus sign
abbrev pub integer : List ℕ → Option ℤ
integer [] = None
integer (b ∷ text) =
    if b == 45 then option_map (λ n. neg_ℤ (pos n)) (natural text)
    else option_map pos (natural (b ∷ text))

-- a number past the limits of bounds is kept as one just past them
abbrev pub clipped : ℕ → ℕ
clipped n = min n (largest_number + 1)

abbrev pub signed_clipped : ℤ → ℤ
signed_clipped (pos n) = pos (clipped n)
signed_clipped (negsuc n) = neg_ℤ (pos (clipped (suc n)))
