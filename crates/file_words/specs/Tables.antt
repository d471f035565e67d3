-- The bounds of a zone, written for people as a table.
--     words     how a bound is written
--     bounds    the bound on the age of one point less the age of another, by their numbers
use Rattle.std.specs.Prelude.{ℕ, zero, suc, List, [], ◌∷◌, ◌++◌, codes, decimal, ◌==◌}
use Rattle.std.specs.Prelude.{if◌then◌else◌}

-- the texts of the numbers below n, one after the other
abbrev pub below : (ℕ → List ℕ) → ℕ → List ℕ
below text zero = []
below text (suc n) = below text n ++ text n

-- a name and a number, or the word for number 0
abbrev pub numbered_text : List ℕ → List ℕ → ℕ → List ℕ
numbered_text zero' name n = if n == 0 then zero' else name ++ (codes " " ++ decimal n)

abbrev pub point_text : ℕ → List ℕ
point_text n = numbered_text (codes "clock") (codes "token") n

-- the point of a column, parted from the one before it
abbrev pub column_text : ℕ → List ℕ
column_text i =
    if i == 0 then codes " " ++ (point_text i ++ codes " ") else codes " | "
    ++ (point_text i ++ codes " ")

abbrev pub cell_text : {B : Type 0} → (B → List ℕ) → (ℕ → ℕ → B) → ℕ → ℕ → List ℕ
cell_text words bounds j i = column_text i ++ words (bounds j i)

-- what the row of point j says of all points
abbrev pub row_text : {B : Type 0} → (B → List ℕ) → (ℕ → ℕ → B) → ℕ → ℕ → List ℕ
row_text words bounds points j =
    (codes "  " ++ (point_text j ++ codes " less:"))
    ++ (below (cell_text words bounds j) points ++ (10 ∷ []))

abbrev pub table_text : {B : Type 0} → (B → List ℕ) → (ℕ → ℕ → B) → ℕ → List ℕ
table_text words bounds points = below (row_text words bounds points) points
