-- Tables of refusals.
--     row        a number, the refusal that has it, and whether what it says is the case
--     table      rows in ascending number; the first that holds is the answer
use Rattle.std.specs.Prelude.{◌≡◌, ℕ, Bool, List, [], ◌∷◌, Some, None, Ok, Err, Option, Result}
use Rattle.std.specs.Prelude.{if◌then◌else◌}
use Rattle.std.specs.Prelude.{if◌then◌else◌}

pub record Row (R : Type 0) : Type 0 where
  pub number : ℕ
  pub refusal : R
  pub holds : Bool

abbrev pub row : {R : Type 0} → ℕ → R → Bool → Row R
row number refusal holds = record { number = number; refusal = refusal; holds = holds }

-- the refusal of the first row that holds
abbrev pub first_refusal : {R : Type 0} → List (Row R) → Option R
first_refusal [] = None
first_refusal (r ∷ rows) = if r.holds then Some r.refusal else first_refusal rows

-- the number of the first row that holds
abbrev pub first_number : {R : Type 0} → List (Row R) → Option ℕ
first_number [] = None
first_number (r ∷ rows) = if r.holds then Some r.number else first_number rows

-- what a table answers: x, unless a row holds
abbrev pub answer_of : {T R : Type 0} → T → List (Row R) → Result T R
answer_of x [] = Ok x
answer_of x (r ∷ rows) = if r.holds then Err r.refusal else answer_of x rows

-- an answer by number: a refusal has the first number that holds, and there is none where all went
-- well
abbrev pub AnswersNumber : {T E : Type 0} → (E → ℕ) → Option ℕ → Result T E → Type 0
AnswersNumber number first (Ok x) = first ≡ None
AnswersNumber number first (Err refusal) = first ≡ Some (number refusal)

-- in each row stands the number that its refusal has
abbrev pub RowsNumbered : {R : Type 0} → (R → ℕ) → List (Row R) → Type 0
RowsNumbered number [] = Unit {0}
RowsNumbered number (r ∷ rows) = (number r.refusal ≡ r.number) × RowsNumbered number rows
