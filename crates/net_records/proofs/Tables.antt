-- An answer by the first row of a table that holds has that row's number; and where no row holds.
use Rattle.std.proofs.Common.{◌≡◌, ℕ, Bool, true, false, cond, List, [], ◌∷◌, Some, None, Err, Option, Result, sym, refl, ap, subst, arith}
use Rattle.net_records.specs.NetRecords.{tested}
use Rattle.net_records.specs.Rows.{Row, AnswersNumber, RowsNumbered, answer_of, first_number, first_refusal}

-- a refusal's number, where there is one
abbrev pub number_of : {R : Type 0} → (R → ℕ) → Option R → Option ℕ
number_of number None = None
number_of number (Some refusal) = Some (number refusal)

module _ {R : Type 0} (number : R → ℕ) where
  one_row : (t : Bool) (n : ℕ) (r : R) (first : Option ℕ) (later : Option R) → number r ≡ n → first ≡ number_of number later → cond t (Some n) first ≡ number_of number (cond t (Some r) later)
  one_row true n r first later e below = sym (ap Some e)
  one_row false n r first later e below = below

  pub first_numbers : (rows : List (Row R)) → RowsNumbered number rows → first_number rows ≡ number_of number (first_refusal rows)
  first_numbers [] numbered = refl
  first_numbers (r ∷ rows) numbered =
      one_row r.holds r.number r.refusal (first_number rows) (first_refusal rows) numbered.0 (first_numbers rows numbered.1)

  tested_number : {T : Type 0} (x : T) (o : Option R) (first : Option ℕ) → first ≡ number_of number o → AnswersNumber number first (tested x o)
  tested_number x None first e = e
  tested_number x (Some refusal) first e = e

  -- where the answer is that of a test
  pub answers_number : {T : Type 0} (x : T) (rows : List (Row R)) (answer : Result T R) → RowsNumbered number rows → answer ≡ tested x (first_refusal rows) → AnswersNumber number (first_number rows) answer
  answers_number x rows answer numbered is =
      subst (AnswersNumber number (first_number rows)) (sym is) (tested_number x (first_refusal rows) (first_number rows) (first_numbers rows numbered))

  one_answer : {T : Type 0} (t : Bool) (n : ℕ) (r : R) (first : Option ℕ) (later : Result T R) → number r ≡ n → AnswersNumber number first later → AnswersNumber number (cond t (Some n) first) (cond t (Err r) later)
  one_answer true n r first later e below = sym (ap Some e)
  one_answer false n r first later e below = below

  -- and where it is the table's
  pub table_number : {T : Type 0} (x : T) (rows : List (Row R)) → RowsNumbered number rows → AnswersNumber number (first_number rows) (answer_of x rows)
  table_number x [] numbered = refl
  table_number x (r ∷ rows) numbered =
      one_answer r.holds r.number r.refusal (first_number rows) (answer_of x rows) numbered.0 (table_number x rows numbered.1)

-- ---- no row holds
abbrev pub NoneHolds : {R : Type 0} → List (Row R) → Type 0
NoneHolds [] = Unit {0}
NoneHolds (r ∷ rows) = (r.holds ≡ false) × NoneHolds rows

no_some : {X : Type 0} (x : X) → Some x ≡ None → ⊥
no_some x e = let z : ◌≡◌ {A = ℕ} 0 1 = cc in absurd (omega arith)

row_none : {R : Type 0} (t : Bool) (r : R) (later : Option R) → cond t (Some r) later ≡ None → (t ≡ false) × (later ≡ None)
row_none true r later e = absurd (no_some r e)
row_none false r later e = (refl, e)

pub none_holds : {R : Type 0} (rows : List (Row R)) → first_refusal rows ≡ None → NoneHolds rows
none_holds [] e = tt
none_holds (r ∷ rows) e =
    let both = row_none r.holds r.refusal (first_refusal rows) e in
    (both.0, none_holds rows both.1)
