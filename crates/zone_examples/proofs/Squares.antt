-- The matrices of the rules, computed as entries.
use Rattle.std.proofs.Common.{◌≡◌, ℕ, zero, suc, ◌≤◌, Bool, true, false, cond, None, ◌&&◌, ◌||◌, eqb, [], ◌∷◌, sym, refl, ap, ◌∙◌, arith}
use Rattle.std.proofs.lemmas.Bool.{and_parts}
use Rattle.bounds.specs.Kinds.{Kind}
use Rattle.zone_walks.specs.Walks.{Matrix, lesser, counted, Negative, NormalForm}
use Rattle.zone_walks.specs.NormalForms.{most_points}
use Rattle.zone_walks.proofs.Again.{counted_still}
use Rattle.zone_walks.proofs.Closed.{Same}
use Rattle.zone_walks.proofs.NormalForms.{same_to}
use Rattle.zones.specs.Predecessors.{narrowed, released, with_token}
use Rattle.zone_examples.specs.WorkedExamples.{table, one_token, two_tokens}
use Rattle.zone_examples.proofs.Computed.{Entry, every, every_two_holds, fits, entry_lesser, all_fit, keeps, ends_in, of, each, lesser_of, zero_entry, computed, ends_same}

-- ---- the rules on entries
abbrev pub counted_entries : Matrix Entry → Matrix Entry
counted_entries d j i = cond (eqb j i) zero_entry (cond (eqb j 0) (entry_lesser (d j i) zero_entry) (d j i))

abbrev pub narrowed_entries : ℕ → Entry → Entry → Matrix Entry → Matrix Entry
narrowed_entries token upper lower d j i = cond (eqb j token && eqb i 0) (entry_lesser (d j i) upper) (cond (eqb j 0 && eqb i token) (entry_lesser (d j i) lower) (d j i))

abbrev pub released_entries : Matrix Entry → Matrix Entry
released_entries d j i = cond (eqb j 0) zero_entry (d j i)

abbrev pub with_token_entries : ℕ → Entry → Entry → Matrix Entry → Matrix Entry
with_token_entries n upper lower d j i = cond (eqb j n && eqb i 0) upper (cond (eqb j 0 && eqb i n) lower (cond (eqb j n || eqb i n) None (d j i)))

-- the entries fit, and the rounds over what they count as end in the result
abbrev pub forms : ℕ → Matrix Entry → Matrix Entry → Bool
forms n d result = all_fit n d && (every n (keeps n (counted_entries d)) && ends_in n (counted_entries d) result)

-- ---- written out
abbrev pub pair : (l01 l10 : Entry) → Matrix Entry
pair l01 l10 = table None ((zero_entry ∷ l01 ∷ []) ∷ (l10 ∷ zero_entry ∷ []) ∷ [])

abbrev pub square : (l01 l02 l10 l12 l20 l21 : Entry) → Matrix Entry
square l01 l02 l10 l12 l20 l21 = table None ((zero_entry ∷ l01 ∷ l02 ∷ []) ∷ (l10 ∷ zero_entry ∷ l12 ∷ []) ∷ (l20 ∷ l21 ∷ zero_entry ∷ []) ∷ [])

module _ {B : Type 0} (kind : Kind B) where
  pub pair_same : (p : ℕ) (a b : Entry) → Same 2 (one_token kind p (of kind b) (of kind a)).bound (each kind (pair a b))
  pair_same p a b zero zero h k = sym kind.number_zero
  pair_same p a b zero (suc zero) h k = refl
  pair_same p a b zero (suc (suc i)) h k = absurd (omega (arith, k))
  pair_same p a b (suc zero) zero h k = refl
  pair_same p a b (suc zero) (suc zero) h k = sym kind.number_zero
  pair_same p a b (suc zero) (suc (suc i)) h k = absurd (omega (arith, k))
  pair_same p a b (suc (suc j)) i h k = absurd (omega (arith, h))

  pub square_same : (p q : ℕ) (a b c d e f : Entry) → Same 3 (two_tokens kind p q (of kind a) (of kind b) (of kind c) (of kind d) (of kind e) (of kind f)).bound (each kind (square a b c d e f))
  square_same p q a b c d e f zero zero h k = sym kind.number_zero
  square_same p q a b c d e f zero (suc zero) h k = refl
  square_same p q a b c d e f zero (suc (suc zero)) h k = refl
  square_same p q a b c d e f zero (suc (suc (suc i))) h k = absurd (omega (arith, k))
  square_same p q a b c d e f (suc zero) zero h k = refl
  square_same p q a b c d e f (suc zero) (suc zero) h k = sym kind.number_zero
  square_same p q a b c d e f (suc zero) (suc (suc zero)) h k = refl
  square_same p q a b c d e f (suc zero) (suc (suc (suc i))) h k = absurd (omega (arith, k))
  square_same p q a b c d e f (suc (suc zero)) zero h k = refl
  square_same p q a b c d e f (suc (suc zero)) (suc zero) h k = refl
  square_same p q a b c d e f (suc (suc zero)) (suc (suc zero)) h k = sym kind.number_zero
  square_same p q a b c d e f (suc (suc zero)) (suc (suc (suc i))) h k = absurd (omega (arith, k))
  square_same p q a b c d e f (suc (suc (suc j))) i h k = absurd (omega (arith, h))

  -- ---- the rules, cell by cell
  lesser_same : (b : B) (l m : Entry) → fits l ≡ true → fits m ≡ true → b ≡ of kind l → lesser kind b (of kind m) ≡ of kind (entry_lesser l m)
  lesser_same b l m p q e = ap (λ c. lesser kind c (of kind m)) e ∙ lesser_of kind l m p q

  counted_cell : (s t : Bool) (b : B) (l : Entry) → fits l ≡ true → b ≡ of kind l → cond s kind.zero (cond t (lesser kind b kind.zero) b) ≡ of kind (cond s zero_entry (cond t (entry_lesser l zero_entry) l))
  counted_cell true t b l p e = sym kind.number_zero
  counted_cell false true b l p e = ap (lesser kind b) (sym kind.number_zero) ∙ lesser_same b l zero_entry p refl e
  counted_cell false false b l p e = e

  narrowed_cell : (s t : Bool) (b : B) (l u v : Entry) → fits l ≡ true → fits u ≡ true → fits v ≡ true → b ≡ of kind l → cond s (lesser kind b (of kind u)) (cond t (lesser kind b (of kind v)) b) ≡ of kind (cond s (entry_lesser l u) (cond t (entry_lesser l v) l))
  narrowed_cell true t b l u v p q r e = lesser_same b l u p q e
  narrowed_cell false true b l u v p q r e = lesser_same b l v p r e
  narrowed_cell false false b l u v p q r e = e

  released_cell : (t : Bool) (b : B) (l : Entry) → b ≡ of kind l → cond t kind.zero b ≡ of kind (cond t zero_entry l)
  released_cell true b l e = sym kind.number_zero
  released_cell false b l e = e

  with_token_cell : (s t w : Bool) (l u v : Entry) → cond s (of kind u) (cond t (of kind v) (cond w kind.no_limit (of kind l))) ≡ of kind (cond s u (cond t v (cond w None l)))
  with_token_cell true t w l u v = refl
  with_token_cell false true w l u v = refl
  with_token_cell false false true l u v = refl
  with_token_cell false false false l u v = refl

  module _ (n : ℕ) (d : Matrix B) (entries : Matrix Entry) (same : Same n d (each kind entries)) where
    pub counted_same : all_fit n entries ≡ true → Same n (counted kind d) (each kind (counted_entries entries))
    counted_same small j i p q = counted_cell (eqb j i) (eqb j 0) (d j i) (entries j i) (every_two_holds n (λ u w. fits (entries u w)) small j i p q) (same j i p q)

    pub narrowed_same : (token : ℕ) (u v : Entry) → all_fit n entries ≡ true → fits u ≡ true → fits v ≡ true → Same n (narrowed kind token (record { upper = of kind u; lower = of kind v }) d) (each kind (narrowed_entries token u v entries))
    narrowed_same token u v small a b j i p q = narrowed_cell (eqb j token && eqb i 0) (eqb j 0 && eqb i token) (d j i) (entries j i) u v (every_two_holds n (λ u w. fits (entries u w)) small j i p q) a b (same j i p q)

    pub released_same : Same n (released kind d) (each kind (released_entries entries))
    released_same j i p q = released_cell (eqb j 0) (d j i) (entries j i) (same j i p q)

  pub with_token_same : (n : ℕ) (u v : Entry) (entries : Matrix Entry) (j i : ℕ) → with_token kind n (record { upper = of kind u; lower = of kind v }) (each kind entries) j i ≡ of kind (with_token_entries n u v entries j i)
  with_token_same n u v entries j i = with_token_cell (eqb j n && eqb i 0) (eqb j 0 && eqb i n) (eqb j n || eqb i n) (entries j i) u v

  pub record Solved (n : ℕ) (x y : Matrix B) : Type 0 where
    pub normal : NormalForm kind n x y
    pub none : Negative kind n x → ⊥

  -- what the entries show of bounds
  pub solved : (n : ℕ) (d y : Matrix B) (entries result : Matrix Entry) → n ≤ most_points → Same n d (each kind entries) → Same n (each kind result) y → forms n entries result ≡ true → Solved n (counted kind d) y
  solved n d y entries result few same ends h =
      let small = and_parts _ _ h in
      let rest = and_parts _ _ small.1 in
      let whole = counted_same n d entries same small.0 in
      let still = counted_still kind n d in
      let done = computed kind n (counted kind d) (counted_entries entries) few still whole rest.0 in
      record {
        normal = same_to kind n (counted kind d) (each kind result) y ends (same_to kind n (counted kind d) _ (each kind result) (ends_same kind n (counted kind d) (counted_entries entries) few still whole rest.0 result rest.1) done.normal);
        none = done.none;
      }
