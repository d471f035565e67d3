-- The bounds of small numbers, and no limit, are computed by their numbers, in every kind; so are
-- normal forms.
use Rattle.std.specs.Prelude.{int_le, nat_le}
use Rattle.std.specs.Ordering.{int_eq}
use Rattle.std.proofs.Common.{◌≡◌, ℕ, zero, suc, ◌<◌, ◌≤◌, Bool, true, false, cond, ◌&&◌, ◌||◌, eqb, ltb, leb, ℤ, pos, ◌+ℤ◌, nat_abs, Option, Some, None, sym, refl, ap, ◌∙◌, subst, ⊎_elim, arith}
use borrow.Author.Differences.{ints}
use Rattle.std.proofs.lemmas.Bool.{true≢false, false≢true, cases_Bool, cases_eq, and_parts, leb-true, le-leb, ltb-true, lt-ltb, eq-eqb, or_left, or_right}
use Rattle.std.proofs.lemmas.Bool.Decides.{Decides-int_eq}
use Rattle.bounds.specs.Kinds.{Kind, Named, largest_size, number_allows, place}
use Rattle.zone_walks.specs.Walks.{Matrix, lesser, Sized, Still}
use Rattle.zone_walks.specs.NormalForms.{most_points, largest_entry}
use Rattle.zone_walks.proofs.Closed.{Same, relaxed}
use Rattle.zone_walks.proofs.Rounds.{Progress, Finished, progress_same, progress_fewer, progress_none, progress_round, progress_normal}

-- ---- tests over the numbers below n
abbrev pub every : ℕ → (ℕ → Bool) → Bool
every zero f = true
every (suc n) f = f n && every n f

pub every_holds : (n : ℕ) (f : ℕ → Bool) → every n f ≡ true → (i : ℕ) → i < n → f i ≡ true
every_holds zero f h i l = absurd (omega (arith, l))
every_holds (suc n) f h i l =
    let both = and_parts (f n) (every n f) h in
    ⊎_elim (λ e. subst (λ k. f k ≡ true) (sym e) both.0) (λ ne. every_holds n f both.1 i (omega (arith, l, ne))) (cases_eq i n)

abbrev pub every_two : ℕ → (ℕ → ℕ → Bool) → Bool
every_two n f = every n (λ j. every n (f j))

pub every_two_holds : (n : ℕ) (f : ℕ → ℕ → Bool) → every_two n f ≡ true → (j i : ℕ) → j < n → i < n → f j i ≡ true
every_two_holds n f h j i p q = every_holds n (f j) (every_holds n (λ k. every n (f k)) h j p) i q

-- ---- computing with numbers
-- a bound without a mark: its number, or none where there is no limit
abbrev pub Entry : Type 0
Entry = Option ℤ

-- it is small
abbrev pub fits : Entry → Bool
fits (Some c) = leb (nat_abs c) largest_entry
fits None = true

abbrev pub zero_entry : Entry
zero_entry = Some (pos 0)

abbrev pub entry_sum : Entry → Entry → Entry
entry_sum (Some c) (Some d) = Some (c +ℤ d)
entry_sum (Some c) None = None
entry_sum None b = None

abbrev pub entry_at_most : Entry → Entry → Bool
entry_at_most (Some c) (Some d) = int_le c d
entry_at_most (Some c) None = true
entry_at_most None (Some d) = false
entry_at_most None None = true

abbrev pub entry_lesser : Entry → Entry → Entry
entry_lesser a b = cond (entry_at_most a b) a b

abbrev pub entry_is : Entry → Entry → Bool
entry_is (Some c) (Some d) = int_eq c d
entry_is (Some c) None = false
entry_is None (Some d) = false
entry_is None None = true

entry_same : (a b : Entry) → entry_is a b ≡ true → a ≡ b
entry_same (Some c) (Some d) h = ap Some ((Decides-int_eq c d).0 h)
entry_same (Some c) None h = absurd (false≢true h)
entry_same None (Some d) h = absurd (false≢true h)
entry_same None None h = refl

abbrev pub rounds : Matrix Entry → ℕ → Matrix Entry
rounds x zero j i = x j i
rounds x (suc p) j i = entry_lesser (rounds x p j i) (entry_sum (rounds x p j p) (rounds x p p i))

abbrev pub all_fit : ℕ → Matrix Entry → Bool
all_fit n x = every_two n (λ j i. fits (x j i))

-- round p finds no bound too large, and no way from p to itself below zero
abbrev pub keeps : ℕ → Matrix Entry → ℕ → Bool
keeps n x p = every_two n (λ j i. fits (rounds x p j i) && fits (entry_sum (rounds x p j p) (rounds x p p i))) && entry_at_most zero_entry (rounds x p p p)

abbrev pub ends_in : ℕ → Matrix Entry → Matrix Entry → Bool
ends_in n x y = every_two n (λ j i. entry_is (rounds x n j i) (y j i))

-- of two numbers without a mark the lesser comes first
places_order : (c d : ℤ) → int_le (place c false) (place d false) ≡ int_le c d
places_order c d = by_test (int_le c d) refl
  where
    by_test : (t : Bool) → int_le c d ≡ t → int_le (place c false) (place d false) ≡ t
    by_test true e = sym (omega (arith, ints))
    by_test false e = sym (omega (arith, ints))

past : (c : ℤ) (s : Bool) → number_allows 1 c s (c +ℤ pos 1) ≡ false
past c true = sym (omega (arith, ints))
past c false = sym (omega (arith, ints))

module _ {B : Type 0} (kind : Kind B) where
  abbrev pub of : Entry → B
  of (Some c) = kind.number c false
  of None = kind.no_limit

  -- the bounds of entries
  abbrev pub each : Matrix Entry → Matrix B
  each x j i = of (x j i)

  pub unmarked_named : (c : ℤ) → fits (Some c) ≡ true → Named kind.marks c false
  unmarked_named c h =
      record { small = omega (arith, leb-true (nat_abs c) largest_entry h); takes = λ e. absurd (false≢true e) }

  pub fits_size : (a : Entry) → fits a ≡ true → kind.size (of a) ≤ largest_entry
  fits_size (Some c) h = omega (arith, kind.numbers_size c false (unmarked_named c h), leb-true (nat_abs c) largest_entry h)
  fits_size None h = omega (arith, kind.no_limit_size)

  -- no limit is above every number, since it allows more
  pub above_numbers : (c : ℤ) (s : Bool) → Named kind.marks c s → kind.at_most kind.no_limit (kind.number c s) ≡ false
  above_numbers c s named =
      let one : 1 ≤ 1 = omega arith in
      ⊎_elim
      (λ h. absurd (true≢false (sym (kind.larger_allows 1 kind.no_limit (kind.number c s) (c +ℤ pos 1) one h (kind.no_limit_allows 1 (c +ℤ pos 1) one)) ∙ kind.numbers_allow 1 c s (c +ℤ pos 1) one named ∙ past c s)))
      (λ h. h)
      (cases_Bool (kind.at_most kind.no_limit (kind.number c s)))

  pub at_most_of : (a b : Entry) → fits a ≡ true → fits b ≡ true → kind.at_most (of a) (of b) ≡ entry_at_most a b
  at_most_of (Some c) (Some d) p q = kind.numbers_order c d false false (unmarked_named c p) (unmarked_named d q) ∙ places_order c d
  at_most_of (Some c) None p q = kind.top (kind.number c false)
  at_most_of None (Some d) p q = above_numbers d false (unmarked_named d q)
  at_most_of None None p q = kind.top kind.no_limit

  -- small numbers have small sums
  within : (c d : ℤ) → fits (Some c) ≡ true → fits (Some d) ≡ true → nat_le (nat_abs (c +ℤ d)) largest_size ≡ true
  within c d p q =
      le-leb (nat_abs (c +ℤ d)) largest_size (omega (arith, ints, leb-true (nat_abs c) largest_entry p, leb-true (nat_abs d) largest_entry q))

  pub sum_of : (a b : Entry) → fits a ≡ true → fits b ≡ true → kind.sum (of a) (of b) ≡ of (entry_sum a b)
  sum_of (Some c) (Some d) p q =
      kind.numbers_sum c d false false (unmarked_named c p) (unmarked_named d q) ∙ ap (λ t. cond t (kind.number (c +ℤ d) false) kind.no_limit) (within c d p q)
  sum_of (Some c) None p q =
      kind.commutative (kind.number c false) kind.no_limit (omega (arith, fits_size (Some c) p, kind.no_limit_size)) ∙ kind.absorbs (kind.number c false)
  sum_of None b p q = kind.absorbs (of b)

  of_cond : (t : Bool) (a b : Entry) → of (cond t a b) ≡ cond t (of a) (of b)
  of_cond true a b = refl
  of_cond false a b = refl

  pub lesser_of : (a b : Entry) → fits a ≡ true → fits b ≡ true → lesser kind (of a) (of b) ≡ of (entry_lesser a b)
  lesser_of a b p q = ap (λ t. cond t (of a) (of b)) (at_most_of a b p q) ∙ sym (of_cond (entry_at_most a b) a b)

  -- ---- normal forms: x has the bounds of entries, and the rounds over these end in y
  module _ (n : ℕ) (x : Matrix B) (entries : Matrix Entry) (few : n ≤ most_points) (still : Still kind n x) (same : Same n x (each entries)) (good : every n (keeps n entries) ≡ true) where
    cells : (p j i : ℕ) → p < n → j < n → i < n → (fits (rounds entries p j i) ≡ true) × (fits (entry_sum (rounds entries p j p) (rounds entries p p i)) ≡ true)
    cells p j i h a b =
        and_parts _ _ (every_two_holds n (λ u w. fits (rounds entries p u w) && fits (entry_sum (rounds entries p u p) (rounds entries p p w))) (and_parts _ _ (every_holds n (keeps n entries) good p h)).0 j i a b)

    forward : (p : ℕ) → p < n → kind.at_most kind.zero (each (rounds entries p) p p) ≡ true
    forward p h =
        subst (λ b. kind.at_most b (each (rounds entries p) p p) ≡ true) kind.number_zero
        (at_most_of zero_entry (rounds entries p p p) refl (cells p p p h h h).0 ∙ (and_parts _ _ (every_holds n (keeps n entries) good p h)).1)

    sized : Sized kind n largest_entry x
    sized j i a b = subst (λ c. kind.size c ≤ largest_entry) (sym (same j i a b)) (fits_size (entries j i) (cells 0 j i (omega (arith, a)) a b).0)

    next : (p : ℕ) → p < n → Same n (each (rounds entries (suc p))) (relaxed kind p (each (rounds entries p)))
    next p h j i a b =
        let z = rounds entries p in
        sym (ap (lesser kind (of (z j i))) (sum_of (z j p) (z p i) (cells p j p h a h).0 (cells p p i h h b).0) ∙ lesser_of (z j i) (entry_sum (z j p) (z p i)) (cells p j i h a b).0 (cells p j i h a b).1)

    fewer : (p v : ℕ) → ltb v (suc p) ≡ true → (eqb v p || ltb v p) ≡ true
    fewer p v e =
        ⊎_elim (λ same. or_left (eqb v p) (ltb v p) (eq-eqb v p same)) (λ other. or_right (eqb v p) (ltb v p) (lt-ltb v p (omega (arith, ltb-true v (suc p) e, other)))) (cases_eq v p)

    stages : (r : ℕ) → r ≤ n → Progress kind n x r (λ v. ltb v r) (each (rounds entries r))
    stages zero le = progress_same kind n x 0 (λ v. ltb v 0) x (each entries) same (progress_none kind n x (λ v. ltb v 0) still sized (λ v a e. absurd (omega (arith, ltb-true v 0 e))))
    stages (suc p) le =
        progress_fewer kind n x (suc p) (λ v. eqb v p || ltb v p) (λ v. ltb v (suc p)) (each (rounds entries (suc p))) (λ v a e. fewer p v e)
        (progress_round kind n x p p (λ v. ltb v p) (each (rounds entries p)) (each (rounds entries (suc p))) (omega (arith, le, few)) sized (stages p (omega (arith, le))) le (forward p le) (next p le))

    pub computed : Finished kind n x (each (rounds entries n))
    computed = progress_normal kind n x n (λ v. ltb v n) (each (rounds entries n)) few few sized (stages n (omega arith)) (λ v a. lt-ltb v n a)

    pub ends_same : (y : Matrix Entry) → ends_in n entries y ≡ true → Same n (each (rounds entries n)) (each y)
    ends_same y h j i a b =
        ap of (entry_same (rounds entries n j i) (y j i) (every_two_holds n (λ u w. entry_is (rounds entries n u w) (y u w)) h j i a b))
