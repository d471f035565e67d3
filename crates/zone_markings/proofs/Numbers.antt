-- Lists of numbers without repetition: one more, another order, and tests of all or of some.
use Rattle.std.proofs.Common.{◌≡◌, ℕ, zero, suc, ◌+◌, ◌<◌, ◌≤◌, Bool, true, false, ◌||◌, eqb, List, [], ◌∷◌, ◌++◌, length, get_or, sym, refl, ap, ◌∙◌, subst, ⊎_elim, arith}
use Rattle.std.proofs.lemmas.Bool.{cases_eq, eqb-false, ne_eqb, and_parts, and_from, or_cases, or_parts, or_from, or_left, or_right, false≢true}
use Rattle.std.specs.List.{list_any, list_all, range_with_len, zip}
use Rattle.nets.specs.Markings.{Permuted}
use Rattle.nets.specs.Markings.Permuted.{none, keep, swap, join}
use Rattle.nets.specs.Nets.{Every}
use Rattle.zones.specs.Predecessors.{among}
use Rattle.zones.specs.Vouching.{Distinct}
use Rattle.zones.proofs.Digits.{swapped}

-- ---- one more
pub at_end : (xs : List ℕ) (x : ℕ) (ys : List ℕ) → get_or (xs ++ x ∷ ys) (length xs) 0 ≡ x
at_end [] x ys = refl
at_end (y ∷ xs) x ys = at_end xs x ys

absent_more : (p t : ℕ) (ps : List ℕ) → among p ps ≡ false → (p ≡ t → ⊥) → among p (ps ++ t ∷ []) ≡ false
absent_more p t [] absent apart = or_from (eqb p t) false (ne_eqb p t apart) refl
absent_more p t (q ∷ ps) absent apart =
    let parts = or_parts (eqb p q) (among p ps) absent in
    or_from (eqb p q) (among p (ps ++ t ∷ [])) parts.0 (absent_more p t ps parts.1 apart)

pub distinct_more : (ps : List ℕ) (t : ℕ) → Distinct ps → among t ps ≡ false → Distinct (ps ++ t ∷ [])
distinct_more [] t dist absent = (refl, tt)
distinct_more (p ∷ ps) t dist absent =
    let parts = or_parts (eqb t p) (among t ps) absent in
    (absent_more p t ps dist.0 (λ e. eqb-false t p parts.0 (sym e)), distinct_more ps t dist.1 parts.1)

absent_apart : (p t : ℕ) (ps more : List ℕ) → among p (ps ++ t ∷ more) ≡ false → p ≡ t → ⊥
absent_apart p t [] more absent = eqb-false p t (or_parts (eqb p t) (among p more) absent).0
absent_apart p t (q ∷ ps) more absent = absent_apart p t ps more (or_parts (eqb p q) (among p (ps ++ t ∷ more)) absent).1

-- a number is not among those before it
pub fresh : (ps : List ℕ) (t : ℕ) (more : List ℕ) → Distinct (ps ++ t ∷ more) → among t ps ≡ false
fresh [] t more dist = refl
fresh (p ∷ ps) t more dist =
    or_from (eqb t p) (among t ps) (ne_eqb t p (λ e. absent_apart p t ps more dist.0 (sym e))) (fresh ps t more dist.1)

-- ---- the front of a list
absent_front : (p : ℕ) (xs ys : List ℕ) → among p (xs ++ ys) ≡ false → among p xs ≡ false
absent_front p [] ys absent = refl
absent_front p (x ∷ xs) ys absent =
    let parts = or_parts (eqb p x) (among p (xs ++ ys)) absent in
    or_from (eqb p x) (among p xs) parts.0 (absent_front p xs ys parts.1)

pub distinct_front : (xs ys : List ℕ) → Distinct (xs ++ ys) → Distinct xs
distinct_front [] ys dist = tt
distinct_front (x ∷ xs) ys dist = (absent_front x xs ys dist.0, distinct_front xs ys dist.1)

pub every_front : (P : ℕ → Type 0) (xs ys : List ℕ) → Every P (xs ++ ys) → Every P xs
every_front P [] ys every = tt
every_front P (x ∷ xs) ys every = (every.0, every_front P xs ys every.1)

-- ---- another order
pub permuted_length : {X : Type 0} {xs ys : List X} → Permuted xs ys → length xs ≡ length ys
permuted_length none = refl
permuted_length (keep x p) = ap suc (permuted_length p)
permuted_length (swap x y xs) = refl
permuted_length (join p q) = permuted_length p ∙ permuted_length q

permuted_among : (q : ℕ) {xs ys : List ℕ} → Permuted xs ys → among q xs ≡ among q ys
permuted_among q none = refl
permuted_among q (keep x p) = ap (λ t. eqb q x || t) (permuted_among q p)
permuted_among q (swap x y xs) = swapped (eqb q x) (eqb q y) (among q xs)
permuted_among q (join p r) = permuted_among q p ∙ permuted_among q r

pub permuted_distinct : {xs ys : List ℕ} → Permuted xs ys → Distinct xs → Distinct ys
permuted_distinct none dist = tt
permuted_distinct (keep x p) dist = (sym (permuted_among x p) ∙ dist.0, permuted_distinct p dist.1)
permuted_distinct (swap x y xs) dist =
    let parts = or_parts (eqb x y) (among x xs) dist.0 in
    (or_from (eqb y x) (among y xs) (ne_eqb y x (λ e. eqb-false x y parts.0 (sym e))) dist.1.0, (parts.1, dist.1.1))
permuted_distinct (join p q) dist = permuted_distinct q (permuted_distinct p dist)

pub permuted_every : (P : ℕ → Type 0) {xs ys : List ℕ} → Permuted xs ys → Every P xs → Every P ys
permuted_every P none every = tt
permuted_every P (keep x p) every = (every.0, permuted_every P p every.1)
permuted_every P (swap x y xs) every = (every.1.0, (every.0, every.1.1))
permuted_every P (join p q) every = permuted_every P q (permuted_every P p every)

-- ---- a test of some number
pub record Passing (test : ℕ → Bool) (first n : ℕ) : Type 0 where
  pub number : ℕ
  pub low : first ≤ number
  pub high : number < first + n
  pub passes : test number ≡ true

pub some_passing : (test : ℕ → Bool) (first n : ℕ) → list_any test (range_with_len first n) ≡ true → Passing test first n
some_passing test first zero h = absurd (false≢true h)
some_passing test first (suc n) h = ⊎_elim here (λ e. later (some_passing test (first + 1) n e)) (or_cases (test first) (list_any test (range_with_len (first + 1) n)) h)
  where
    here : test first ≡ true → Passing test first (suc n)
    here e = record { number = first; low = omega arith; high = omega arith; passes = e }

    later : Passing test (first + 1) n → Passing test first (suc n)
    later r = record { number = r.number; low = omega (arith, r.low); high = omega (arith, r.high); passes = r.passes }

pub passing_some : (test : ℕ → Bool) (first n t : ℕ) → first ≤ t → t < first + n → test t ≡ true → list_any test (range_with_len first n) ≡ true
passing_some test first zero t low high e = absurd (omega (arith, low, high))
passing_some test first (suc n) t low high e =
    ⊎_elim (λ s. or_left (test first) _ (subst (λ x. test x ≡ true) s e)) (λ apart. or_right (test first) _ (passing_some test (first + 1) n t (omega (arith, low, apart)) (omega (arith, high)) e)) (cases_eq t first)

-- ---- a test of every number of a list, beside its position
pub all_zipped : (test : ℕ × ℕ → Bool) (first : ℕ) (xs : List ℕ) → list_all test (zip (range_with_len first (length xs)) xs) ≡ true → (j at : ℕ) → at ≡ first + j → j < length xs → test (at, get_or xs j 0) ≡ true
all_zipped test first [] h j at e below = absurd (omega (arith, below))
all_zipped test first (x ∷ xs) h zero at e below =
    let s : first ≡ at = omega (arith, e) in
    subst (λ n. test (n, x) ≡ true) s (and_parts (test (first, x)) _ h).0
all_zipped test first (x ∷ xs) h (suc j) at e below =
    all_zipped test (first + 1) xs (and_parts (test (first, x)) _ h).1 j at (omega (arith, e)) (omega (arith, below))

pub zipped_all : (test : ℕ × ℕ → Bool) (first : ℕ) (xs : List ℕ) → ((j at : ℕ) → at ≡ first + j → j < length xs → test (at, get_or xs j 0) ≡ true) → list_all test (zip (range_with_len first (length xs)) xs) ≡ true
zipped_all test first [] h = refl
zipped_all test first (x ∷ xs) h =
    and_from (test (first, x)) _ (h 0 first (omega arith) (omega arith)) (zipped_all test (first + 1) xs (λ j at e below. h (suc j) at (omega (arith, e)) (omega (arith, below))))
