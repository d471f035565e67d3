-- What holds of every element of a list, part by part, and the numbers of a range.
use Rattle.std.proofs.Common.{◌≡◌, ℕ, zero, suc, ◌+◌, ◌-◌, ◌<◌, ◌≤◌, Bool, true, false, cond, List, [], ◌∷◌, ◌++◌, map, length, get_or, sym, refl, ap, ◌∙◌, subst, ⊎_elim, arith}
use Rattle.std.proofs.lemmas.Bool.{cases_eq, false≢true}
use Rattle.std.proofs.lemmas.List.FromFn.{length-range_with_len}
use Rattle.std.specs.List.{filter, flat_map, range_with_len}
use Rattle.nets.specs.Nets.{Every}
use Rattle.docket_dues.specs.Dues.{numbers}

-- ---- ranges
pub numbers_first : (first limit : ℕ) → first < limit → numbers first limit ≡ first ∷ numbers (suc first) limit
numbers_first first limit some =
    let left : limit - first ≡ suc (limit - suc first) = omega (arith, some) in
    let next : first + 1 ≡ suc first = omega arith in
    ap (range_with_len first) left ∙ ap (λ n. first ∷ range_with_len n (limit - suc first)) next

pub numbers_none : (first limit : ℕ) → limit ≤ first → numbers first limit ≡ []
numbers_none first limit past =
    let left : limit - first ≡ 0 = omega (arith, past) in
    ap (range_with_len first) left

pub numbers_from_one : (count : ℕ) → length (numbers 1 (suc count)) ≡ count
numbers_from_one count = let left : suc count - 1 ≡ count = omega arith in length-range_with_len 1 (suc count - 1) ∙ left

-- ---- every element
module _ {X : Type 0} (P : X → Type 0) where
  pub every_parts : (xs ys : List X) → Every P (xs ++ ys) → Every P xs × Every P ys
  every_parts [] ys h = (tt, h)
  every_parts (x ∷ xs) ys h = let rest = every_parts xs ys h.1 in ((h.0, rest.0), rest.1)

  pub every_from : (xs : List X) (none : X) → ((i : ℕ) → i < length xs → P (get_or xs i none)) → Every P xs
  every_from [] none each = tt
  every_from (x ∷ xs) none each = (each 0 (omega arith), every_from xs none (λ i below. each (suc i) (omega (arith, below))))

  pub every_at : (xs : List X) (none : X) → Every P xs → (i : ℕ) → i < length xs → P (get_or xs i none)
  every_at [] none every i below = absurd (omega (arith, below))
  every_at (x ∷ xs) none every zero below = every.0
  every_at (x ∷ xs) none every (suc i) below = every_at xs none every.1 i (omega (arith, below))

  pub every_map : {Y : Type 0} (f : Y → X) (ys : List Y) → Every P (map f ys) → Every (λ y. P (f y)) ys
  every_map f [] h = tt
  every_map f (y ∷ ys) h = (h.0, every_map f ys h.1)

  pub every_flat : {Y : Type 0} (f : Y → List X) (ys : List Y) → Every P (flat_map f ys) → Every (λ y. Every P (f y)) ys
  every_flat f [] h = tt
  every_flat f (y ∷ ys) h = let parts = every_parts (f y) (flat_map f ys) h in (parts.0, every_flat f ys parts.1)

  -- all that pass the test have it
  pub every_filter : (test : X → Bool) (xs : List X) → Every P (filter test xs) → Every (λ x. test x ≡ true → P x) xs
  every_filter test [] h = tt
  every_filter test (x ∷ xs) h = let parts = one (test x) h in (parts.0, every_filter test xs parts.1)
    where
      one : (b : Bool) → Every P (cond b (x ∷ filter test xs) (filter test xs)) → (b ≡ true → P x) × Every P (filter test xs)
      one true h = (λ e. h.0, h.1)
      one false h = (λ e. absurd (false≢true e), h)

  -- ---- and back: from the parts to the whole
  pub every_join : (xs ys : List X) → Every P xs → Every P ys → Every P (xs ++ ys)
  every_join [] ys g h = h
  every_join (x ∷ xs) ys g h = (g.0, every_join xs ys g.1 h)

  pub map_every : {Y : Type 0} (f : Y → X) (ys : List Y) → Every (λ y. P (f y)) ys → Every P (map f ys)
  map_every f [] h = tt
  map_every f (y ∷ ys) h = (h.0, map_every f ys h.1)

  pub flat_every : {Y : Type 0} (f : Y → List X) (ys : List Y) → Every (λ y. Every P (f y)) ys → Every P (flat_map f ys)
  flat_every f [] h = tt
  flat_every f (y ∷ ys) h = every_join (f y) (flat_map f ys) h.0 (flat_every f ys h.1)

  pub filter_every : (test : X → Bool) (xs : List X) → Every (λ x. test x ≡ true → P x) xs → Every P (filter test xs)
  filter_every test [] h = tt
  filter_every test (x ∷ xs) h = one (test x) h.0 (filter_every test xs h.1)
    where
      one : (b : Bool) → (b ≡ true → P x) → Every P (filter test xs) → Every P (cond b (x ∷ filter test xs) (filter test xs))
      one true f later = (f refl, later)
      one false f later = later

every_counted : (P : ℕ → Type 0) (count first : ℕ) → Every P (range_with_len first count) → (n : ℕ) → first ≤ n → n < first + count → P n
every_counted P zero first h n low high = absurd (omega (arith, low, high))
every_counted P (suc count) first h n low high =
    ⊎_elim
    (λ same. subst P (sym same) h.0)
    (λ apart. every_counted P count (first + 1) h.1 n (omega (arith, low, apart)) (omega (arith, high)))
    (cases_eq n first)

pub every_number : (P : ℕ → Type 0) (first limit : ℕ) → Every P (numbers first limit) → (n : ℕ) → first ≤ n → n < limit → P n
every_number P first limit h n low high = every_counted P (limit - first) first h n low (omega (arith, low, high))

counted_every : (P : ℕ → Type 0) (count first : ℕ) → ((n : ℕ) → first ≤ n → n < first + count → P n) → Every P (range_with_len first count)
counted_every P zero first each = tt
counted_every P (suc count) first each =
    (each first (omega arith) (omega arith), counted_every P count (first + 1) (λ n low high. each n (omega (arith, low)) (omega (arith, high))))

pub number_every : (P : ℕ → Type 0) (first limit : ℕ) → ((n : ℕ) → first ≤ n → n < limit → P n) → Every P (numbers first limit)
number_every P first limit each = counted_every P (limit - first) first (λ n low high. each n low (omega (arith, low, high)))
