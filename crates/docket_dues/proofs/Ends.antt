-- A list that ends in another.
use Rattle.std.proofs.Common.{◌≡◌, ℕ, zero, suc, ◌+◌, ◌-◌, ◌≤◌, Bool, List, [], ◌∷◌, ◌++◌, map, sym, ap, ◌∙◌, arith}
use Rattle.std.specs.List.{filter, flat_map}
use Rattle.std.proofs.lemmas.List.{append_assoc, map-append}
use Rattle.std.proofs.lemmas.List.Concat.{flat_map-append}
use Rattle.std.proofs.lemmas.List.Elements.{filter-append}
use Rattle.docket_dues.specs.Dues.{numbers}
use Rattle.docket_dues.proofs.Lists.{numbers_first}

pub record EndsIn {X : Type 0} (xs ys : List X) : Type 0 where
  pub before : List X
  pub is : xs ≡ before ++ ys

module _ {X : Type 0} where
  pub ends_equal : {xs ys : List X} → xs ≡ ys → EndsIn xs ys
  ends_equal e = record { before = []; is = e }

  pub ends_later : (x : X) {xs ys : List X} → EndsIn xs ys → EndsIn (x ∷ xs) ys
  ends_later x e = record { before = x ∷ e.before; is = ap (λ l. x ∷ l) e.is }

  pub ends_join : {xs ys zs : List X} → EndsIn xs ys → EndsIn ys zs → EndsIn xs zs
  ends_join {zs} e f = record { before = e.before ++ f.before; is = e.is ∙ ap (λ l. e.before ++ l) f.is ∙ sym (append_assoc e.before f.before zs) }

  pub ends_append : (zs : List X) {xs ys : List X} → EndsIn xs ys → EndsIn (xs ++ zs) (ys ++ zs)
  ends_append zs {ys} e = record { before = e.before; is = ap (λ l. l ++ zs) e.is ∙ append_assoc e.before ys zs }

  pub ends_map : {Y : Type 0} (f : X → Y) {xs ys : List X} → EndsIn xs ys → EndsIn (map f xs) (map f ys)
  ends_map f {ys} e = record { before = map f e.before; is = ap (map f) e.is ∙ map-append f e.before ys }

  pub ends_flat : {Y : Type 0} (f : X → List Y) {xs ys : List X} → EndsIn xs ys → EndsIn (flat_map f xs) (flat_map f ys)
  ends_flat f {ys} e = record { before = flat_map f e.before; is = ap (flat_map f) e.is ∙ flat_map-append f e.before ys }

  pub ends_filter : (test : X → Bool) {xs ys : List X} → EndsIn xs ys → EndsIn (filter test xs) (filter test ys)
  ends_filter test {ys} e = record { before = filter test e.before; is = ap (filter test) e.is ∙ filter-append test e.before ys }

numbers_after : (count first middle limit : ℕ) → first + count ≡ middle → middle ≤ limit → EndsIn (numbers first limit) (numbers middle limit)
numbers_after zero first middle limit is few = let same : first ≡ middle = omega (arith, is) in ends_equal (ap (λ n. numbers n limit) same)
numbers_after (suc count) first middle limit is few =
    ends_join (ends_equal (numbers_first first limit (omega (arith, is, few)))) (ends_later first (numbers_after count (suc first) middle limit (omega (arith, is)) few))

pub numbers_end : (first middle limit : ℕ) → first ≤ middle → middle ≤ limit → EndsIn (numbers first limit) (numbers middle limit)
numbers_end first middle limit low high = numbers_after (middle - first) first middle limit (omega (arith, low)) high
