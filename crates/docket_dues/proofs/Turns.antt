-- One item after the other: with so many answered from the first on, the rest is still due.
use Rattle.std.proofs.Common.{◌≡◌, ℕ, zero, suc, ◌+◌, ◌<◌, List, [], ◌∷◌, ◌++◌, length, take, drop, take-append-drop, drop-drop, length-drop, Option, Some, None, sym, ap, ◌∙◌, subst, arith}
use Rattle.std.proofs.lemmas.List.{append-nil}
use Rattle.nets.specs.Nets.{Net, Every}
use Rattle.docket_dues.specs.Dues.{all_due, due_after, Leads, Awaits}
use Rattle.docket_dues.specs.DueLaws.{IsDue}
use Rattle.docket_dues.specs.declared.item.Item.{Item}
use Rattle.docket_dues.proofs.Lists.{every_parts, every_join}
use Rattle.docket_dues.proofs.Stands.{all_are_due}

-- ---- any list from its n-th element on
module _ {X : Type 0} (x : X) (rest : List X) where
  dropped_more : (n : ℕ) (xs : List X) → drop n xs ≡ x ∷ rest → drop (n + 1) xs ≡ rest
  dropped_more n xs here = sym (drop-drop 1 n xs) ∙ ap (drop 1) here

  taken_more : (n : ℕ) (xs : List X) → drop n xs ≡ x ∷ rest → take (suc n) xs ≡ take n xs ++ (x ∷ [])
  taken_more zero xs here = ap (take 1) here
  taken_more (suc n) [] here = let long = ap length here in absurd (omega (arith, long))
  taken_more (suc n) (y ∷ xs) here = ap (λ l. y ∷ l) (taken_more n xs here)

  below_length : (n : ℕ) (xs : List X) → drop n xs ≡ x ∷ rest → n < length xs
  below_length n xs here = let long = ap length here in omega (arith, length-drop n xs, long)

  module _ (P : X → Type 0) where
    every_here : (n : ℕ) (xs : List X) → drop n xs ≡ x ∷ rest → Every P xs → P x
    every_here n xs here every =
        let parts = every_parts P (take n xs) (drop n xs) (subst (Every P) (sym (take-append-drop n xs)) every) in
        (subst (Every P) here parts.1).0

    every_one_more : (n : ℕ) (xs : List X) → drop n xs ≡ x ∷ rest → Every P (take n xs) → P x → Every P (take (n + 1) xs)
    every_one_more n xs here every one =
        let next : suc n ≡ n + 1 = omega arith in
        subst (λ m. Every P (take m xs)) next (subst (Every P) (sym (taken_more n xs here)) (every_join P (take n xs) (x ∷ []) every (one, tt)))

taken_all : {X : Type 0} (n : ℕ) (xs : List X) → drop n xs ≡ [] → take n xs ≡ xs
taken_all n xs none = sym (append-nil (take n xs)) ∙ ap (λ l. take n xs ++ l) (sym none) ∙ take-append-drop n xs

-- ---- what is due
module _ {B : Type 0} (net : Net B) (listed : List (List ℕ)) where
  pub awaits_next : (n : ℕ) (d : Item) (next : Option Item) → Awaits net listed n (Some d) → Leads net listed d next → Awaits net listed (n + 1) next
  awaits_next n d None here leads = dropped_more d (due_after net listed d) n (all_due net listed) here ∙ leads
  awaits_next n d (Some next) here leads = dropped_more d (due_after net listed d) n (all_due net listed) here ∙ leads

  pub awaited_is_due : (n : ℕ) (d : Item) → Awaits net listed n (Some d) → IsDue net listed d
  awaited_is_due n d here = every_here d (due_after net listed d) (IsDue net listed) n (all_due net listed) here (all_are_due net listed)

  pub awaited_below : (n : ℕ) (d : Item) → Awaits net listed n (Some d) → n < length (all_due net listed)
  awaited_below n d here = below_length d (due_after net listed d) n (all_due net listed) here

  module _ (P : Item → Type 0) where
    pub one_more_answered : (n : ℕ) (d : Item) → Awaits net listed n (Some d) → Every P (take n (all_due net listed)) → P d → Every P (take (n + 1) (all_due net listed))
    one_more_answered n d here answered one = every_one_more d (due_after net listed d) P n (all_due net listed) here answered one

    pub all_answered : (n : ℕ) → Awaits net listed n None → Every P (take n (all_due net listed)) → Every P (all_due net listed)
    all_answered n none answered = subst (Every P) (taken_all n (all_due net listed) none) answered
