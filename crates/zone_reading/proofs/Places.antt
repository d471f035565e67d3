-- Tokens listed one after the other, each in the place that a function gives its number.
use Rattle.std.proofs.Common.{◌≡◌, ℕ, ◌+◌, ◌-◌, ◌≤◌, List, [], ◌∷◌, ◌++◌, map, sym, ap, ◌∙◌, arith}
use Rattle.std.proofs.lemmas.List.FromFn.{map-range_with_len_more}
use Rattle.std.specs.List.{range_with_len}

pub place_listed : (place : ℕ → ℕ) (n m p : ℕ) (before after : List ℕ) → 1 ≤ n → n ≡ m → before ≡ map place (range_with_len 1 (n - 1)) → p ≡ place n → after ≡ before ++ (p ∷ []) → after ≡ map place (range_with_len 1 m)
place_listed place n m p before after low end so_far is one =
    let last : n - 1 + 1 ≡ m = omega arith in
    one
    ∙ ap (λ xs. xs ++ (p ∷ [])) so_far
    ∙ ap (λ q. map place (range_with_len 1 (n - 1)) ++ (q ∷ [])) is
    ∙ sym (map-range_with_len_more place 1 (n - 1) n (omega arith))
    ∙ ap (λ k. map place (range_with_len 1 k)) last
