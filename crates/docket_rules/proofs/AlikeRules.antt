-- Tables whose rules hold alike answer alike.
use Rattle.std.proofs.Common.{◌≡◌, List, [], ◌∷◌, ◌++◌, Some, refl, ap, ◌∙◌, inl, inr, ⊎_elim}
use Rattle.docket_rules.specs.Tables.{Answer, Answers, Rule}

-- with the same numbers, and each holds alike where none before it holds
abbrev pub Alike : List Rule → List Rule → Type 0
Alike [] [] = Unit {0}
Alike [] (q ∷ qs) = ⊥
Alike (r ∷ rs) [] = ⊥
Alike (r ∷ rs) (q ∷ qs) =
    (r.number ≡ q.number) × ((r.when → q.when) × (q.when → r.when)) × ((r.when → ⊥) → Alike rs qs)

pub answers_alike : (rs qs : List Rule) → Alike rs qs → (answer : Answer) → Answers rs answer → Answers qs answer
answers_alike [] [] alike answer h = h
answers_alike [] (q ∷ qs) alike answer h = absurd alike
answers_alike (r ∷ rs) [] alike answer h = absurd alike
answers_alike (r ∷ rs) (q ∷ qs) alike answer h =
    ⊎_elim
    (λ x. inl (alike.1.0 x.0, x.1 ∙ ap Some alike.0))
    (λ x. inr ((λ y. x.0 (alike.1.1 y)), answers_alike rs qs (alike.2 x.0) answer x.1))
    h

-- after the same rules
pub alike_behind : (rows rs qs : List Rule) → Alike rs qs → Alike (rows ++ rs) (rows ++ qs)
alike_behind [] rs qs alike = alike
alike_behind (r ∷ rows) rs qs alike = (refl, ((λ x. x), (λ x. x)), λ none. alike_behind rows rs qs alike)
