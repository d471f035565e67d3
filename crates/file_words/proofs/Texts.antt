-- Texts that grow by one piece after the other.
use Rattle.std.proofs.Common.{◌≡◌, ℕ, suc, List, ◌++◌, ap, ◌∙◌, append_assoc}
use Rattle.file_words.specs.Tables.{below}

-- t is s with the texts below n after it
abbrev pub Grown : (ℕ → List ℕ) → ℕ → List ℕ → List ℕ → Type 0
Grown text n s t = t ≡ s ++ below text n

pub grown_all : (text : ℕ → List ℕ) (n k : ℕ) (s t : List ℕ) → n ≡ k → Grown text n s t → Grown text k s t
grown_all text n k s t e p = p ∙ ap (λ (m : ℕ). s ++ below text m) e

pub grown_more : (text : ℕ → List ℕ) (n k : ℕ) (s t u : List ℕ) → suc n ≡ k → Grown text n s t → u ≡ t ++ text n → Grown text k s u
grown_more text n k s t u e p q = q ∙ ap (λ (x : List ℕ). x ++ text n) p ∙ append_assoc s (below text n) (text n) ∙ ap (λ (m : ℕ). s ++ below text m) e

pub two_more : (s t u a b : List ℕ) → t ≡ s ++ a → u ≡ t ++ b → u ≡ s ++ (a ++ b)
two_more s t u a b p q = q ∙ (ap (λ (x : List ℕ). x ++ b) p ∙ append_assoc s a b)
