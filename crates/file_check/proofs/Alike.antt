-- What a slice holds that was filled by one closure.
use Rattle.std.proofs.Common.{◌≡◌, List, [], ◌∷◌, length, replicate, refl, ap, ◌∙◌}
use Rattle.std.specs.List.{FoldsTo}

pub all_alike : {F B : Type 0} (R : F → B → F → Type 0) (b : B) → ((f : F) (x : B) (g : F) → R f x g → x ≡ b) → (f : F) (xs : List B) (last : F) → FoldsTo R f xs last → xs ≡ replicate (length xs) b
all_alike R b alike f [] last ran = refl
all_alike R b alike f (x ∷ xs) last ran = ap (λ y. y ∷ xs) (alike f x ran.0 ran.1) ∙ ap (λ ys. b ∷ ys) (all_alike R b alike ran.0 xs last ran.2)
