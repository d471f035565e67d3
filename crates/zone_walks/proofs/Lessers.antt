-- The order of a kind, and the lesser of two bounds.
use Rattle.std.proofs.Common.{◌≡◌, ℕ, ◌≤◌, true, false, ◌⊎◌, sym, ◌∙◌, subst, inl, inr, ⊎_elim}
use Rattle.std.proofs.lemmas.Bool.{cases_Bool, cond-true, cond-false, cond_both, false≢true}
use Rattle.bounds.specs.Kinds.{Kind}
use Rattle.zone_walks.specs.Walks.{lesser}

module _ {B : Type 0} (kind : Kind B) where
  pub at_most_same : (a : B) → kind.at_most a a ≡ true
  at_most_same a = ⊎_elim (λ h. h) (λ h. h) (kind.total a a)

  pub at_most_equal : (a b : B) → a ≡ b → kind.at_most a b ≡ true
  at_most_equal a b e = subst (λ c. kind.at_most a c ≡ true) e (at_most_same a)

  -- what is not at most is above
  pub above : (a b : B) → kind.at_most a b ≡ false → kind.at_most b a ≡ true
  above a b e = ⊎_elim (λ h. absurd (false≢true (sym e ∙ h))) (λ h. h) (kind.total a b)

  -- a bound below one that is below zero is below zero
  pub below_false : (z a b : B) → kind.at_most a b ≡ true → kind.at_most z b ≡ false → kind.at_most z a ≡ false
  below_false z a b le e =
      ⊎_elim (λ h. absurd (false≢true (sym e ∙ kind.transitive z a b h le))) (λ h. h) (cases_Bool (kind.at_most z a))

  pub lesser_cases : (a b : B) → (lesser kind a b ≡ a) ⊎ (lesser kind a b ≡ b)
  lesser_cases a b = ⊎_elim (λ h. inl (cond-true (kind.at_most a b) a b h)) (λ h. inr (cond-false (kind.at_most a b) a b h)) (cases_Bool (kind.at_most a b))

  pub lesser_left : (a b : B) → kind.at_most (lesser kind a b) a ≡ true
  lesser_left a b = cond_both (kind.at_most a b) a b (λ c. kind.at_most c a ≡ true) (λ h. at_most_same a) (λ h. above a b h)

  pub lesser_right : (a b : B) → kind.at_most (lesser kind a b) b ≡ true
  lesser_right a b = cond_both (kind.at_most a b) a b (λ c. kind.at_most c b ≡ true) (λ h. h) (λ h. at_most_same b)

  pub lesser_greatest : (a b c : B) → kind.at_most c a ≡ true → kind.at_most c b ≡ true → kind.at_most c (lesser kind a b) ≡ true
  lesser_greatest a b c h k = cond_both (kind.at_most a b) a b (λ d. kind.at_most c d ≡ true) (λ _. h) (λ _. k)

  pub lesser_size : (a b : B) (s : ℕ) → kind.size a ≤ s → kind.size b ≤ s → kind.size (lesser kind a b) ≤ s
  lesser_size a b s h k = cond_both (kind.at_most a b) a b (λ d. kind.size d ≤ s) (λ _. h) (λ _. k)

  pub lesser_is_left : (a b : B) → kind.at_most a b ≡ true → lesser kind a b ≡ a
  lesser_is_left a b h = cond-true (kind.at_most a b) a b h

  pub lesser_is_right : (a b : B) → kind.at_most b a ≡ true → lesser kind a b ≡ b
  lesser_is_right a b h = kind.antisymmetric (lesser kind a b) b (lesser_right a b) (lesser_greatest a b b h (at_most_same b))
