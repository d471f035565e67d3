-- Bounds between points, as ages meet them: what is counted, and what is not.
use Rattle.std.proofs.Common.{◌≡◌, ℕ, zero, suc, ◌<◌, ◌≤◌, true, false, cond, eqb, List, get_or, ℤ, pos, ◌-ℤ◌, sym, ap, ◌∙◌, subst, arith}
use borrow.Author.Differences.{ints}
use lib.Signed.{le_z}
use Rattle.std.proofs.lemmas.Bool.{cond_both, eqb-true, eqb-false, ne_eqb, cond-false}
use Rattle.bounds.specs.Kinds.{Kind}
use Rattle.nets.specs.Markings.{Token}
use Rattle.zone_walks.specs.Walks.{Matrix, lesser, counted, AgesAllowed}
use Rattle.zone_walks.proofs.Lessers.{at_most_same, lesser_left}
use Rattle.zones.specs.Zones.{age_of, no_token}

-- every bound between two points allows the difference of their ages
abbrev pub Between : {B : Type 0} → Kind B → ℕ → ℕ → Matrix B → (ℕ → ℤ) → Type 0
Between kind k n x age = (j i : ℕ) → j < n → i < n → (j ≡ i → ⊥) → kind.allows k (x j i) (age j -ℤ age i) ≡ true

pub counted_below : {B : Type 0} (kind : Kind B) (d : Matrix B) (j i : ℕ) → (j ≡ i → ⊥) → kind.at_most (counted kind d j i) (d j i) ≡ true
counted_below {B} kind d j i apart =
    let here : B = cond (eqb j 0) (lesser kind (d j i) kind.zero) (d j i) in
    subst (λ b. kind.at_most b (d j i) ≡ true) (sym (cond-false (eqb j i) kind.zero here (ne_eqb j i apart)))
    (cond_both (eqb j 0) _ _ (λ b. kind.at_most b (d j i) ≡ true) (λ _. lesser_left kind (d j i) kind.zero) (λ _. at_most_same kind (d j i)))

-- no age is below that of the clock
pub clock_first : (ts : List Token) (i : ℕ) → le_z (pos 0 -ℤ age_of ts i) (pos 0) ≡ true
clock_first ts zero = sym (omega (arith, ints))
clock_first ts (suc i) = let a = (get_or ts i no_token).age in let r : le_z (pos 0 -ℤ pos a) (pos 0) ≡ true = sym (omega (arith, ints)) in r

module _ {B : Type 0} (kind : Kind B) (k : ℕ) (grid : 1 ≤ k) where
  pub lesser_allows : (a b : B) (d : ℤ) → kind.allows k a d ≡ true → kind.allows k b d ≡ true → kind.allows k (lesser kind a b) d ≡ true
  lesser_allows a b d h l = cond_both (kind.at_most a b) a b (λ c. kind.allows k c d ≡ true) (λ _. h) (λ _. l)

  pub zero_allows : (d : ℤ) → le_z d (pos 0) ≡ true → kind.allows k kind.zero d ≡ true
  zero_allows d h = kind.zero_allows k d grid ∙ h

  pub from_counted : (n : ℕ) (d : Matrix B) (age : ℕ → ℤ) → AgesAllowed kind k n (counted kind d) age → Between kind k n d age
  from_counted n d age allowed j i p q apart = kind.larger_allows k (counted kind d j i) (d j i) _ grid (counted_below kind d j i apart) (allowed j i p q)

  pub from_allowed : (n : ℕ) (d : Matrix B) (age : ℕ → ℤ) → AgesAllowed kind k n d age → Between kind k n d age
  from_allowed n d age allowed j i p q apart = allowed j i p q

  pub to_counted : (n : ℕ) (d : Matrix B) (ts : List Token) → Between kind k n d (age_of ts) → AgesAllowed kind k n (counted kind d) (age_of ts)
  to_counted n d ts between j i p q = cond_both (eqb j i) kind.zero _ (λ b. kind.allows k b (age_of ts j -ℤ age_of ts i) ≡ true) same other
    where
      same : eqb j i ≡ true → kind.allows k kind.zero (age_of ts j -ℤ age_of ts i) ≡ true
      same e =
          let z : le_z (age_of ts i -ℤ age_of ts i) (pos 0) ≡ true = sym (omega (arith, ints)) in
          zero_allows _ (ap (λ l. le_z (age_of ts l -ℤ age_of ts i) (pos 0)) (eqb-true j i e) ∙ z)

      first : eqb j 0 ≡ true → le_z (age_of ts j -ℤ age_of ts i) (pos 0) ≡ true
      first e = ap (λ l. le_z (age_of ts l -ℤ age_of ts i) (pos 0)) (eqb-true j 0 e) ∙ clock_first ts i

      other : eqb j i ≡ false → kind.allows k (cond (eqb j 0) (lesser kind (d j i) kind.zero) (d j i)) (age_of ts j -ℤ age_of ts i) ≡ true
      other e =
          let h = between j i p q (eqb-false j i e) in
          cond_both (eqb j 0) _ _ (λ b. kind.allows k b (age_of ts j -ℤ age_of ts i) ≡ true) (λ z. lesser_allows (d j i) kind.zero _ h (zero_allows _ (first z))) (λ _. h)
