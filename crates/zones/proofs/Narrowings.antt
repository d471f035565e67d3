-- Which ages meet narrowed bounds, picked bounds, and bounds with tokens added.
use Rattle.std.proofs.Common.{◌≡◌, ℕ, zero, suc, ◌+◌, ◌≤◌, true, false, ◌&&◌, ◌||◌, eqb, ◌⊎◌, List, [], ◌∷◌, length, ℤ, pos, ◌-ℤ◌, neg_ℤ, ap, ◌∙◌, inl, inr, arith}
use borrow.Author.Differences.{ints}
use Rattle.std.proofs.lemmas.Bool.{cond_both, eqb-true, eqb-false, and_parts, or_parts}
use Rattle.bounds.specs.Kinds.{Kind}
use Rattle.bounds.specs.Ranges.{holds}
use Rattle.bounds.specs.declared.range.Range.{Range}
use Rattle.nets.specs.Nets.{Arc}
use Rattle.zone_walks.specs.Walks.{Matrix, AgesAllowed}
use Rattle.zones.specs.Predecessors.{narrowed, narrowed_by, with_token, with_tokens}
use Rattle.zones.proofs.Between.{Between, lesser_allows}
use Rattle.zones.proofs.Matchings.{Matched}

-- the ages of the tokens from point n on lie in the arcs' ranges
abbrev pub Aged : {B : Type 0} → Kind B → ℕ → (ℕ → ℤ) → ℕ → List (Arc B) → Type 0
Aged kind k age n [] = Unit {0}
Aged kind k age n (a ∷ arcs) = (holds kind k a.range (age n) ≡ true) × Aged kind k age (suc n) arcs

module _ {B : Type 0} (kind : Kind B) (k : ℕ) (grid : 1 ≤ k) (age : ℕ → ℤ) (clock : age 0 ≡ pos 0) where
  -- a range against the clock
  upper_allows : (range : Range B) (token j i : ℕ) → holds kind k range (age token) ≡ true → (eqb j token && eqb i 0) ≡ true → kind.allows k range.upper (age j -ℤ age i) ≡ true
  upper_allows range token j i held e =
      let parts = and_parts (eqb j token) (eqb i 0) e in
      let first : age j ≡ age token = ap age (eqb-true j token parts.0) in
      let last : age i ≡ pos 0 = ap age (eqb-true i 0 parts.1) ∙ clock in
      let same : age j -ℤ age i ≡ age token = omega (arith, ints) in
      ap (kind.allows k range.upper) same ∙ (and_parts (kind.allows k range.upper (age token)) _ held).0

  lower_allows : (range : Range B) (token j i : ℕ) → holds kind k range (age token) ≡ true → (eqb j 0 && eqb i token) ≡ true → kind.allows k range.lower (age j -ℤ age i) ≡ true
  lower_allows range token j i held e =
      let parts = and_parts (eqb j 0) (eqb i token) e in
      let first : age j ≡ pos 0 = ap age (eqb-true j 0 parts.0) ∙ clock in
      let last : age i ≡ age token = ap age (eqb-true i token parts.1) in
      let same : age j -ℤ age i ≡ neg_ℤ (age token) = omega (arith, ints) in
      ap (kind.allows k range.lower) same ∙ (and_parts (kind.allows k range.upper (age token)) _ held).1

  narrowed_allows : (n token : ℕ) (range : Range B) (x : Matrix B) → holds kind k range (age token) ≡ true → Between kind k n x age → Between kind k n (narrowed kind token range x) age
  narrowed_allows n token range x held between j i p q apart =
      let h = between j i p q apart in
      let d = age j -ℤ age i in
      cond_both (eqb j token && eqb i 0) _ _ (λ b. kind.allows k b d ≡ true)
      (λ e. lesser_allows kind k grid (x j i) range.upper d h (upper_allows range token j i held e))
      (λ _. cond_both (eqb j 0 && eqb i token) _ _ (λ b. kind.allows k b d ≡ true)
      (λ e. lesser_allows kind k grid (x j i) range.lower d h (lower_allows range token j i held e))
      (λ _. h))

  matched_holds : (range : Range B) (d : ℕ) → (suc d ≡ 0) ⊎ (holds kind k range (age (suc d)) ≡ true) → holds kind k range (age (suc d)) ≡ true
  matched_holds range d (inl e) = absurd (omega arith)
  matched_holds range d (inr h) = h

  pub narrowed_by_allows : (n : ℕ) (arcs : List (Arc B)) (ds : List ℕ) (x : Matrix B) → Matched kind k age arcs ds → Between kind k n x age → Between kind k n (narrowed_by kind arcs ds x) age
  narrowed_by_allows n [] ds x matched between = between
  narrowed_by_allows n (a ∷ arcs) [] x matched between = between
  narrowed_by_allows n (a ∷ arcs) (zero ∷ ds) x matched between = narrowed_by_allows n arcs ds x matched.1 between
  narrowed_by_allows n (a ∷ arcs) (suc d ∷ ds) x matched between =
      narrowed_by_allows n arcs ds (narrowed kind (suc d) a.range x) matched.1 (narrowed_allows n (suc d) a.range x (matched_holds a.range d matched.0) between)

  -- ---- tokens added
  with_token_allows : (n : ℕ) (range : Range B) (x : Matrix B) → holds kind k range (age n) ≡ true → AgesAllowed kind k n x age → AgesAllowed kind k (suc n) (with_token kind n range x) age
  with_token_allows n range x held allowed j i p q =
      let d = age j -ℤ age i in
      cond_both (eqb j n && eqb i 0) _ _ (λ b. kind.allows k b d ≡ true) (λ e. upper_allows range n j i held e)
      (λ _. cond_both (eqb j 0 && eqb i n) _ _ (λ b. kind.allows k b d ≡ true) (λ e. lower_allows range n j i held e)
      (λ _. cond_both (eqb j n || eqb i n) _ _ (λ b. kind.allows k b d ≡ true) (λ _. kind.no_limit_allows k d grid) old))
    where
      old : (eqb j n || eqb i n) ≡ false → kind.allows k (x j i) (age j -ℤ age i) ≡ true
      old e =
          let parts = or_parts (eqb j n) (eqb i n) e in
          let first = eqb-false j n parts.0 in
          let last = eqb-false i n parts.1 in
          allowed j i (omega arith) (omega arith)

  pub with_tokens_allows : (n : ℕ) (arcs : List (Arc B)) (x : Matrix B) → Aged kind k age n arcs → AgesAllowed kind k n x age → AgesAllowed kind k (n + length arcs) (with_tokens kind n arcs x) age
  with_tokens_allows n [] x aged allowed j i p q = allowed j i (omega arith) (omega arith)
  with_tokens_allows n (a ∷ arcs) x aged allowed j i p q =
      with_tokens_allows (suc n) arcs (with_token kind n a.range x) aged.1 (with_token_allows n a.range x aged.0 allowed) j i (omega arith) (omega arith)
