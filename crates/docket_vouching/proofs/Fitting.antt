-- A row that fits has no bound that exceeds the page's.
use Rattle.std.proofs.Common.{◌≡◌, ℕ, zero, suc, ◌+◌, ◌<◌, ◌≤◌, ◌⊎◌, Bool, true, false, not, ◌&&◌, ◌||◌, cond, eqb, ltb, List, [], ◌∷◌, length, get_or, take, sym, refl, ap, ◌∙◌, subst, inl, inr, ⊎_elim, arith}
use Rattle.std.proofs.lemmas.Bool.{and_from, and_parts, cases_Bool, cond-false, cond-true, cond_both, eq-eqb, eqb-false, eqb-true, lt-ltb, ne_eqb, not-true, or_cases, or_parts, both_ways}
use Rattle.std.proofs.lemmas.List.{get_or-take, length-take-le}
use Rattle.bounds.specs.Kinds.{Kind}
use Rattle.zones.proofs.Chosen.{getD_among}
use Rattle.zones.specs.Predecessors.{among}
use Rattle.zones.specs.Vouching.{partner}
use Rattle.zone_walks.specs.Walks.{Matrix, lesser}
use Rattle.zone_walks.proofs.Lessers.{lesser_left, lesser_right}
use Rattle.zone_closed_forms.specs.ClosedForms.{ClockRows, by_clock, kept_closed}
use Rattle.zone_pages.specs.Comparison.{exceeds, exceeds_in_row, no_partner, partner_taken, partner_unsound, partners_unsound}
use Rattle.zone_pages.proofs.Comparison.{none_at, none_below}
use Rattle.docket_vouching.specs.Fits.{AddedRowFits, ClockRowFits, KeptAt, KeptRowFits, PointsAt, TokenRowFits, own_fits, way_fits}

-- ---- no two points have one partner
module _ (page_places asked_places pairing : List ℕ) (sound : partners_unsound page_places asked_places pairing ≡ false) where
  sound_at : (k : ℕ) → k < length pairing → (no_partner (length asked_places) (get_or pairing k 0) ≡ false) × (partner_taken pairing k ≡ false)
  sound_at k l =
      or_parts (no_partner (length asked_places) (get_or pairing k 0)) (partner_taken pairing k)
      (none_at (length pairing) k (partner_unsound (length asked_places) pairing) l (or_parts (not (eqb (length pairing) (length page_places))) _ sound).1)

  some : (k : ℕ) → k < length pairing → get_or pairing k 0 ≡ 0 → ⊥
  some k l = eqb-false (get_or pairing k 0) 0 (or_parts (eqb (get_or pairing k 0) 0) _ (sound_at k l).0).0

  later : (i k : ℕ) → i < k → k < length pairing → get_or pairing k 0 ≡ get_or pairing i 0 → ⊥
  later i k l m same =
      let earlier : List ℕ = take k pairing in
      let here : get_or earlier i 0 ≡ get_or pairing i 0 = get_or-take k pairing i 0 l in
      let long : length earlier ≡ k = length-take-le k pairing (omega (arith, m)) in
      both_ways (among (get_or pairing k 0) earlier) (sound_at k m).1 (ap (λ p. among p earlier) (same ∙ sym here) ∙ getD_among earlier i (omega (arith, long, l)))

  pub apart : (j i : ℕ) → j < length pairing + 1 → i < length pairing + 1 → (j ≡ i → ⊥) → partner pairing j ≡ partner pairing i → ⊥
  apart zero zero p q ne same = ne refl
  apart zero (suc i) p q ne same = some i (omega (arith, q)) (sym same)
  apart (suc j) zero p q ne same = some j (omega (arith, p)) same
  apart (suc j) (suc i) p q ne same =
      ⊎_elim (λ l. later j i l (omega (arith, q)) (sym same)) (λ l. later i j l (omega (arith, p)) same) (which j i (λ e. ne (ap suc e)))
    where
      which : (j i : ℕ) → (j ≡ i → ⊥) → (j < i) ⊎ (i < j)
      which zero zero h = absurd (h refl)
      which zero (suc i) h = inl (omega arith)
      which (suc j) zero h = inr (omega arith)
      which (suc j) (suc i) h = ⊎_elim (λ l. inl (omega (arith, l))) (λ l. inr (omega (arith, l))) (which j i (λ e. h (ap suc e)))

-- what past the end reads as 0 is
inside : (xs : List ℕ) (p : ℕ) → (get_or xs p 0 ≡ 0 → ⊥) → p < length xs
inside [] p h = absurd (h refl)
inside (x ∷ xs) zero h = omega arith
inside (x ∷ xs) (suc p) h = omega (arith, inside xs p h)

module _ {B : Type 0} (kind : Kind B) (page own : Matrix B) (rows : ClockRows B) (kept pairing points at : List ℕ) (few : length pairing ≤ 8) (is : PointsAt pairing points) (own_is : KeptAt kept points at) (differ : (j i : ℕ) → j < length pairing + 1 → i < length pairing + 1 → (j ≡ i → ⊥) → partner pairing j ≡ partner pairing i → ⊥) where
  abbrev asked : Matrix B
  asked = kept_closed kind own kept rows

  -- the lesser of two is no more than what one of them is no more than
  either : (t : Bool) (a w c : B) → (kind.at_most w c ≡ true) ⊎ ((t ≡ true) × (kind.at_most a c ≡ true)) → kind.at_most (cond t (lesser kind a w) w) c ≡ true
  either t a w c h =
      ⊎_elim
      (λ e. cond_both t (lesser kind a w) w (λ b. kind.at_most b c ≡ true) (λ _. kind.transitive _ w c (lesser_right kind a w) e) (λ _. e))
      (λ e. ap (λ b. kind.at_most b c) (cond-true t (lesser kind a w) w e.0) ∙ kind.transitive _ a c (lesser_left kind a w) e.1)
      h

  none_there : (j i : ℕ) → ((j ≡ i → ⊥) → kind.at_most (asked (partner pairing j) (partner pairing i)) (page j i) ≡ true) → exceeds kind page asked pairing j i ≡ false
  none_there j i h =
      ⊎_elim
      (λ e. ap (λ t. not t && not (kind.at_most (asked (partner pairing j) (partner pairing i)) (page j i))) e)
      (λ e. ap (λ t. not t && not (kind.at_most (asked (partner pairing j) (partner pairing i)) (page j i))) e ∙ ap not (h (eqb-false j i e)))
      (cases_Bool (eqb j i))

  module _ (fits : ClockRowFits kind page rows points) where
    clock_entry : (i : ℕ) → i < length pairing + 1 → (0 ≡ i → ⊥) → kind.at_most (asked 0 (partner pairing i)) (page 0 i) ≡ true
    clock_entry i q ne =
        ap (λ b. kind.at_most b (page 0 i)) (cond-false (eqb 0 (partner pairing i)) _ _ (ne_eqb 0 (partner pairing i) (differ 0 i (omega arith) q ne)))
        ∙ ap (λ p. kind.at_most (rows.low p) (page 0 i)) (sym (is i (omega (arith, q, few))))
        ∙ fits i (omega (arith, ne)) (omega (arith, q, few))

    pub clock_row : exceeds_in_row kind page asked pairing 0 ≡ false
    clock_row = none_below (length pairing + 1) (exceeds kind page asked pairing 0) (λ i q. none_there 0 i (clock_entry i q))

  module _ (j : ℕ) (p : j < length pairing + 1) (token : j ≡ 0 → ⊥) (fits : TokenRowFits kind page own rows points at j) where
    abbrev of : ℕ
    of = partner pairing j

    no_clock : eqb (partner pairing j) 0 ≡ false
    no_clock = ne_eqb (partner pairing j) 0 (differ j 0 p (omega arith) token)

    here : get_or points j 0 ≡ partner pairing j
    here = is j (omega (arith, p, few))

    up_entry : kind.at_most (asked (partner pairing j) 0) (page j 0) ≡ true
    up_entry =
        ap (λ b. kind.at_most b (page j 0)) (cond-false (eqb of 0) _ _ no_clock ∙ cond-false (eqb of 0) _ _ no_clock ∙ ap rows.up (sym here))
        ∙ fits.0

    module _ (i : ℕ) (q : i < length pairing + 1) (ne : j ≡ i → ⊥) (other : i ≡ 0 → ⊥) where
      abbrev to : ℕ
      to = partner pairing i

      abbrev both : Bool
      both = ltb of (length kept) && ltb to (length kept)

      there : get_or points i 0 ≡ partner pairing i
      there = is i (omega (arith, q, few))

      by_way : way_fits kind page rows points j i ≡ true → kind.at_most (by_clock kind rows of to) (page j i) ≡ true
      by_way h = ap (λ m. kind.at_most (by_clock kind rows m to) (page j i)) (sym here) ∙ ap (λ m. kind.at_most (by_clock kind rows (get_or points j 0) m) (page j i)) (sym there) ∙ h

      at_of : get_or at j 0 ≡ get_or kept of 0
      at_of = own_is j (omega (arith, p, few)) ∙ ap (λ m. get_or kept m 0) here

      at_to : get_or at i 0 ≡ get_or kept to 0
      at_to = own_is i (omega (arith, q, few)) ∙ ap (λ m. get_or kept m 0) there

      by_page : (not (eqb (get_or at j 0) 0) && own_fits kind page own at j i) ≡ true → (both ≡ true) × (kind.at_most (own (get_or kept of 0) (get_or kept to 0)) (page j i) ≡ true)
      by_page h =
          let one = and_parts (not (eqb (get_or at j 0) 0)) (own_fits kind page own at j i) h in
          let two = and_parts (not (eqb (get_or at i 0) 0)) (kind.at_most (own (get_or at j 0) (get_or at i 0)) (page j i)) one.1 in
          let first : ltb of (length kept) ≡ true = lt-ltb of (length kept) (inside kept of (λ e. both_ways (eqb (get_or at j 0) 0) (not-true _ one.0) (eq-eqb _ 0 (at_of ∙ e)))) in
          let second : ltb to (length kept) ≡ true = lt-ltb to (length kept) (inside kept to (λ e. both_ways (eqb (get_or at i 0) 0) (not-true _ two.0) (eq-eqb _ 0 (at_to ∙ e)))) in
          (and_from _ _ first second, ap (λ m. kind.at_most (own m (get_or kept to 0)) (page j i)) (sym at_of) ∙ ap (λ m. kind.at_most (own (get_or at j 0) m) (page j i)) (sym at_to) ∙ two.1)

      fitting : (kind.at_most (by_clock kind rows of to) (page j i) ≡ true) ⊎ ((both ≡ true) × (kind.at_most (own (get_or kept of 0) (get_or kept to 0)) (page j i) ≡ true))
      fitting =
          ⊎_elim
          (λ h. ⊎_elim (λ e. absurd (ne (sym (eqb-true i j e)))) (λ e. inl (by_way e)) (or_cases (eqb i j) (way_fits kind page rows points j i) h))
          (λ e. inr (by_page e))
          (or_cases (eqb i j || way_fits kind page rows points j i) (not (eqb (get_or at j 0) 0) && own_fits kind page own at j i) (fits.1 i (omega (arith, other)) (omega (arith, q, few))))

      token_entry : kind.at_most (asked of to) (page j i) ≡ true
      token_entry =
          ap (λ b. kind.at_most b (page j i)) (cond-false (eqb of to) _ _ (ne_eqb of to (differ j i p q ne)) ∙ cond-false (eqb of 0) _ _ no_clock ∙ cond-false (eqb to 0) _ _ (ne_eqb to 0 (differ i 0 q (omega arith) other)))
          ∙ either both (own (get_or kept of 0) (get_or kept to 0)) (by_clock kind rows of to) (page j i) fitting

    any_entry : (i : ℕ) → i < length pairing + 1 → (j ≡ i → ⊥) → kind.at_most (asked of (partner pairing i)) (page j i) ≡ true
    any_entry zero q ne = up_entry
    any_entry (suc i) q ne = token_entry (suc i) q ne (λ e. omega arith)

    pub token_row : exceeds_in_row kind page asked pairing j ≡ false
    token_row = none_below (length pairing + 1) (exceeds kind page asked pairing j) (λ i q. none_there j i (any_entry i q))

-- ---- rows from the first on
pub first_row : (f : ℕ → Bool) → f 0 ≡ false → (k : ℕ) → k < 1 → f k ≡ false
first_row f h zero l = h
first_row f h (suc k) l = absurd (omega (arith, l))

pub next_row : (f : ℕ → Bool) (j : ℕ) → ((k : ℕ) → k < j → f k ≡ false) → f j ≡ false → (k : ℕ) → k < j + 1 → f k ≡ false
next_row f j below h k l = ⊎_elim (λ e. subst (λ n. f n ≡ false) (sym (eqb-true k j e)) h) (λ e. below k (omega (arith, l, eqb-false k j e))) (cases_Bool (eqb k j))

-- ---- a row of one shape
added_entry : (x y : Bool) → x ≡ true → (x || y) ≡ true
added_entry true y h = refl
added_entry false y h = absurd (both_ways false refl h)

kept_entry : (e w n o : Bool) → n ≡ true → (w || o) ≡ true → ((e || w) || (n && o)) ≡ true
kept_entry true w n o is h = refl
kept_entry false true n o is h = refl
kept_entry false false n o is h = ap (λ t. t && o) is ∙ h

module _ {B : Type 0} (kind : Kind B) (page own : Matrix B) (rows : ClockRows B) (points kept : List ℕ) (j : ℕ) where
  pub from_added : AddedRowFits kind page rows points j → TokenRowFits kind page own rows points kept j
  from_added h = (h.0, λ i p q. added_entry (eqb i j || way_fits kind page rows points j i) (not (eqb (get_or kept j 0) 0) && own_fits kind page own kept j i) (h.1 i p q))

  pub from_kept : (get_or kept j 0 ≡ 0 → ⊥) → KeptRowFits kind page own rows points kept j → TokenRowFits kind page own rows points kept j
  from_kept some h = (h.0, λ i p q. kept_entry (eqb i j) (way_fits kind page rows points j i) (not (eqb (get_or kept j 0) 0)) (own_fits kind page own kept j i) (ap not (ne_eqb (get_or kept j 0) 0 some)) (h.1 i p q))
