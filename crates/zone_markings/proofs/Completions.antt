-- The search finds a pairing exactly where there is one.
use Rattle.std.proofs.Common.{◌≡◌, ℕ, suc, ◌+◌, ◌<◌, ◌≤◌, true, not, eqb, List, [], ◌∷◌, ◌++◌, map, length, get_or, sym, refl, ap, ◌∙◌, subst, ap₂, ⊎_elim, arith}
use Rattle.std.proofs.lemmas.Bool.{cases_lt, eqb-true, eq-eqb, and_parts, and_from, not-true, not_from_false}
use Rattle.std.proofs.lemmas.List.{append-nil, append_assoc, length-append, get_or_append_left}
use Rattle.zone_markings.specs.Pairings.{Search, allows_both, number_fits, follows, extends}
use Rattle.zone_markings.proofs.Numbers.{at_end, distinct_more, fresh, some_passing, passing_some, all_zipped, zipped_all}
use Rattle.nets.specs.Nets.{Every}
use Rattle.zones.specs.Predecessors.{among}
use Rattle.zones.specs.Vouching.{Distinct, Partner}

heads : (x y : ℕ) (xs ys : List ℕ) → x ∷ xs ≡ y ∷ ys → x ≡ y
heads x y xs ys e = cc

tails : (x y : ℕ) (xs ys : List ℕ) → x ∷ xs ≡ y ∷ ys → xs ≡ ys
tails x y xs ys e = cc

no_cons : (y : ℕ) (ys : List ℕ) → [] ≡ y ∷ ys → ⊥
no_cons y ys e = let z : ◌≡◌ {A = ℕ} 0 1 = cc in absurd (omega arith)

module _ (s : Search) where
  -- two points may have these numbers
  abbrev pub Meets : ℕ → ℕ → ℕ → ℕ → Type 0
  Meets j i a b = s.allows j i a b ≡ true

  -- any two points may have the numbers that they have
  abbrev pub Meet : List ℕ → Type 0
  Meet ps = (j i : ℕ) → j < length ps → i < length ps → (j ≡ i → ⊥) → Meets j i (get_or ps j 0) (get_or ps i 0)

  -- numbers for tokens in these places, after those that are chosen
  pub record Completion (chosen places : List ℕ) : Type 0 where
    pub more : List ℕ
    pub standing : map s.place more ≡ places
    pub partners : Every (Partner (s.count)) more
    pub distinct : Distinct (chosen ++ more)
    pub meet : Meet (chosen ++ more)

  meets_at : (j k i l a b x y : ℕ) → j ≡ k → i ≡ l → a ≡ b → x ≡ y → Meets k l b y → Meets j i a x
  meets_at j k i l a b x y e f g h w =
      subst (λ n. Meets n i a x) (sym e) (subst (λ n. Meets k n a x) (sym f) (subst (λ n. Meets k l n x) (sym g) (subst (λ n. Meets k l b n) (sym h) w)))

  -- ---- one more number
  meet_more : (chosen : List ℕ) (t : ℕ) → Meet chosen → ((j : ℕ) → j < length chosen → Meets (length chosen) j t (get_or chosen j 0) × Meets j (length chosen) (get_or chosen j 0) t) → Meet (chosen ++ t ∷ [])
  meet_more chosen t given new j i p q apart =
      ⊎_elim (λ early. ⊎_elim (both early) (j_early early) (cases_lt i (length chosen))) (λ late. ⊎_elim (i_early late) (λ l. absurd (apart (ends j p late ∙ sym (ends i q l)))) (cases_lt i (length chosen))) (cases_lt j (length chosen))
    where
      old : (l : ℕ) → l < length chosen → get_or (chosen ++ t ∷ []) l 0 ≡ get_or chosen l 0
      old l h = get_or_append_left chosen (t ∷ []) 0 l h

      ends : (l : ℕ) → l < length (chosen ++ t ∷ []) → length chosen ≤ l → l ≡ length chosen
      ends l h late = omega (arith, h, late, length-append chosen (t ∷ []))

      last : (l : ℕ) → l ≡ length chosen → get_or (chosen ++ t ∷ []) l 0 ≡ t
      last l e = ap (λ n. get_or (chosen ++ t ∷ []) n 0) e ∙ at_end chosen t []

      both : j < length chosen → i < length chosen → Meets j i (get_or (chosen ++ t ∷ []) j 0) (get_or (chosen ++ t ∷ []) i 0)
      both h l = meets_at j j i i _ _ _ _ refl refl (old j h) (old i l) (given j i h l apart)

      j_early : j < length chosen → length chosen ≤ i → Meets j i (get_or (chosen ++ t ∷ []) j 0) (get_or (chosen ++ t ∷ []) i 0)
      j_early h l = let e = ends i q l in meets_at j j i (length chosen) _ _ _ _ refl e (old j h) (last i e) (new j h).1

      i_early : length chosen ≤ j → i < length chosen → Meets j i (get_or (chosen ++ t ∷ []) j 0) (get_or (chosen ++ t ∷ []) i 0)
      i_early h l = let e = ends j p h in meets_at j (length chosen) i i _ _ _ _ e refl (last j e) (old i l) (new i l).0

  -- ---- what the search finds
  pub finds : (places chosen : List ℕ) → extends s chosen places ≡ true → Distinct chosen → Meet chosen → Completion chosen places
  finds [] chosen h dist meet =
      let same = sym (append-nil chosen) in
      record { more = []; standing = refl; partners = tt; distinct = subst Distinct same dist; meet = subst Meet same meet }
  finds (place ∷ places) chosen h dist meet =
      let found = some_passing (follows s chosen place (λ ps. extends s ps places)) 1 (s.count) h in
      let t = found.number in
      let parts = and_parts (number_fits s chosen place t) (extends s (chosen ++ t ∷ []) places) found.passes in
      let fit = and_parts (not (among t chosen)) _ parts.0 in
      let stand = and_parts (eqb (s.place t) place) _ fit.1 in
      let met : (j : ℕ) → j < length chosen → Meets (length chosen) j t (get_or chosen j 0) × Meets j (length chosen) (get_or chosen j 0) t =
      λ j below. and_parts _ _ (all_zipped (allows_both s (length chosen) t) 0 chosen stand.1 j j (omega arith) below) in
      let rest = finds places (chosen ++ t ∷ []) parts.1 (distinct_more chosen t dist (not-true (among t chosen) fit.0)) (meet_more chosen t meet met) in
      let same = append_assoc chosen (t ∷ []) rest.more in
      record {
        more = t ∷ rest.more;
        standing = ap₂ (λ x xs. x ∷ xs) (eqb-true (s.place t) place stand.0) rest.standing;
        partners = (record { some = found.low; few = omega (arith, found.high) }, rest.partners);
        distinct = subst Distinct same rest.distinct;
        meet = subst Meet same rest.meet;
      }

  -- ---- what there is, it finds
  fits_first : (chosen : List ℕ) (place t : ℕ) (more : List ℕ) → s.place t ≡ place → Distinct (chosen ++ t ∷ more) → Meet (chosen ++ t ∷ more) → number_fits s chosen place t ≡ true
  fits_first chosen place t more stand dist meet =
      and_from (not (among t chosen)) _ (not_from_false (among t chosen) (fresh chosen t more dist)) (and_from (eqb (s.place t) place) _ (eq-eqb (s.place t) place stand) (zipped_all (allows_both s (length chosen) t) 0 chosen (λ j at e h. subst (λ n. allows_both s (length chosen) t (n, get_or chosen j 0) ≡ true) {x = j} {y = at} (omega (arith, e)) (both j h))))
    where
      size : length (chosen ++ t ∷ more) ≡ length chosen + suc (length more)
      size = length-append chosen (t ∷ more)

      old : (j : ℕ) → j < length chosen → get_or chosen j 0 ≡ get_or (chosen ++ t ∷ more) j 0
      old j h = sym (get_or_append_left chosen (t ∷ more) 0 j h)

      both : (j : ℕ) → j < length chosen → allows_both s (length chosen) t (j, get_or chosen j 0) ≡ true
      both j h =
          let next = sym (at_end chosen t more) in
          let first = meet (length chosen) j (omega (arith, size)) (omega (arith, size, h)) (λ e. omega (arith, e, h)) in
          let second = meet j (length chosen) (omega (arith, size, h)) (omega (arith, size)) (λ e. omega (arith, e, h)) in
          and_from _ _ (meets_at (length chosen) (length chosen) j j _ _ _ _ refl refl next (old j h) first) (meets_at j j (length chosen) (length chosen) _ _ _ _ refl refl (old j h) next second)

  pub found : (places chosen more : List ℕ) → map s.place more ≡ places → Every (Partner (s.count)) more → Distinct (chosen ++ more) → Meet (chosen ++ more) → extends s chosen places ≡ true
  found [] chosen more standing partners dist meet = refl
  found (place ∷ places) chosen [] standing partners dist meet = absurd (no_cons place places standing)
  found (place ∷ places) chosen (t ∷ more) standing partners dist meet =
      let same = sym (append_assoc chosen (t ∷ []) more) in
      let first = fits_first chosen place t more (heads _ place _ places standing) dist meet in
      let rest = found places (chosen ++ t ∷ []) more (tails _ place _ places standing) partners.1 (subst Distinct same dist) (subst Meet same meet) in
      let few = partners.0.few in
      passing_some (follows s chosen place (λ ps. extends s ps places)) 1 (s.count) t partners.0.some (omega (arith, few)) (and_from (number_fits s chosen place t) _ first rest)
