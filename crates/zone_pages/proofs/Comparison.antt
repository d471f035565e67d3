-- A pairing that lacks nothing is one by which the page's zone vouches for the zone asked for, and the other way round.
use Rattle.std.proofs.Common.{◌≡◌, ℕ, suc, ◌+◌, ◌<◌, Bool, true, false, not, eqb, ltb, List, [], ◌∷◌, map, length, get_or, take, sym, refl, ap, ◌∙◌, subst, ⊎_elim, arith}
use Rattle.std.proofs.lemmas.List.Folds.{list_any_at, list_any_none}
use Rattle.std.proofs.lemmas.List.FromFn.{length-range_with_len, get_or-range_with_len}
use Rattle.std.specs.List.{list_any, range_with_len}
use Rattle.std.proofs.lemmas.List.{ext_get_or, get_or-map, get_or-take, length-map, length-take-le}
use Rattle.std.proofs.lemmas.Bool.{cases_eq, or_from, or_parts, and_left, and_right, and_cases, eqb-true, eqb-false, eq-eqb, ne_eqb, ltb-false, le-ltb, not-false, not_from_true, both_ways}
use Rattle.bounds.specs.Kinds.{Kind}
use Rattle.nets.specs.Nets.{Every, numbered}
use Rattle.zones.specs.Predecessors.{among}
use Rattle.zones.specs.Vouching.{Vouches, Partner, Distinct, partner}
use Rattle.zones.specs.Zones.{Zone}
use Rattle.zone_walks.specs.Walks.{Matrix}
use Rattle.zones.proofs.Chosen.{every_getD, distinct_apart, getD_among}
use Rattle.zone_pages.specs.Comparison.{no_partner, partner_taken, partner_unsound, partners_unsound, place_differs, places_differ, exceeds, exceeds_in_row, bound_exceeds}

-- ---- a search among the numbers below n
pub none_at : (n i : ℕ) (p : ℕ → Bool) → i < n → list_any p (range_with_len 0 n) ≡ false → p i ≡ false
none_at n i p h e = by (p i) refl
  where
    there : get_or (range_with_len 0 n) i 0 ≡ i
    there = get_or-range_with_len 0 n i 0 h ∙ omega arith

    by : (t : Bool) → p i ≡ t → t ≡ false
    by true here = sym (list_any_at p (range_with_len 0 n) i 0 (omega (arith, length-range_with_len 0 n, h)) (ap p there ∙ here)) ∙ e
    by false here = refl

pub none_below : (n : ℕ) (p : ℕ → Bool) → ((i : ℕ) → i < n → p i ≡ false) → list_any p (range_with_len 0 n) ≡ false
none_below n p h = list_any_none p (range_with_len 0 n) (λ i d l.
    let few : i < n = omega (arith, length-range_with_len 0 n, l) in
    ap p (get_or-range_with_len 0 n i d few ∙ omega arith) ∙ h i few)

-- ---- partners
every_from : (P : ℕ → Type 0) (ps : List ℕ) → ((j : ℕ) → j < length ps → P (get_or ps j 0)) → Every P ps
every_from P [] h = tt
every_from P (p ∷ ps) h = (h 0 (omega arith), every_from P ps (λ j l. h (suc j) (omega arith)))

absent_from : (p : ℕ) (ps : List ℕ) → ((j : ℕ) → j < length ps → p ≡ get_or ps j 0 → ⊥) → among p ps ≡ false
absent_from p [] h = refl
absent_from p (q ∷ ps) h = or_from (eqb p q) (among p ps) (ne_eqb p q (h 0 (omega arith))) (absent_from p ps (λ j l. h (suc j) (omega arith)))

-- two tokens have two partners
distinct_from : (ps : List ℕ) → ((i k : ℕ) → i < k → k < length ps → get_or ps i 0 ≡ get_or ps k 0 → ⊥) → Distinct ps
distinct_from [] h = tt
distinct_from (p ∷ ps) h =
    (absent_from p ps (λ j l. h 0 (suc j) (omega arith) (omega arith)), distinct_from ps (λ i k l m. h (suc i) (suc k) (omega arith) (omega arith)))

partner_from : (count p : ℕ) → no_partner count p ≡ false → Partner count p
partner_from count p e =
    let parts = or_parts (eqb p 0) (ltb count p) e in
    record { some = omega (arith, eqb-false p 0 parts.0); few = ltb-false count p parts.1 }

partner_back : (count p : ℕ) → Partner count p → no_partner count p ≡ false
partner_back count p h = or_from (eqb p 0) (ltb count p) (ne_eqb p 0 (λ e. omega (arith, h.some))) (le-ltb count p h.few)

module _ (count : ℕ) (pairing : List ℕ) where
  sound_at : list_any (partner_unsound count pairing) (range_with_len 0 (length pairing)) ≡ false → (k : ℕ) → k < length pairing → (no_partner count (get_or pairing k 0) ≡ false) × (partner_taken pairing k ≡ false)
  sound_at none k l = or_parts (no_partner count (get_or pairing k 0)) (partner_taken pairing k) (none_at (length pairing) k (partner_unsound count pairing) l none)

  every_partner : list_any (partner_unsound count pairing) (range_with_len 0 (length pairing)) ≡ false → Every (Partner count) pairing
  every_partner none = every_from (Partner count) pairing (λ j l. partner_from count (get_or pairing j 0) (sound_at none j l).0)

  distinct_partners : list_any (partner_unsound count pairing) (range_with_len 0 (length pairing)) ≡ false → Distinct pairing
  distinct_partners none =
      distinct_from pairing (λ i k l m same.
      let earlier = take k pairing in
      let here : get_or earlier i 0 ≡ get_or pairing i 0 = get_or-take k pairing i 0 l in
      let long : length earlier ≡ k = length-take-le k pairing (omega (arith, m)) in
      both_ways (among (get_or pairing k 0) earlier) (sound_at none k m).1 (ap (λ p. among p earlier) (sym (here ∙ same)) ∙ getD_among earlier i (omega (arith, long, l))))

  none_unsound : Every (Partner count) pairing → Distinct pairing → list_any (partner_unsound count pairing) (range_with_len 0 (length pairing)) ≡ false
  none_unsound every distinct =
      none_below (length pairing) (partner_unsound count pairing) (λ k l.
      or_from (no_partner count (get_or pairing k 0)) (partner_taken pairing k)
      (partner_back count (get_or pairing k 0) (every_getD (Partner count) pairing every k l))
      (absent_from (get_or pairing k 0) (take k pairing) (λ i m same.
      let early : i < k = omega (arith, m, length-take-le k pairing (omega (arith, l))) in
      distinct_apart pairing distinct i k (omega (arith, early, l)) l (λ e. omega (arith, early, e)) (sym (same ∙ get_or-take k pairing i 0 early)))))

-- ---- places
module _ (page_places asked_places pairing : List ℕ) where
  same_places : length pairing ≡ length page_places → places_differ page_places asked_places pairing ≡ false → map (λ p. numbered asked_places p 0) pairing ≡ page_places
  same_places count none =
      ext_get_or 0 (map (λ p. numbered asked_places p 0) pairing) page_places (length-map pairing (λ p. numbered asked_places p 0) ∙ count) (λ i l.
      let h : i < length pairing = subst (λ n. i < n) (length-map pairing (λ p. numbered asked_places p 0)) l in
      get_or-map (λ p. numbered asked_places p 0) pairing i 0 0 h
      ∙ eqb-true (numbered asked_places (get_or pairing i 0) 0) (get_or page_places i 0) (not-false _ (none_at (length pairing) i (place_differs page_places asked_places pairing) h none)))

  none_differ : map (λ p. numbered asked_places p 0) pairing ≡ page_places → places_differ page_places asked_places pairing ≡ false
  none_differ same =
      none_below (length pairing) (place_differs page_places asked_places pairing) (λ k l.
      not_from_true _ (eq-eqb (numbered asked_places (get_or pairing k 0) 0) (get_or page_places k 0) (sym (get_or-map (λ p. numbered asked_places p 0) pairing k 0 0 l) ∙ ap (λ ps. get_or ps k 0) same)))

-- ---- bounds
module _ {B : Type 0} (kind : Kind B) (page asked : Matrix B) (pairing : List ℕ) where
  within : bound_exceeds kind page asked pairing ≡ false → (j i : ℕ) → j < length pairing + 1 → i < length pairing + 1 → (j ≡ i → ⊥) → kind.at_most (asked (partner pairing j) (partner pairing i)) (page j i) ≡ true
  within none j i p q apart =
      let row = none_at ((length pairing + 1)) j (exceeds_in_row kind page asked pairing) p none in
      let here = none_at ((length pairing + 1)) i (exceeds kind page asked pairing j) q row in
      ⊎_elim
      (λ e. absurd (both_ways (eqb j i) (ne_eqb j i apart) (not-false (eqb j i) e)))
      (λ e. not-false _ e)
      (and_cases (not (eqb j i)) _ here)

  none_exceeds : ((j i : ℕ) → j < length pairing + 1 → i < length pairing + 1 → (j ≡ i → ⊥) → kind.at_most (asked (partner pairing j) (partner pairing i)) (page j i) ≡ true) → bound_exceeds kind page asked pairing ≡ false
  none_exceeds h =
      none_below ((length pairing + 1)) (exceeds_in_row kind page asked pairing) (λ j p.
      none_below ((length pairing + 1)) (exceeds kind page asked pairing j) (λ i q.
      ⊎_elim
      (λ same. and_left (not (eqb j i)) _ (not_from_true (eqb j i) (eq-eqb j i same)))
      (λ apart. and_right (not (eqb j i)) _ (not_from_true _ (h j i p q apart)))
      (cases_eq j i)))

-- ---- the whole comparison
module _ {B : Type 0} (kind : Kind B) (page asked : Zone B) (pairing : List ℕ) where
  pub vouches_from : partners_unsound page.places asked.places pairing ≡ false → places_differ page.places asked.places pairing ≡ false → bound_exceeds kind page.bound asked.bound pairing ≡ false → Vouches kind page asked pairing
  vouches_from partners places bounds =
      let parts = or_parts (not (eqb (length pairing) (length page.places))) (list_any (partner_unsound (length asked.places) pairing) (range_with_len 0 (length pairing))) partners in
      let count : length pairing ≡ length page.places = eqb-true (length pairing) (length page.places) (not-false _ parts.0) in
      record {
        count = count;
        partners = every_partner (length asked.places) pairing parts.1;
        distinct = distinct_partners (length asked.places) pairing parts.1;
        places = same_places page.places asked.places pairing count places;
        bounds = λ j i p q apart. within kind page.bound asked.bound pairing bounds j i (omega (arith, count)) (omega (arith, count)) apart;
      }

  pub none_lacks : Vouches kind page asked pairing → (partners_unsound page.places asked.places pairing ≡ false) × (places_differ page.places asked.places pairing ≡ false) × (bound_exceeds kind page.bound asked.bound pairing ≡ false)
  none_lacks v =
      let count : length pairing ≡ length page.places = v.count in (
        or_from (not (eqb (length pairing) (length page.places))) (list_any (partner_unsound (length asked.places) pairing) (range_with_len 0 (length pairing)))
            (not_from_true _ (eq-eqb (length pairing) (length page.places) count))
            (none_unsound (length asked.places) pairing v.partners v.distinct),
        none_differ page.places asked.places pairing v.places,
        none_exceeds kind page.bound asked.bound pairing (λ j i p q apart. v.bounds j i (omega (arith, count)) (omega (arith, count)) apart),
      )
