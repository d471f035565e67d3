-- What a zone record without a fault is like.
use Rattle.std.proofs.Common.{◌≡◌, ℕ, ◌+◌, ◌-◌, ◌<◌, ◌≤◌, Bool, true, false, not, ◌&&◌, eqb, leb, List, length, take, None, sym, refl, ap, ◌∙◌, ⊎_elim, arith, length-take}
use Rattle.std.specs.List.{list_any, range_with_len}
use Rattle.std.proofs.lemmas.List.Folds.{list_any_at}
use Rattle.std.proofs.lemmas.List.FromFn.{length-range_with_len, get_or-range_with_len}
use Rattle.std.proofs.lemmas.Bool.{and_cases, and_from, both_ways, eqb-true, leb-false, le-leb, ltb-false, ne_eqb, not-false, not_from_false}
use Rattle.net_records.proofs.Tables.{none_holds}
use Rattle.docket_records.specs.ZoneRecords.{apart, has_mark, is_present, mark_at, mark_under_plain, no_such_place, place_at, place_missing, some_bound, some_in_row, some_token, tokens_of, too_many, wrong_length, zone_fault, zone_rows}

pub record Clean (marks : Bool) (net_places : ℕ) (bytes : List ℕ) : Type 0 where
  pub size : length bytes ≡ 192
  pub few : tokens_of bytes ≤ 8
  pub places : (t : ℕ) → 1 ≤ t → t ≤ tokens_of bytes → place_at bytes t < net_places
  pub takes : (j i : ℕ) → j ≤ tokens_of bytes → i ≤ tokens_of bytes → (j ≡ i → ⊥) → mark_at bytes j i ≡ true → marks ≡ true

-- none of n numbers from the first on passes
none_from : (first n i : ℕ) (p : ℕ → Bool) → i < n → list_any p (range_with_len first n) ≡ false → p (first + i) ≡ false
none_from first n i p h e = by (p (first + i)) refl
  where
    by : (t : Bool) → p (first + i) ≡ t → t ≡ false
    by true here = sym (list_any_at p (range_with_len first n) i 0 (omega (arith, length-range_with_len first n, h)) (ap p (get_or-range_with_len first n i 0 h) ∙ here)) ∙ e
    by false here = refl

-- and counted from 0
pub none_at : (n i : ℕ) (p : ℕ → Bool) → i < n → list_any p (range_with_len 0 n) ≡ false → p i ≡ false
none_at n i p h e = let same : i ≡ 0 + i = omega arith in ap p same ∙ none_from 0 n i p h e

-- of a conjunction that fails, the second part where the first holds
second_fails : (x y : Bool) → (x && y) ≡ false → x ≡ true → y ≡ false
second_fails true y e h = e
second_fails false y e h = search

-- a record that is cut short has not its length
pub cut_short : (rest : List ℕ) → length rest < 192 → wrong_length (take 192 rest) ≡ true
cut_short rest h =
    not_from_false (eqb (length (take 192 rest)) 192)
    (ne_eqb (length (take 192 rest)) 192 (λ e. omega (arith, e, length-take 192 rest)))

module _ (marks : Bool) (net_places : ℕ) (bytes : List ℕ) where
  few_tokens : too_many bytes ≡ false → tokens_of bytes ≤ 8
  few_tokens e = ltb-false 8 (tokens_of bytes) e

  place_there : too_many bytes ≡ false → no_such_place net_places bytes ≡ false → (t : ℕ) → 1 ≤ t → t ≤ tokens_of bytes → place_at bytes t < net_places
  unfolding some_token
  place_there few e t low high =
      let here : 1 + (t - 1) ≡ t = omega arith in
      let none = ap (place_missing net_places bytes) (sym here) ∙ none_from 1 8 (t - 1) (place_missing net_places bytes) (omega (arith, few_tokens few)) e in
      leb-false net_places (place_at bytes t) (second_fails (leb t (tokens_of bytes)) (leb net_places (place_at bytes t)) none (le-leb t (tokens_of bytes) high))

  mark_taken : too_many bytes ≡ false → mark_under_plain marks bytes ≡ false → (j i : ℕ) → j ≤ tokens_of bytes → i ≤ tokens_of bytes → (j ≡ i → ⊥) → mark_at bytes j i ≡ true → marks ≡ true
  unfolding some_bound some_in_row
  mark_taken few e j i row column ne mark =
      ⊎_elim
      (λ h. not-false marks h)
      (λ h.
      let in_row = none_at 9 j (some_in_row (has_mark bytes)) (omega (arith, few_tokens few)) h in
      let here = none_at 9 i (apart (has_mark bytes) j) (omega (arith, few_tokens few)) in_row in
      let unmarked = second_fails (not (eqb j i)) (has_mark bytes j i) here (not_from_false (eqb j i) (ne_eqb j i ne)) in
      let present = and_from (leb j (tokens_of bytes)) (leb i (tokens_of bytes)) (le-leb j (tokens_of bytes) row) (le-leb i (tokens_of bytes) column) in
      absurd (both_ways (mark_at bytes j i) (second_fails (is_present bytes j i) (mark_at bytes j i) unmarked present) mark))
      (and_cases (not marks) (some_bound (has_mark bytes)) e)

  pub fault_free : zone_fault marks net_places bytes ≡ None → Clean marks net_places bytes
  fault_free e =
      let none = none_holds (zone_rows marks net_places bytes) e in
      record {
        size = eqb-true (length bytes) 192 (not-false (eqb (length bytes) 192) none.0);
        few = few_tokens none.1.1.0;
        places = place_there none.1.1.0 none.1.1.1.0;
        takes = mark_taken none.1.1.0 none.1.1.1.1.0;
      }
