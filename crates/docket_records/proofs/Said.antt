-- What the tests and the reads of a record come to.
use Rattle.std.proofs.Common.{◌≡◌, ℕ, ◌+◌, ◌-◌, ◌*◌, ◌<◌, ◌≤◌, Bool, true, false, cond, not, ◌&&◌, ◌||◌, eqb, leb, ◌⊎◌, List, Ok, Err, Result, sym, ap, ◌∙◌, ⊎_elim, arith}
use Rattle.std.proofs.lemmas.Bool.{le-leb, lt-leb, and_left, and_right, and_from, cond-true, cond-false}
use Rattle.net_records.proofs.Fields.{field_join}
use Rattle.net_records.specs.Bits.{field}
use Rattle.docket_records.specs.Records.{placed}
use Rattle.docket_records.specs.DocketRecords.{initial_token, token_of, token_spare}
use Rattle.docket_records.specs.declared.fault.EntryRefusal.{EntryRefusal}
use Rattle.docket_records.specs.declared.token.InitialToken.{InitialToken}
use Rattle.docket_records.specs.ZoneRecords.{place_at, spare_set}

-- ---- a record that was read
pub placed_ok : {X : Type 0} (at : ℕ) (r : Result X EntryRefusal) (x : X) → placed at r ≡ Ok x → r ≡ Ok x
placed_ok at (Ok y) x e = let same : y ≡ x = cc in ap Ok same
placed_ok at (Err refusal) x e = let z : ◌≡◌ {A = ℕ} 0 1 = cc in absurd (omega arith)

by_tests : {X : Type 0} (t spare : Bool) (a b : EntryRefusal) (x y : X) → cond t (Err a) (cond spare (Err b) (Ok x)) ≡ Ok y → x ≡ y
by_tests true spare a b x y e = let z : ◌≡◌ {A = ℕ} 0 1 = cc in absurd (omega arith)
by_tests false true a b x y e = let z : ◌≡◌ {A = ℕ} 0 1 = cc in absurd (omega arith)
by_tests false false a b x y e = cc

pub token_is : (bytes : List ℕ) (token : InitialToken) → initial_token bytes ≡ Ok token → token_of bytes ≡ token
token_is bytes token e = by_tests _ (token_spare bytes) _ _ (token_of bytes) token e

-- ---- places
module _ (xs : List ℕ) (t : ℕ) where
  pub no_place : (t < 1) ⊎ ((1 ≤ t) × (8 < t)) → 0 ≡ place_at xs t
  unfolding place_at
  no_place outside =
      sym (cond-false (leb 1 t && leb t 8) (field xs (8 + 6 * (t - 1)) 6) 0 (⊎_elim (λ h. and_left (leb 1 t) (leb t 8) (lt-leb 1 t h)) (λ h. and_right (leb 1 t) (leb t 8) (lt-leb t 8 h.1)) outside))

  pub place_is : 1 ≤ t → t ≤ 8 → field xs (8 + 6 * (t - 1)) 6 ≡ place_at xs t
  unfolding place_at
  place_is low high =
      sym (cond-true (leb 1 t && leb t 8) (field xs (8 + 6 * (t - 1)) 6) 0 (and_from (leb 1 t) (leb t 8) (le-leb 1 t low) (le-leb t 8 high)))

-- ---- spare bits, of which the second field has two parts
spare_parts : (a b c n : ℕ) → n ≡ b * 1048576 + c → not (eqb (a + b + c) 0) ≡ (not (eqb a 0) || not (eqb n 0))
spare_parts a b c n e = grind arith

pub spare_sum : (xs : List ℕ) (a b c : ℕ) → a ≡ field xs 0 4 → b ≡ field xs 56 20 → c ≡ field xs 76 20 → not (eqb (a + b + c) 0) ≡ spare_set xs
unfolding spare_set
spare_sum xs a b c is_a is_b is_c =
    let n = field xs 56 40 in
    let joined = field_join xs 56 20 20 ∙ ap (λ m. m * 1048576 + field xs 76 20) (sym is_b) ∙ ap (λ m. b * 1048576 + m) (sym is_c) in
    spare_parts a b c n joined ∙ ap (λ m. not (eqb m 0) || not (eqb n 0)) is_a
