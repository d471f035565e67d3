-- The sizes of the zone that a record says: of its bounds, and of its list of places.
use Rattle.std.proofs.Common.{◌≡◌, ℕ, ◌+◌, ◌<◌, ◌≤◌, min, Bool, true, false, cond, ◌&&◌, eqb, ltb, leb, List, length, get_or, Some, None, Option, IfSome, ℤ, pos, ◌-ℤ◌, nat_abs, sym, refl, ap, ◌∙◌, subst, ⊎_elim, arith}
use borrow.Author.Differences.{ints}
use Rattle.std.proofs.lemmas.List.FromFn.{length-map-range_with_len, get_or-map-range_with_len}
use Rattle.std.proofs.lemmas.Bool.{cond_both, ltb-true, ltb-false, and_parts, cases_eq, eq-eqb, le-leb, cond-true}
use Rattle.bounds.specs.Kinds.{Kind, Named, bound_of}
use Rattle.net_records.proofs.Fields.{field_below}
use Rattle.zones.specs.Zones.{SizedZone}
use Rattle.docket_records.specs.ZoneRecords.{tokens_of, place_at, signed, limit_of, limit, number_at, mark_at, entry_at, entry_start, entry_bound, bound_at, zone_of}

-- no limit, or a number within the limits of a kind
abbrev pub Small : Option ℤ → Type 0
Small o = IfSome o (λ n. nat_abs n ≤ 262143)

-- a number of 19 bits other than the code of no limit
signed_small : (n : ℕ) → n < 524288 → (n ≡ 262144 → ⊥) → nat_abs (signed n) ≤ 262143
signed_small n small other =
    cond_both (ltb n 262144) (pos n) (pos n -ℤ pos 524288) (λ x. nat_abs x ≤ 262143)
    (λ e. omega (arith, ltb-true n 262144 e))
    (λ e. omega (arith, ints, other, ltb-false n 262144 e))

limited : (b : Bool) (x : ℤ) → nat_abs x ≤ 262143 → Small (cond b None (Some x))
limited true x h = tt
limited false x h = h

limit_small : (n : ℕ) → n < 524288 → Small (limit_of (signed n))
limit_small n small =
    ⊎_elim (λ e. subst (λ m. Small (limit_of (signed m))) (sym e) tt) (λ other. limited _ (signed n) (signed_small n small other)) (cases_eq n 262144)

pub number_small : (bytes : List ℕ) (j i : ℕ) → Small (number_at bytes j i)
unfolding number_at
number_small bytes j i = limit_small _ (field_below bytes (entry_start j i + 1) 19)

module _ {B : Type 0} (kind : Kind B) where
  entry_small : (mark : Bool) (o : Option ℤ) → Small o → kind.size (limit kind mark o) ≤ 262143
  entry_small mark None h = omega (arith, kind.no_limit_size)
  entry_small mark (Some n) h =
      let named : Named kind.marks n (mark && kind.marks) = record { small = omega (arith, h); takes = λ t. (and_parts mark kind.marks t).1 } in
      omega (arith, kind.numbers_size n (mark && kind.marks) named, h)

  pub limit_made : (mark : Bool) (n : ℤ) (o : Option ℤ) → o ≡ Some n → Small o → bound_of kind n mark ≡ limit kind mark o
  limit_made mark n o e small =
      cond-true (leb (nat_abs n) 262143) (kind.number n (mark && kind.marks)) kind.no_limit (le-leb (nat_abs n) 262143 (subst Small e small)) ∙ ap (limit kind mark) (sym e)

  pub bound_small : (bytes : List ℕ) (j i : ℕ) → kind.size (bound_at kind bytes j i) ≤ 262143
  bound_small bytes j i =
      cond_both (eqb j i) kind.zero (cond (leb j 8 && leb i 8) (entry_bound kind (entry_at bytes j i)) kind.no_limit) (λ b. kind.size b ≤ 262143)
      (λ _. omega (arith, kind.zero_size))
      (λ _. cond_both (leb j 8 && leb i 8) (entry_bound kind (entry_at bytes j i)) kind.no_limit (λ b. kind.size b ≤ 262143) (λ _. entry_small (mark_at bytes j i) (number_at bytes j i) (number_small bytes j i)) (λ _. omega (arith, kind.no_limit_size)))

  pub zone_small : (bytes : List ℕ) → SizedZone kind 262143 (zone_of kind bytes)
  zone_small bytes j i _ _ = bound_small bytes j i

  pub bound_still : (bytes : List ℕ) (j : ℕ) → bound_at kind bytes j j ≡ kind.zero
  bound_still bytes j = cond-true (eqb j j) kind.zero _ (eq-eqb j j refl)

  pub places_length : (bytes : List ℕ) → tokens_of bytes ≤ 8 → length (zone_of kind bytes).places ≡ tokens_of bytes
  places_length bytes few = length-map-range_with_len (place_at bytes) 1 (min (tokens_of bytes) 8) ∙ omega arith

  pub place_listed : (bytes : List ℕ) (t : ℕ) → tokens_of bytes ≤ 8 → t < tokens_of bytes → get_or (zone_of kind bytes).places t 0 ≡ place_at bytes (t + 1)
  place_listed bytes t few here = get_or-map-range_with_len (place_at bytes) 1 (min (tokens_of bytes) 8) t (t + 1) 0 (omega arith) (omega arith)
