-- Every marking of a zone is one of the zone that vouches for it.
use Rattle.std.proofs.Common.{◌≡◌, ℕ, zero, suc, ◌<◌, ◌≤◌, List, ◌∷◌, ◌++◌, map, length, ◌-ℤ◌, sym, ap, ◌∙◌, subst, arith}
use Rattle.std.proofs.lemmas.List.{append_assoc}
use Rattle.bounds.specs.Kinds.{Kind}
use Rattle.nets.specs.Markings.{Marking}
use Rattle.nets.specs.Markings.Permuted.{join}
use Rattle.nets.specs.Nets.{Every, numbered}
use Rattle.nets.proofs.Bags.{permuted_equal, permuted_before}
use Rattle.zones.specs.Vouching.{Vouches, Partner, partner}
use Rattle.zones.specs.Zones.{Zone, Satisfies, points, age_of}
use Rattle.zones.proofs.Between.{Between, from_counted, to_counted}
use Rattle.zones.proofs.Chosen.{token_of, age_chosen, places_chosen, distinct_apart, every_getD, zero_absent, Left, chosen_left}
use Rattle.zones.proofs.Forms.{chosen_count}

module _ {B : Type 0} (kind : Kind B) (k : ℕ) (grid : 1 ≤ k) where
  pub vouching_satisfies : (v w : Zone B) (pairing : List ℕ) (m : Marking) → Vouches kind v w pairing → Satisfies kind k w m → Satisfies kind k v m
  vouching_satisfies v w pairing m vouches s =
      record {
        chosen = map (token_of s.chosen) pairing;
        rest = l.left ++ s.rest;
        pairing = join s.pairing (join (permuted_before s.rest l.same) (permuted_equal (append_assoc (map (token_of s.chosen) pairing) l.left s.rest)));
        places = places_chosen s.chosen pairing ∙ ap (λ ps. map (λ i. numbered ps i 0) pairing) s.places ∙ vouches.places;
        allowed = to_counted kind k grid (points v) v.bound (map (token_of s.chosen) pairing) between;
      }
    where
      count : length s.chosen ≡ length w.places
      count = chosen_count kind k grid w m s

      l : Left s.chosen (map (token_of s.chosen) pairing)
      l = chosen_left s.chosen pairing vouches.distinct (subst (λ n. Every (Partner n) pairing) (sym count) vouches.partners)

      inside : (j : ℕ) → j < points v → partner pairing j < points w
      inside zero h = omega arith
      inside (suc j) h =
          let c = vouches.count in
          let few = (every_getD (Partner (length w.places)) pairing vouches.partners j (omega arith)).few in
          omega arith

      age : (j : ℕ) → j < points v → age_of (map (token_of s.chosen) pairing) j ≡ age_of s.chosen (partner pairing j)
      age j h = let c = vouches.count in age_chosen s.chosen pairing j (omega arith)

      between : Between kind k (points v) v.bound (age_of (map (token_of s.chosen) pairing))
      between j i p q apart =
          let c = vouches.count in
          let a : (partner pairing j ≡ partner pairing i → ⊥) = distinct_apart (0 ∷ pairing) (zero_absent (length w.places) pairing vouches.partners, vouches.distinct) j i (omega arith) (omega arith) apart in
          let h = from_counted kind k grid (points w) w.bound (age_of s.chosen) s.allowed (partner pairing j) (partner pairing i) (inside j p) (inside i q) a in
          let up = kind.larger_allows k _ (v.bound j i) _ grid (vouches.bounds j i p q apart) h in
          ap (λ x. kind.allows k (v.bound j i) (x -ℤ age_of (map (token_of s.chosen) pairing) i)) (age j p)
          ∙ ap (λ x. kind.allows k (v.bound j i) (age_of s.chosen (partner pairing j) -ℤ x)) (age i q)
          ∙ up
