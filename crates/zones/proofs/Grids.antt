-- A marking and the same one on another grid.
use Rattle.std.proofs.Common.{◌≡◌, ℕ, zero, suc, ◌+◌, ◌*◌, ◌<◌, ◌≤◌, List, [], ◌∷◌, map, length, ℤ, pos, ◌-ℤ◌, ◌*ℤ◌, sym, refl, ap, ◌∙◌, mul-zero, arith}
use borrow.Author.Differences.{ints, up, down}
use Rattle.std.proofs.lemmas.List.{length-map, get_or-map}
use Rattle.bounds.specs.Kinds.{Kind}
use Rattle.nets.specs.Markings.{Token, Marking, finer, refined}
use Rattle.zones.specs.Zones.{Zone, Satisfies, points, age_of, no_token}
use Rattle.zones.proofs.Bags.{Front, front_unmapped}
use Rattle.zones.proofs.Between.{Between, from_counted, to_counted}

module _ {B : Type 0} (kind : Kind B) (k : ℕ) (grid : 1 ≤ k) where
  age_finer : (ts : List Token) (j : ℕ) → j < suc (length ts) → age_of (map (finer k) ts) j ≡ pos k *ℤ age_of ts j
  age_finer ts zero h = ap pos (sym (mul-zero k))
  age_finer ts (suc j) h = ap (λ t. pos t.age) (get_or-map (finer k) ts j no_token no_token (omega arith))

  places_finer : (ts : List Token) → map (λ t. t.place) (map (finer k) ts) ≡ map (λ t. t.place) ts
  places_finer [] = refl
  places_finer (t ∷ ts) = ap (λ l. t.place ∷ l) (places_finer ts)

  times_difference : (a b : ℤ) → pos k *ℤ a -ℤ pos k *ℤ b ≡ pos k *ℤ (a -ℤ b)
  times_difference a b =
      let e : up (a -ℤ b) + (down a + up b) ≡ down (a -ℤ b) + (up a + down b) = omega (arith, ints) in
      let f : k * (up (a -ℤ b) + (down a + up b)) ≡ k * (down (a -ℤ b) + (up a + down b)) = ap (λ x. k * x) e in
      omega (arith, ints, f)

  pub grids_satisfy : (z : Zone B) (m : Marking) → Satisfies kind k z (refined k m) → Satisfies kind 1 z m
  grids_satisfy z m s =
      record {
        chosen = f.front;
        rest = f.back;
        pairing = f.same;
        places = places;
        allowed = to_counted kind 1 (omega arith) (points z) z.bound f.front between;
      }
    where
      f : Front (finer k) m s.chosen
      f = front_unmapped (finer k) m s.chosen s.rest s.pairing

      places : map (λ t. t.place) f.front ≡ z.places
      places = sym (places_finer f.front) ∙ ap (map (λ t. t.place)) (sym f.is) ∙ s.places

      count : points z ≡ suc (length f.front)
      count = ap suc (sym (ap length places) ∙ length-map f.front (λ t. t.place))

      age : (j : ℕ) → j < points z → age_of s.chosen j ≡ pos k *ℤ age_of f.front j
      age j h = ap (λ ts. age_of ts j) f.is ∙ age_finer f.front j (omega (arith, count))

      between : Between kind 1 (points z) z.bound (age_of f.front)
      between j i p q apart =
          sym (kind.grids k (z.bound j i) (age_of f.front j -ℤ age_of f.front i) grid)
          ∙ ap (kind.allows k (z.bound j i)) (sym (times_difference (age_of f.front j) (age_of f.front i)))
          ∙ ap (λ y. kind.allows k (z.bound j i) (y -ℤ pos k *ℤ age_of f.front i)) (sym (age j p))
          ∙ ap (λ y. kind.allows k (z.bound j i) (age_of s.chosen j -ℤ y)) (sym (age i q))
          ∙ from_counted kind k grid (points z) z.bound (age_of s.chosen) s.allowed j i p q apart
