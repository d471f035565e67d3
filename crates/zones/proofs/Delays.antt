-- What a delay's predecessor means for markings.
use Rattle.std.proofs.Common.{◌≡◌, ℕ, zero, suc, ◌+◌, ◌<◌, ◌≤◌, true, eqb, List, [], ◌∷◌, map, length, get_or, pos, ◌+ℤ◌, ◌-ℤ◌, neg_ℤ, sym, refl, ap, ◌∙◌, subst, arith}
use borrow.Author.Differences.{ints}
use lib.Signed.{le_z}
use Rattle.std.proofs.lemmas.List.{length-map, get_or-map}
use Rattle.std.proofs.lemmas.Bool.{cond-false, ne_eqb}
use Rattle.bounds.specs.Kinds.{Kind, largest_size}
use Rattle.nets.specs.Markings.{Token, Marking, older}
use Rattle.nets.specs.Markings.Permuted.{join}
use Rattle.nets.specs.Runs.{Delayed}
use Rattle.zone_walks.specs.Walks.{Matrix, counted, Sized, AgesAllowed}
use Rattle.zone_walks.proofs.Sums.{zero_after}
use Rattle.zones.specs.Predecessors.{DelayPredecessor, released}
use Rattle.zones.specs.Zones.{Zone, Satisfies, SizedZone, points, age_of, no_token}
use Rattle.zones.proofs.Bags.{Front, front_unmapped}
use Rattle.zones.proofs.Between.{Between, from_counted, zero_allows, clock_first}
use Rattle.zones.proofs.Forms.{form_allows}

module _ {B : Type 0} (kind : Kind B) (k : ℕ) (grid : 1 ≤ k) where
  age_older : (d : ℕ) (ts : List Token) (j : ℕ) → j < length ts → age_of (map (older d) ts) (suc j) ≡ pos ((get_or ts j no_token).age + d)
  age_older d ts j h = ap (λ t. pos t.age) (get_or-map (older d) ts j no_token no_token h)

  places_older : (d : ℕ) (ts : List Token) → map (λ t. t.place) (map (older d) ts) ≡ map (λ t. t.place) ts
  places_older d [] = refl
  places_older d (t ∷ ts) = ap (λ l. t.place ∷ l) (places_older d ts)

  released_allows : (n d : ℕ) (x : Matrix B) (ts : List Token) → n ≡ suc (length ts) → Sized kind n largest_size x → Between kind k n x (age_of (map (older d) ts)) → Between kind k n (released kind x) (age_of ts)
  released_allows n d x ts count small between zero i p q apart = zero_allows kind k grid _ (clock_first ts i)
  released_allows n d x ts count small between (suc j) i p q apart =
      subst (λ b. kind.allows k b (age_of ts (suc j) -ℤ age_of ts i) ≡ true) (sym (cond-false (eqb (suc j) 0) kind.zero (x (suc j) i) (ne_eqb (suc j) 0 (λ e. omega arith)))) (go i q apart)
    where
      a : ℕ
      a = (get_or ts j no_token).age

      go : (i : ℕ) → i < n → (suc j ≡ i → ⊥) → kind.allows k (x (suc j) i) (age_of ts (suc j) -ℤ age_of ts i) ≡ true
      go zero q apart =
          let h = between (suc j) zero p q apart in
          let minus : le_z (neg_ℤ (pos d)) (pos 0) ≡ true = sym (omega (arith, ints)) in
          let both = kind.sum_allows k (x (suc j) zero) kind.zero _ (neg_ℤ (pos d)) grid h (zero_allows kind k grid (neg_ℤ (pos d)) minus) in
          let e : (pos (a + d) -ℤ pos 0) +ℤ neg_ℤ (pos d) ≡ pos a -ℤ pos 0 = omega (arith, ints) in
          let f : (age_of (map (older d) ts) (suc j) -ℤ pos 0) +ℤ neg_ℤ (pos d) ≡ pos a -ℤ pos 0 = ap (λ y. (y -ℤ pos 0) +ℤ neg_ℤ (pos d)) (age_older d ts j (omega arith)) ∙ e in
          ap (λ b. kind.allows k b (pos a -ℤ pos 0)) (sym (zero_after kind (x (suc j) zero) (small (suc j) zero p q)))
          ∙ ap (kind.allows k (kind.sum (x (suc j) zero) kind.zero)) (sym f)
          ∙ both
      go (suc i) q apart =
          let h = between (suc j) (suc i) p q apart in
          let b = (get_or ts i no_token).age in
          let e : pos (a + d) -ℤ pos (b + d) ≡ pos a -ℤ pos b = omega (arith, ints) in
          ap (kind.allows k (x (suc j) (suc i))) (sym e)
          ∙ ap (λ y. kind.allows k (x (suc j) (suc i)) (y -ℤ pos (b + d))) (sym (age_older d ts j (omega arith)))
          ∙ ap (λ y. kind.allows k (x (suc j) (suc i)) (age_of (map (older d) ts) (suc j) -ℤ y)) (sym (age_older d ts i (omega arith)))
          ∙ h

  pub delay_satisfies : (d : ℕ) (z p : Zone B) (m n : Marking) → SizedZone kind largest_size z → DelayPredecessor kind z p → Delayed d m n → Satisfies kind k z n → Satisfies kind k p m
  delay_satisfies d z p m n small is delayed s =
      record {
        chosen = f.front;
        rest = f.back;
        pairing = f.same;
        places = places ∙ sym is.places;
        allowed = subst (λ l. AgesAllowed kind k (suc (length l)) (counted kind p.bound) (age_of f.front)) (sym is.places) (form_allows kind k grid (points z) (released kind z.bound) p.bound f.front is.bounds (released_allows (points z) d z.bound f.front count small given));
      }
    where
      f : Front (older d) m s.chosen
      f = front_unmapped (older d) m s.chosen s.rest (join delayed s.pairing)

      places : map (λ t. t.place) f.front ≡ z.places
      places = sym (places_older d f.front) ∙ ap (map (λ t. t.place)) (sym f.is) ∙ s.places

      count : points z ≡ suc (length f.front)
      count = ap suc (sym (ap length places) ∙ length-map f.front (λ t. t.place))

      given : Between kind k (points z) z.bound (age_of (map (older d) f.front))
      given = subst (λ ts. Between kind k (points z) z.bound (age_of ts)) f.is (from_counted kind k grid (points z) z.bound (age_of s.chosen) s.allowed)
