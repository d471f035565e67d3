-- What holds of a zone holds of any with the same places and bounds.
use Rattle.std.proofs.Common.{◌≡◌, ℕ, zero, suc, ◌<◌, true, cond, ◌&&◌, eqb, List, [], ◌∷◌, map, length, sym, ap, ◌∙◌, subst, arith}
use Rattle.bounds.specs.Kinds.{Kind}
use Rattle.bounds.specs.declared.range.Range.{Range}
use Rattle.nets.specs.Nets.{Arc, Every, Transition, numbered}
use Rattle.zone_walks.specs.Walks.{Matrix, lesser, counted}
use Rattle.zone_walks.proofs.Closed.{Same}
use Rattle.zone_walks.proofs.NormalForms.{same_back, same_from, same_negative, same_sized, same_still, same_to}
use Rattle.zones.specs.Predecessors.{DelayPredecessor, FiringPredecessor, Void, narrowed, narrowed_by, released}
use Rattle.zones.specs.Safety.{Vouched}
use Rattle.zones.specs.Vouching.{Vouches, Partner, partner}
use Rattle.zones.specs.Zones.{Zone, InNormalForm, SizedZone, points}
use Rattle.zones.proofs.Certificates.{some_map}
use Rattle.zones.proofs.Chosen.{every_getD}
use Rattle.docket_dues.specs.Answered.{SameZone}

module _ {B : Type 0} (kind : Kind B) where
  partner_inside : (v w : Zone B) (pairing : List ℕ) → Vouches kind v w pairing → (j : ℕ) → j < points v → partner pairing j < points w
  partner_inside v w pairing vouches zero below = omega arith
  partner_inside v w pairing vouches (suc j) below =
      let few = (every_getD (Partner (length w.places)) pairing vouches.partners j (omega (arith, below, vouches.count))).few in
      omega (arith, few)

  pub vouches_same : (z w v : Zone B) (pairing : List ℕ) → SameZone z w → Vouches kind v w pairing → Vouches kind v z pairing
  vouches_same z w v pairing same vouches =
      let few = ap length same.places in
      record {
        count = vouches.count;
        partners = subst (λ n. Every (Partner n) pairing) few vouches.partners;
        distinct = vouches.distinct;
        places = subst (λ ps. map (λ p. numbered ps p 0) pairing ≡ v.places) same.places vouches.places;
        bounds = λ j i p q apart.
            let a = partner_inside v w pairing vouches j p in
            let b = partner_inside v w pairing vouches i q in
            subst (λ x. kind.at_most x (v.bound j i) ≡ true) (same.bounds (partner pairing j) (partner pairing i) (omega (arith, a, few)) (omega (arith, b, few))) (vouches.bounds j i p q apart);
      }

  -- nor does it matter which of the two vouches
  pub voucher_same : (v y w : Zone B) (pairing : List ℕ) → SameZone v y → Vouches kind y w pairing → Vouches kind v w pairing
  voucher_same v y w pairing same vouches =
      let few = ap length same.places in
      record {
        count = vouches.count ∙ few;
        partners = vouches.partners;
        distinct = vouches.distinct;
        places = vouches.places ∙ same.places;
        bounds = λ j i p q apart. subst (λ x. kind.at_most (w.bound (partner pairing j) (partner pairing i)) x ≡ true) (same.bounds j i p q) (vouches.bounds j i (omega (arith, p, few)) (omega (arith, q, few)) apart);
      }

  pub vouched_same : (z w : Zone B) (listed : List (Zone B)) → SameZone z w → Vouched kind listed w → Vouched kind listed z
  vouched_same z w listed same vouched =
      some_map (λ v. (pairing : List ℕ) × Vouches kind v w pairing) (λ v. (pairing : List ℕ) × Vouches kind v z pairing) (λ v h. (h.0, vouches_same z w v h.0 same h.1)) listed vouched

  -- ---- bounds that agree between the points still do after each step back
  counted_same : (n : ℕ) (x y : Matrix B) → Same n x y → Same n (counted kind x) (counted kind y)
  counted_same n x y same j i p q = ap (λ b. cond (eqb j i) kind.zero (cond (eqb j 0) (lesser kind b kind.zero) b)) (same j i p q)

  released_same : (n : ℕ) (x y : Matrix B) → Same n x y → Same n (released kind x) (released kind y)
  released_same n x y same j i p q = ap (λ b. cond (eqb j 0) kind.zero b) (same j i p q)

  narrowed_same : (n token : ℕ) (range : Range B) (x y : Matrix B) → Same n x y → Same n (narrowed kind token range x) (narrowed kind token range y)
  narrowed_same n token range x y same j i p q =
      ap (λ b. cond (eqb j token && eqb i 0) (lesser kind b range.upper) (cond (eqb j 0 && eqb i token) (lesser kind b range.lower) b)) (same j i p q)

  narrowed_by_same : (n : ℕ) (arcs : List (Arc B)) (ds : List ℕ) (x y : Matrix B) → Same n x y → Same n (narrowed_by kind arcs ds x) (narrowed_by kind arcs ds y)
  narrowed_by_same n [] ds x y same = same
  narrowed_by_same n (a ∷ arcs) [] x y same = same
  narrowed_by_same n (a ∷ arcs) (zero ∷ ds) x y same = narrowed_by_same n arcs ds x y same
  narrowed_by_same n (a ∷ arcs) (suc d ∷ ds) x y same =
      narrowed_by_same n arcs ds (narrowed kind (suc d) a.range x) (narrowed kind (suc d) a.range y) (narrowed_same n (suc d) a.range x y same)

  -- ---- what is known of y holds of z
  module _ (z y : Zone B) (same : SameZone z y) where
    -- y, with the places of z
    abbrev placed : List ℕ → Zone B
    placed places = record { places = places; bound = y.bound }

    pub delay_same : (p : Zone B) → DelayPredecessor kind y p → DelayPredecessor kind z p
    delay_same p h =
        let moved : DelayPredecessor kind (placed z.places) p = subst (λ places. DelayPredecessor kind (placed places) p) same.places h in
        record {
          places = moved.places;
          bounds = same_from kind (points z) _ _ p.bound (counted_same (points z) _ _ (released_same (points z) y.bound z.bound same.bounds)) moved.bounds;
        }

    module _ (t : Transition B) (matching : List ℕ) where
      firing_bounds : Same (points z) (counted kind (narrowed_by kind t.outputs matching y.bound)) (counted kind (narrowed_by kind t.outputs matching z.bound))
      firing_bounds = counted_same (points z) _ _ (narrowed_by_same (points z) t.outputs matching y.bound z.bound same.bounds)

      pub void_same : Void kind t matching y → Void kind t matching z
      void_same void =
          let moved : Void kind t matching (placed z.places) = subst (λ places. Void kind t matching (placed places)) same.places void in
          same_negative kind (points z) _ _ firing_bounds moved

      pub firing_same : (p : Zone B) → FiringPredecessor kind t matching y p → FiringPredecessor kind t matching z p
      firing_same p h =
          let moved : FiringPredecessor kind t matching (placed z.places) p = subst (λ places. FiringPredecessor kind t matching (placed places) p) same.places h in
          record {
            possible = λ void. moved.possible (same_negative kind (points z) _ _ (same_back kind (points z) _ _ firing_bounds) void);
            narrow = moved.narrow;
            narrows = same_from kind (points z) _ _ moved.narrow firing_bounds moved.narrows;
            places = moved.places;
            bounds = moved.bounds;
          }

  -- ---- and what is known of z holds of y
  module _ (z y : Zone B) (same : SameZone z y) where
    turned : Same (points z) z.bound y.bound
    turned = same_back kind (points z) y.bound z.bound same.bounds

    pub sized_same : (most : ℕ) → SizedZone kind most z → SizedZone kind most y
    sized_same most small =
        subst (λ places. SizedZone kind most (placed z y same places)) (sym same.places) (same_sized kind (points z) most z.bound y.bound turned small)

    pub normal_same : InNormalForm kind z → InNormalForm kind y
    normal_same normal =
        subst (λ places. InNormalForm kind (placed z y same places)) (sym same.places) (record {
          still = same_still kind (points z) z.bound y.bound turned normal.still;
          bounds = same_to kind (points z) (counted kind y.bound) z.bound y.bound turned (same_from kind (points z) (counted kind z.bound) (counted kind y.bound) z.bound (counted_same (points z) z.bound y.bound turned) normal.bounds);
        })
