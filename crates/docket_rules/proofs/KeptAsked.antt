-- What an item asks to vouch for is one zone: two such have the same places and bounds.
use Rattle.std.proofs.Common.{◌≡◌, ℕ, zero, suc, ◌<◌, cond, ◌&&◌, ◌||◌, eqb, List, [], ◌∷◌, length, get_or, sym, ap, ◌∙◌, subst, arith}
use Rattle.bounds.specs.Kinds.{Kind}
use Rattle.bounds.specs.declared.range.Range.{Range}
use Rattle.zone_cells.proofs.Steps.{staying_inside}
use Rattle.docket_dues.specs.Answered.{ItemZone, SameZone, digits, zone_named}
use Rattle.nets.specs.Nets.{Arc, Net, Transition, transition_of}
use Rattle.zone_walks.specs.Walks.{Matrix, NormalForm, counted, lesser}
use Rattle.zone_walks.proofs.NormalForms.{normal_unique, same_from}
use Rattle.zones.specs.Predecessors.{DelayPredecessor, FiringPredecessor, picked, staying, with_token, with_tokens}
use Rattle.zones.specs.Zones.{Zone, points}

-- the same bounds everywhere
abbrev Alike : {B : Type 0} → Matrix B → Matrix B → Type 0
Alike x y = (j i : ℕ) → x j i ≡ y j i

module _ {B : Type 0} (kind : Kind B) where
  pub same_as_one : (z x y : Zone B) → SameZone z x → SameZone z y → SameZone x y
  same_as_one z x y g h =
      let few = ap length g.places in
      record {
        places = h.places ∙ sym g.places;
        bounds = λ j i p q. let a : j < points z = omega (arith, p, few) in let b : i < points z = omega (arith, q, few) in h.bounds j i a b ∙ sym (g.bounds j i a b);
      }

  one_delay : (z x y : Zone B) → DelayPredecessor kind z x → DelayPredecessor kind z y → SameZone x y
  one_delay z x y g h =
      let few = ap length g.places in
      record {
        places = h.places ∙ sym g.places;
        bounds = λ j i p q. normal_unique kind (points z) _ y.bound x.bound h.bounds g.bounds j i (omega (arith, p, few)) (omega (arith, q, few));
      }

  -- ---- a firing reads the narrowed bounds at tokens alone
  token_alike : (n : ℕ) (range : Range B) (x y : Matrix B) → Alike x y → Alike (with_token kind n range x) (with_token kind n range y)
  token_alike n range x y alike j i =
      ap (λ b. cond (eqb j n && eqb i 0) range.upper (cond (eqb j 0 && eqb i n) range.lower (cond (eqb j n || eqb i n) kind.no_limit b))) (alike j i)

  tokens_alike : (n : ℕ) (arcs : List (Arc B)) (x y : Matrix B) → Alike x y → Alike (with_tokens kind n arcs x) (with_tokens kind n arcs y)
  tokens_alike n [] x y alike = alike
  tokens_alike n (a ∷ arcs) x y alike =
      tokens_alike (suc n) arcs (with_token kind n a.range x) (with_token kind n a.range y) (token_alike n a.range x y alike)

  counted_alike : (x y : Matrix B) → Alike x y → Alike (counted kind x) (counted kind y)
  counted_alike x y alike j i = ap (λ b. cond (eqb j i) kind.zero (cond (eqb j 0) (lesser kind b kind.zero) b)) (alike j i)

  module _ (t : Transition B) (matching : List ℕ) (z x y : Zone B) (g : FiringPredecessor kind t matching z x) (h : FiringPredecessor kind t matching z y) where
    abbrev stay : List ℕ
    stay = staying matching z

    picked_alike : Alike (picked (0 ∷ stay) g.narrow) (picked (0 ∷ stay) h.narrow)
    picked_alike j i =
        normal_unique kind (points z) _ g.narrow h.narrow g.narrows h.narrows (get_or (0 ∷ stay) j 0) (get_or (0 ∷ stay) i 0) (staying_inside matching z j) (staying_inside matching z i)

    abbrev made_of : Matrix B → Matrix B
    made_of narrow = counted kind (with_tokens kind (suc (length stay)) t.inputs (picked (0 ∷ stay) narrow))

    made_alike : Alike (made_of g.narrow) (made_of h.narrow)
    made_alike = counted_alike _ _ (tokens_alike (suc (length stay)) t.inputs _ _ picked_alike)

    one_firing : SameZone x y
    one_firing =
        let places = h.places ∙ sym g.places in
        let of_x : NormalForm kind (points x) (made_of h.narrow) x.bound = same_from kind (points x) (made_of g.narrow) (made_of h.narrow) x.bound (λ j i p q. made_alike j i) g.bounds in
        let of_y : NormalForm kind (points x) (made_of h.narrow) y.bound = subst (λ ps. NormalForm kind (suc (length ps)) (made_of h.narrow) y.bound) places h.bounds in
        record { places = places; bounds = normal_unique kind (points x) (made_of h.narrow) y.bound x.bound of_y of_x }

  pub one_asked : (net : Net B) (target : Zone B) (listed : List (Zone B)) (z t n : ℕ) (x y : Zone B) → ItemZone kind net target listed z t n x → ItemZone kind net target listed z t n y → SameZone x y
  one_asked net target listed zero t n x y g h = same_as_one target x y g h
  one_asked net target listed (suc z) zero n x y g h = one_delay (zone_named target listed (suc z)) x y g h
  one_asked net target listed (suc z) (suc t) n x y g h = one_firing (transition_of net (suc t)) (digits net (suc t) n) (zone_named target listed (suc z)) x y g h
