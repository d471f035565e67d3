-- Zones that are asked for, worked out with rows of their own.
use Rattle.std.proofs.Common.{◌≡◌, ℕ, suc, ◌+◌, ◌-◌, ◌<◌, ◌≤◌, eqb, List, ◌∷◌, ◌++◌, map, length, take, drop, Some, None, Option, sym, refl, ap, ◌∙◌, subst, arith, length-append}
use Rattle.std.proofs.lemmas.Bool.{cond-false, ne_eqb}
use Rattle.std.proofs.lemmas.List.{take_rest}
use lib.ListN.{length-map}
use Rattle.bounds.specs.Kinds.{Kind}
use Rattle.nets.specs.Nets.{Arc, Net, Transition, numbered, transition_of}
use Rattle.zones.specs.Predecessors.{staying, places_at}
use Rattle.zones.specs.Zones.{Zone, points}
use Rattle.zone_cells.proofs.Steps.{staying_inside}
use Rattle.zone_closed_forms.specs.ClosedForms.{ClockRows, kept_closed, kept_zone, narrowed_from, spread}
use Rattle.zone_closed_forms.specs.ClockRows.{Alike, AlikeOr}
use Rattle.zone_closed_forms.proofs.Alike.{kept_closed_alike, up_spread, low_spread}
use Rattle.docket_dues.specs.Answered.{SameZone, digits}
use Rattle.docket_dues.specs.declared.item.Item.{Item}
use Rattle.docket_vouching.specs.Asked.{WorkedOut, fired_from, own_zone, spread_zone, zone_asked}
use Rattle.docket_vouching.specs.declared.work.Parts.{Parts}

pub zone_on : {B : Type 0} (z w v : Zone B) → SameZone z w → SameZone w v → SameZone z v
zone_on z w v h k =
    record {
      places = k.places ∙ h.places;
      bounds = λ j i p q. k.bounds j i (subst (λ ps. j < suc (length ps)) (sym h.places) p) (subst (λ ps. i < suc (length ps)) (sym h.places) q) ∙ h.bounds j i p q;
    }

pub fewer_alike : {B : Type 0} (n m : ℕ) (rows other : ClockRows B) → m ≤ n → Alike n rows other → Alike m rows other
fewer_alike n m rows other le h = record { up = λ j l. h.up j (omega (arith, l, le)); low = λ k l. h.low k (omega (arith, l, le)) }

module _ {B : Type 0} (kind : Kind B) (z : Zone B) (matching : List ℕ) (arcs : List (Arc B)) where
  abbrev stay : List ℕ
  stay = staying matching z

  point_count : length (0 ∷ staying matching z) + length arcs ≡ suc (length (places_at (staying matching z) z ++ map (λ a. a.place) arcs))
  point_count = omega (arith, length-append (places_at stay z) (map (λ a. a.place) arcs), length-map stay (λ i. numbered z.places i 0), length-map arcs (λ a. a.place))

  -- own rows that are alike at the points
  own_same : (rows own : ClockRows B) → Alike (length (0 ∷ staying matching z) + length arcs) (spread kind (0 ∷ staying matching z) arcs rows) own → SameZone (spread_zone kind z (staying matching z) arcs rows) (kept_zone kind z (staying matching z) arcs own)
  own_same rows own h =
      record {
        places = refl;
        bounds = λ j i p q. sym (kept_closed_alike kind z.bound (0 ∷ stay) (spread kind (0 ∷ stay) arcs rows) own j i (h.up j (omega (arith, point_count, p))) (h.low i (omega (arith, point_count, q))));
      }

  pub replaced_same : (rows own : ClockRows B) (kept tokens : List ℕ) → kept ≡ 0 ∷ staying matching z → tokens ≡ map (λ i. numbered z.places i 0) (staying matching z) ++ map (λ a. a.place) arcs → Alike (length kept + length arcs) (spread kind kept arcs rows) own → SameZone (spread_zone kind z (staying matching z) arcs rows) (record { places = tokens; bound = kept_closed kind z.bound kept own })
  replaced_same rows own kept tokens listed all h =
      let k : Alike (length (0 ∷ stay) + length arcs) (spread kind (0 ∷ stay) arcs rows) own = subst (λ xs. Alike (length xs + length arcs) (spread kind xs arcs rows) own) listed h in
      let s : SameZone (spread_zone kind z stay arcs rows) (kept_zone kind z stay arcs own) = own_same rows own k in
      let t : SameZone (spread_zone kind z stay arcs rows) (record { places = tokens; bound = kept_closed kind z.bound (0 ∷ stay) own }) = subst (λ ps. SameZone (spread_zone kind z stay arcs rows) (record { places = ps; bound = kept_closed kind z.bound (0 ∷ stay) own })) (sym all) s in
      subst (λ xs. SameZone (spread_zone kind z stay arcs rows) (record { places = tokens; bound = kept_closed kind z.bound xs own })) (sym listed) t

  -- rows of the page's points that are alike
  pub spread_same : (rows other : ClockRows B) → Alike (points z) rows other → SameZone (spread_zone kind z (staying matching z) arcs rows) (spread_zone kind z (staying matching z) arcs other)
  spread_same rows other h =
      record {
        places = refl;
        bounds = λ j i p q.
            sym (kept_closed_alike kind z.bound (0 ∷ stay) (spread kind (0 ∷ stay) arcs rows) (spread kind (0 ∷ stay) arcs other) j i
            (up_spread kind (points z) (0 ∷ stay) arcs rows other (staying_inside matching z) h j)
            (low_spread kind (points z) (0 ∷ stay) arcs rows other (staying_inside matching z) h i));
      }

-- the points behind the clock
pub behind : (f : ℕ → ℕ) (kept part rest tokens more : List ℕ) → part ≡ kept → kept ≡ 0 ∷ rest → tokens ≡ map f (take (length part - 1) (drop 1 part)) ++ more → tokens ≡ map f rest ++ more
behind f kept part rest tokens more same listed is = is ∙ ap (λ xs. map f xs ++ more) (take_rest part 1 ∙ ap (drop 1) (same ∙ listed))

-- rows that narrowing answers, in cells or not
module _ {B : Type 0} (kind : Kind B) (t : Transition B) (matching : List ℕ) (z : Zone B) (few : length z.places ≤ 8) where
  pub fired_worked : (rows : Option (ClockRows B)) (other own : ClockRows B) (parts : Parts) → AlikeOr 9 rows (Some other) → SameZone (spread_zone kind z (staying matching z) t.inputs other) (own_zone kind z.bound own parts) → WorkedOut kind z.bound own (fired_from kind t matching z rows) (Some parts)
  fired_worked None other own parts h s = h
  fired_worked (Some rows) other own parts h s =
      zone_on (spread_zone kind z (staying matching z) t.inputs rows) (spread_zone kind z (staying matching z) t.inputs other) (own_zone kind z.bound own parts) (spread_same kind z matching t.inputs rows other (fewer_alike 9 (points z) rows other (omega (arith, few)) h)) s

  pub void_worked : (rows : Option (ClockRows B)) (own : ClockRows B) → AlikeOr 9 rows None → WorkedOut kind z.bound own (fired_from kind t matching z rows) None
  void_worked None own h = tt
  void_worked (Some rows) own h = h

-- a firing's zone, by digits that are said otherwise
module _ {B : Type 0} (kind : Kind B) (net : Net B) (z : Zone B) (d : Item) (listed : d.zone ≡ 0 → ⊥) (firing : d.transition ≡ 0 → ⊥) where
  abbrev fired_by : List ℕ → Option (Zone B)
  fired_by ms = fired_from kind (transition_of net d.transition) ms z (narrowed_from kind (transition_of net d.transition).outputs ms z.bound)

  pub asked_firing : zone_asked kind net z d ≡ fired_by (digits net d.transition d.matching)
  asked_firing = cond-false (eqb d.zone 0) _ _ (ne_eqb d.zone 0 listed) ∙ cond-false (eqb d.transition 0) _ _ (ne_eqb d.transition 0 firing)

  pub firing_worked : (ms : List ℕ) (own : ClockRows B) (answer : Option Parts) → ms ≡ digits net d.transition d.matching → WorkedOut kind z.bound own (fired_by ms) answer → WorkedOut kind z.bound own (zone_asked kind net z d) answer
  firing_worked ms own answer said h =
      subst (λ o. WorkedOut kind z.bound own o answer) (sym asked_firing) (subst (λ xs. WorkedOut kind z.bound own (fired_by xs) answer) said h)
