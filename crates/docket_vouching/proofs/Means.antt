-- What the zone that was worked out is, where the page holds the item's zone.
use Rattle.std.proofs.Common.{◌≡◌, ℕ, zero, suc, ◌<◌, ◌≤◌, true, eqb, List, [], ◌∷◌, length, Some, None, Option, sym, refl, ap, ◌∙◌, subst, arith}
use Rattle.std.proofs.lemmas.Bool.{and_parts, cond-false, ne_eqb}
use Rattle.std.proofs.lemmas.List.{get_or-map, length-map}
use Rattle.bounds.specs.Kinds.{Kind}
use Rattle.nets.specs.Nets.{Every, Limits, Net, Transition, arcs_of, transition_of}
use Rattle.nets.specs.declared.side.Side.TheVariants.{Output}
use Rattle.zone_walks.specs.Walks.{NormalForm, counted}
use Rattle.zone_walks.proofs.NormalForms.{same_to}
use Rattle.zones.proofs.Arcs.{transition_limits}
use Rattle.zones.specs.Predecessors.{DelayPredecessor, FiringPredecessor, Void, is_matching, matches, picked, staying, with_tokens}
use Rattle.zones.specs.Zones.{Zone, points}
use Rattle.zone_cells.specs.Cells.{in_page}
use Rattle.zone_cells.specs.Drafts.{PageFormed, largest_listed, page_zone}
use Rattle.zone_cells.proofs.Steps.{matches_below}
use Rattle.zone_closed_forms.specs.ClosedForms.{ClockRows, begun, delayed_rows, fired_zone, narrowed_from, spread}
use Rattle.zone_closed_forms.specs.Laws.{FiringFormOr}
use Rattle.zone_closed_forms.proofs.Delayed.{delayed_form}
use Rattle.zone_closed_forms.proofs.Fired.{fired_form}
use Rattle.zone_closed_forms.proofs.Kept.{kept_delayed, kept_places, kept_whole, spread_alike}
use Rattle.docket_dues.specs.Answered.{SameZone, digits, zone_named}
use Rattle.docket_dues.specs.Dues.{item}
use Rattle.docket_dues.proofs.Same.{delay_same, firing_same, normal_same, sized_same, void_same}
use Rattle.docket_items.specs.Made.{PageHolds}
use Rattle.docket_vouching.specs.Asked.{PageDigits, WorkedOut, WorksOut, delayed_kept, fired_from, own_zone, rows_within, whole_zone, zone_asked}
use Rattle.docket_vouching.specs.Means.{MeansItem, PartsAnswer}
use Rattle.docket_vouching.specs.declared.work.Parts.{Parts}
use Rattle.docket_vouching.proofs.Zones.{asked_firing, zone_on}

-- ---- a predecessor with the same places and bounds
module _ {B : Type 0} (kind : Kind B) (z p w : Zone B) (same : SameZone p w) where
  back : (j i : ℕ) → j < points p → i < points p → p.bound j i ≡ w.bound j i
  back j i a b = sym (same.bounds j i a b)

  few_points : points w ≡ points p
  few_points = ap (λ ps. suc (length ps)) same.places

  pub delay_shown : DelayPredecessor kind z p → DelayPredecessor kind z w
  delay_shown h =
      let e : points p ≡ points z = ap (λ ps. suc (length ps)) h.places in
      record {
        places = same.places ∙ h.places;
        bounds = same_to kind (points z) _ _ _ (λ j i a b. back j i (subst (λ n. j < n) (sym e) a) (subst (λ n. i < n) (sym e) b)) h.bounds;
      }

  pub firing_shown : (t : Transition B) (matching : List ℕ) → FiringPredecessor kind t matching z p → FiringPredecessor kind t matching z w
  firing_shown t matching h =
      record {
        possible = h.possible;
        narrow = h.narrow;
        narrows = h.narrows;
        places = same.places ∙ h.places;
        bounds = subst (λ n. NormalForm kind n (counted kind (with_tokens kind (suc (length (staying matching z))) t.inputs (picked (0 ∷ staying matching z) h.narrow))) w.bound) (sym few_points) (same_to kind (points p) _ _ _ back h.bounds);
      }

-- what is shown of a firing from z, over y
abbrev FiringShown : {B : Type 0} → Kind B → Transition B → List ℕ → (z y : Zone B) → ClockRows B → Option Parts → Type 0
FiringShown kind t matching z y own None = Void kind t matching z
FiringShown kind t matching z y own (Some parts) = FiringPredecessor kind t matching z (own_zone kind y.bound own parts)

-- ---- over a page's zone y, in the form that pages have
module _ {B : Type 0} (kind : Kind B) (y : Zone B) (formed : PageFormed kind y) (own : ClockRows B) where
  whole_same : SameZone y (whole_zone kind y)
  whole_same =
      record {
        places = kept_places kind y (spread kind (0 ∷ staying [] y) [] (begun y.bound));
        bounds = kept_whole kind y (spread kind (0 ∷ staying [] y) [] (begun y.bound)) formed (spread_alike kind y (begun y.bound));
      }

  delayed_is : DelayPredecessor kind y (delayed_kept kind y)
  delayed_is = (kept_delayed kind y (spread kind (0 ∷ staying [] y) [] (delayed_rows kind y)) (spread_alike kind y (delayed_rows kind y)) (delayed_form kind y formed)).is

  -- ---- for the item's zone z
  module _ (z : Zone B) (same : SameZone z y) where
    whole_item : (parts : Parts) → WorkedOut kind y.bound own (Some (whole_zone kind y)) (Some parts) → SameZone z (own_zone kind y.bound own parts)
    whole_item parts h = zone_on z (whole_zone kind y) _ (zone_on z y (whole_zone kind y) same whole_same) h

    delayed_item : (parts : Parts) → WorkedOut kind y.bound own (Some (delayed_kept kind y)) (Some parts) → DelayPredecessor kind z (own_zone kind y.bound own parts)
    delayed_item parts h = delay_same kind z y same _ (delay_shown kind y (delayed_kept kind y) _ h delayed_is)

    module _ (t : Transition B) (matching : List ℕ) where
      firing_item : (o : Option (ClockRows B)) (answer : Option Parts) → FiringFormOr kind t matching y o → WorkedOut kind y.bound own (fired_from kind t matching y o) answer → FiringShown kind t matching z y own answer
      firing_item None None form h = void_same kind z y same t matching form
      firing_item None (Some parts) form h = absurd h
      firing_item (Some rows) None form h = absurd h
      firing_item (Some rows) (Some parts) form h = firing_same kind z y same t matching _ (firing_shown kind y (fired_zone kind t matching y rows) _ h t matching form.is)

every_less : (n m : ℕ) (ds : List ℕ) → n ≤ m → Every (λ d. d < n) ds → Every (λ d. d < m) ds
every_less n m [] le h = tt
every_less n m (d ∷ ds) le h = (omega (arith, h.0, le), every_less n m ds le h.1)

module _ {B : Type 0} (kind : Kind B) (net : Net B) (limits : Limits kind net) (page_places : List ℕ) (page before after : List B) where
  abbrev y : Zone B
  y = page_zone kind page_places page

  abbrev own : ClockRows B
  own = rows_within kind after

  module _ (z : Zone B) (holds : PageHolds kind z page_places page) where
    few : length page_places ≤ 8
    few = omega (arith, ap length holds.same.places, holds.formed.few)

    formed : PageFormed kind (page_zone kind page_places page)
    formed = record { few = few; normal = normal_same kind z y holds.same holds.formed.normal; small = sized_same kind z y holds.same largest_listed holds.formed.small }

  whole_means : (target : Zone B) (listed : List (Zone B)) (t n : ℕ) (answer : Option Parts) → PageHolds kind target page_places page → WorkedOut kind (page_zone kind page_places page).bound (rows_within kind after) (zone_asked kind net (page_zone kind page_places page) (item 0 t n)) answer → PartsAnswer kind net target listed (item 0 t n) page after answer
  whole_means target listed t n None holds h = h
  whole_means target listed t n (Some parts) holds h = whole_item kind y (formed target holds) own target holds.same parts h

  delay_means : (target : Zone B) (listed : List (Zone B)) (zone n : ℕ) (answer : Option Parts) → PageHolds kind (zone_named target listed (suc zone)) page_places page → WorkedOut kind (page_zone kind page_places page).bound (rows_within kind after) (Some (delayed_kept kind (page_zone kind page_places page))) answer → PartsAnswer kind net target listed (item (suc zone) 0 n) page after answer
  delay_means target listed zone n None holds h = h
  delay_means target listed zone n (Some parts) holds h =
      let z : Zone B = zone_named target listed (suc zone) in
      delayed_item kind y (formed z holds) own z holds.same parts h

  firing_means : (target : Zone B) (listed : List (Zone B)) (zone t n : ℕ) (answer : Option Parts) → PageHolds kind (zone_named target listed (suc zone)) page_places page → matches page_places (arcs_of net (suc t) Output) (digits net (suc t) n) ≡ true → WorkedOut kind (page_zone kind page_places page).bound (rows_within kind after) (fired_from kind (transition_of net (suc t)) (digits net (suc t) n) (page_zone kind page_places page) (narrowed_from kind (arcs_of net (suc t) Output) (digits net (suc t) n) (in_page kind page))) answer → PartsAnswer kind net target listed (item (suc zone) (suc t) n) page after answer
  firing_means target listed zone t n answer holds matched h =
      let z : Zone B = zone_named target listed (suc zone) in
      let ms : List ℕ = digits net (suc t) n in
      let o : Option (ClockRows B) = narrowed_from kind (arcs_of net (suc t) Output) ms (in_page kind page) in
      let form : FiringFormOr kind (transition_of net (suc t)) ms y o = fired_form kind net.places (transition_of net (suc t)) ms y (formed z holds) (transition_limits kind net (suc t) limits) matched in
      answered answer (firing_item kind y (formed z holds) own z holds.same (transition_of net (suc t)) ms o answer form h)
    where
      answered : (answer : Option Parts) → FiringShown kind (transition_of net (suc t)) (digits net (suc t) n) (zone_named target listed (suc zone)) (page_zone kind page_places page) (rows_within kind after) answer → PartsAnswer kind net target listed (item (suc zone) (suc t) n) page after answer
      answered None g = g
      answered (Some parts) g = g

  pub means_item : (zone t n : ℕ) (answer : Option Parts) → WorksOut kind net (page_zone kind page_places page) (item zone t n) before after answer → MeansItem kind net page_places page (item zone t n) before after answer
  means_item zero t n answer works target listed room due holds =
      whole_means target listed t n answer holds
      (works.worked room (few target holds) (λ listed firing. absurd (listed refl)))
  means_item (suc zone) zero n answer works target listed room due holds =
      let asked : zone_asked kind net y (item (suc zone) 0 n) ≡ Some (delayed_kept kind y) = cond-false (eqb (suc zone) 0) _ _ (ne_eqb (suc zone) 0 (λ e. omega arith)) in
      delay_means target listed zone n answer holds (subst (λ o. WorkedOut kind y.bound own o answer) asked (works.worked room (few (zone_named target listed (suc zone)) holds) (λ listed firing. absurd (firing refl))))
  means_item (suc zone) (suc t) n answer works target listed room due holds =
      let z : Zone B = zone_named target listed (suc zone) in
      let arcs = arcs_of net (suc t) Output in
      let listed_places = get_or-map (λ v. v.places) listed zone target [] (omega (arith, due.listed_zone, length-map listed (λ v. v.places))) in
      let here : is_matching page_places arcs n ≡ true = subst (λ places. is_matching places arcs n ≡ true) (listed_places ∙ sym holds.same.places) due.matches in
      let says = (and_parts (matches page_places arcs (digits net (suc t) n)) _ here).0 in
      let small : PageDigits (digits net (suc t) n) = every_less (suc (length page_places)) 9 (digits net (suc t) n) (omega (arith, few z holds)) (matches_below page_places arcs (digits net (suc t) n) says) in
      let asked = asked_firing kind net y (item (suc zone) (suc t) n) (λ e. omega arith) (λ e. omega arith) in
      firing_means target listed zone t n answer holds says (subst (λ o. WorkedOut kind y.bound own o answer) asked (works.worked room (few z holds) (λ listed firing. small)))
