-- The item that is due, the page of its zone, and what is told of it.
use Rattle.std.proofs.Common.{◌≡◌, ℕ, zero, suc, ◌≤◌, Bool, true, false, List, ◌++◌, length, Option, Some, None, refl, sym, ap, subst, arith}
use Rattle.std.proofs.lemmas.Bool.{false≢true}
use Rattle.std.proofs.lemmas.List.{length-map}
use Rattle.std.proofs.lemmas.List.FromFn.{get_or-map-range_with_len, length-map-range_with_len}
use Rattle.bounds.specs.Kinds.{Kind}
use Rattle.docket_dues.specs.Answered.{places_of_all, zone_named}
use Rattle.docket_dues.specs.DueLaws.{CanBeDue, IsDue}
use Rattle.docket_dues.specs.declared.item.Item.{Item}
use Rattle.docket_items.specs.Made.{PageHolds}
use Rattle.docket_rules.specs.Calls.{Sound, next_due_of}
use Rattle.docket_rules.specs.Tables.{due_in, is_proving}
use Rattle.docket_rules.specs.Worlds.{World, page_cells_at, listed_count, listed_pages, page_of, page_places_at}
use Rattle.docket_rules.specs.declared.stage.Stage.{Stage}
use Rattle.docket_rules.specs.declared.stage.Stage.TheVariants.{Blank, Listing, Proving, Sealed}
use Rattle.file_words.specs.Asked.{DueAdded, DueTold, ItemTold}
use Rattle.nets.specs.Nets.{Net}
use Rattle.zones.specs.Zones.{Zone}

abbrev is_there : Option Item → Bool
is_there None = false
is_there (Some d) = true

abbrev item_or : Item → Option Item → Item
item_or d None = d
item_or d (Some e) = e

is_proving_it : (s : Stage) (d : Item) → next_due_of s ≡ Some d → s ≡ Proving d
is_proving_it Blank d is = absurd (false≢true (ap is_there is))
is_proving_it Listing d is = absurd (false≢true (ap is_there is))
is_proving_it (Proving e) d is = ap Proving (ap (item_or d) is)
is_proving_it Sealed d is = absurd (false≢true (ap is_there is))

due_inside : {B : Type 0} (net : Net B) (listed : List (List ℕ)) (z t n : ℕ) → CanBeDue net listed z t n → z ≤ length listed
due_inside net listed zero t n due = omega arith
due_inside net listed (suc z) zero n due = due.0
due_inside net listed (suc z) (suc t) n due = due.listed_zone

module _ {B : Type 0} (kind : Kind B) (w : World B) where
  page_named : (p : ℕ) → p ≤ listed_count w.state → zone_named (page_of kind w 0) (listed_pages kind w) p ≡ page_of kind w p
  page_named zero few = refl
  page_named (suc p) few =
      get_or-map-range_with_len (page_of kind w) 1 (listed_count w.state) p (suc p) (page_of kind w 0) (omega (arith, few)) (omega arith)

module _ {B : Type 0} (kind : Kind B) (net : Net B) (w : World B) (d : Item) (due : next_due_of w.state.stage ≡ Some d) where
  module _ (sound : Sound kind net w) where
    proving : w.state.stage ≡ Proving d
    proving = is_proving_it w.state.stage d due

    item_due : IsDue net (places_of_all (listed_pages kind w)) d
    item_due = subst (λ s. IsDue net (places_of_all (listed_pages kind w)) (due_in s)) proving sound.due

    item_inside : d.zone ≤ listed_count w.state
    item_inside = omega (arith, due_inside net (places_of_all (listed_pages kind w)) d.zone d.transition d.matching item_due, length-map (listed_pages kind w) (λ z. z.places), length-map-range_with_len (page_of kind w) 1 (listed_count w.state))

    item_held : PageHolds kind (zone_named (page_of kind w 0) (listed_pages kind w) d.zone) (page_places_at w d.zone) (page_cells_at w d.zone)
    item_held =
        let page = page_of kind w d.zone in
        let formed = sound.pages d.zone (omega (arith, item_inside, sound.opened (ap is_proving proving))) in
        let held : PageHolds kind page (page_places_at w d.zone) (page_cells_at w d.zone) = record { same = record { places = refl; bounds = λ j i p q. refl }; formed = formed } in
        subst (λ z. PageHolds kind z (page_places_at w d.zone) (page_cells_at w d.zone)) (sym (page_named kind w d.zone item_inside)) held

    -- what is so of every item that is due and its page
    pub item_answer : (Answer : Zone B → List (Zone B) → Type 0) (places : List ℕ) (cells : List B) (Full : Type 0) → places ≡ page_places_at w d.zone → cells ≡ page_cells_at w d.zone → Full → ((target : Zone B) (listed : List (Zone B)) → Full → IsDue net (places_of_all listed) d → PageHolds kind (zone_named target listed d.zone) places cells → Answer target listed) → Answer (page_of kind w 0) (listed_pages kind w)
    item_answer Answer places cells Full places_are cells_are full made =
        let named = zone_named (page_of kind w 0) (listed_pages kind w) d.zone in
        let held = subst (λ c. PageHolds kind named places c) (sym cells_are) (subst (λ p. PageHolds kind named p (page_cells_at w d.zone)) (sym places_are) item_held) in
        made (page_of kind w 0) (listed_pages kind w) full item_due held

  pub due_added : (words : B → List ℕ) (before after said : List ℕ) → ItemTold kind words net w.state (page_of kind w) d said → after ≡ before ++ said → DueAdded kind words net w before after
  due_added words before after said told text = record {
    said = said;
    told = subst (λ o. DueTold kind words net w o said) (sym due) told;
    text = text;
  }
