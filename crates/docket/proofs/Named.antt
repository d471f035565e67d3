-- The pages of a book by their numbers, and that the page of the item that is due is as open or post left it.
use Rattle.std.proofs.Common.{◌≡◌, ℕ, zero, suc, ◌*◌, ◌≤◌, List, [], length, take, drop, sym, refl, ap, ◌∙◌, subst, ⊎_elim, arith}
use Rattle.std.proofs.lemmas.Bool.{cases_lt}
use Rattle.std.proofs.lemmas.List.{get_or-map, get_or_past, length-map}
use Rattle.std.proofs.lemmas.List.FromFn.{get_or-map-range_with_len, length-map-range_with_len}
use Rattle.bounds.specs.Kinds.{Kind}
use Rattle.docket_dues.specs.Answered.{SameZone, places_of_all, zone_named}
use Rattle.docket_dues.specs.DueLaws.{CanBeDue, IsDue}
use Rattle.docket_dues.specs.declared.item.Item.{Item}
use Rattle.docket_items.specs.Made.{PageHolds}
use Rattle.nets.specs.Nets.{Net, numbered}
use Rattle.docket_rules.specs.Calls.{Sound}
use Rattle.docket_rules.specs.Tables.{due_in, is_proving}
use Rattle.docket_rules.specs.Worlds.{World, listed_count, listed_pages, page_cells_at, page_of, page_places_at}
use Rattle.docket_rules.specs.declared.stage.Stage.TheVariants.{Proving}
use Rattle.zones.specs.Zones.{Zone}

pub itself : {B : Type 0} (z : Zone B) → SameZone z z
itself z = record { places = refl; bounds = λ j i p q. refl }

due_inside : {B : Type 0} (net : Net B) (listed : List (List ℕ)) (z t n : ℕ) → CanBeDue net listed z t n → z ≤ length listed
due_inside net listed zero t n due = omega arith
due_inside net listed (suc z) zero n due = due.0
due_inside net listed (suc z) (suc t) n due = due.listed_zone

module _ {B : Type 0} (kind : Kind B) (w : World B) where
  abbrev listed : List (Zone B)
  listed = listed_pages kind w

  pub as_many : length (listed_pages kind w) ≡ listed_count w.state
  as_many = length-map-range_with_len (page_of kind w) 1 (listed_count w.state)

  pub page_named : (p : ℕ) → p ≤ listed_count w.state → zone_named (page_of kind w 0) (listed_pages kind w) p ≡ page_of kind w p
  page_named zero few = refl
  page_named (suc p) few =
      get_or-map-range_with_len (page_of kind w) 1 (listed_count w.state) p (suc p) (page_of kind w 0) (omega (arith, few)) (omega arith)

  -- a page that is not written has no tokens
  unwritten : (p : ℕ) → length w.state.counts ≤ p → page_places_at w p ≡ []
  unwritten p past = ap (λ n. take n (drop (8 * p) w.places)) (get_or_past w.state.counts p 0 past)

  pub places_named : (p : ℕ) → 1 ≤ p → numbered (places_of_all (listed_pages kind w)) p [] ≡ page_places_at w p
  places_named zero some = absurd (omega (arith, some))
  places_named (suc p) some =
      ⊎_elim
      (λ below.
      get_or-map (λ z. z.places) listed p (page_of kind w 0) [] (omega (arith, as_many, below))
      ∙ ap (λ z. z.places) (page_named (suc p) (omega (arith, below))))
      (λ past.
      get_or_past (places_of_all listed) p [] (omega (arith, length-map listed (λ z. z.places), as_many, past))
      ∙ sym (unwritten (suc p) (omega (arith, past))))
      (cases_lt p (listed_count w.state))

  -- ---- the page of the item that is due
  module _ (net : Net B) (d : Item) (sound : Sound kind net w) (proving : w.state.stage ≡ Proving d) where
    pub item_due : IsDue net (places_of_all (listed_pages kind w)) d
    item_due = subst (λ s. IsDue net (places_of_all listed) (due_in s)) proving sound.due

    item_inside : d.zone ≤ listed_count w.state
    item_inside = omega (arith, due_inside net (places_of_all listed) d.zone d.transition d.matching item_due, length-map listed (λ z. z.places), as_many)

    pub item_held : PageHolds kind (zone_named (page_of kind w 0) (listed_pages kind w) d.zone) (page_places_at w d.zone) (page_cells_at w d.zone)
    item_held =
        let page = page_of kind w d.zone in
        let formed = sound.pages d.zone (omega (arith, item_inside, sound.opened (ap is_proving proving))) in
        let held : PageHolds kind page (page_places_at w d.zone) (page_cells_at w d.zone) = record { same = itself page; formed = formed } in
        subst (λ z. PageHolds kind z (page_places_at w d.zone) (page_cells_at w d.zone)) (sym (page_named d.zone item_inside)) held
