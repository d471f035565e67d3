-- The listed pages as the log has them: as many, and with the same places.
use Rattle.std.proofs.Common.{◌≡◌, ℕ, zero, suc, ◌+◌, ◌<◌, ◌≤◌, List, [], ◌∷◌, map, length, get_or, refl, ap, ◌∙◌, arith}
use Rattle.std.proofs.lemmas.List.{get_or-map, length-map}
use Rattle.std.specs.List.{range_with_len}
use Rattle.bounds.specs.Kinds.{Kind}
use Rattle.docket_dues.specs.Answered.{places_of_all}
use Rattle.nets.specs.Nets.{Net}
use Rattle.docket_rules.specs.Logs.{Log, Opening}
use Rattle.docket_rules.specs.Worlds.{World, listed_count, listed_pages, page_of}
use Rattle.zones.specs.Zones.{Zone}
use Rattle.docket_rules.proofs.Agrees.{AgreesOpened, zone_said}

-- pages from some number on, one after the other
same_places : {B : Type 0} (page : ℕ → Zone B) (none : Zone B) (listed : List (Zone B)) (first : ℕ) → ((i : ℕ) → i < length listed → (page (first + i)).places ≡ (get_or listed i none).places) → places_of_all (map page (range_with_len first (length listed))) ≡ places_of_all listed
same_places page none [] first each = refl
same_places page none (z ∷ listed) first each =
    let here : first ≡ first + 0 = omega arith in
    let later = same_places page none listed (first + 1) (λ i below. let next : first + 1 + i ≡ first + suc i = omega arith in ap (λ n. (page n).places) next ∙ each (suc i) (omega (arith, below))) in
    ap (λ p. p ∷ places_of_all (map page (range_with_len (first + 1) (length listed)))) (ap (λ n. (page n).places) here ∙ each 0 (omega arith)) ∙ ap (λ l. z.places ∷ l) later

module _ {B : Type 0} (kind : Kind B) (net : Net B) (log : Log B) (o : Opening B) (w : World B) (a : AgreesOpened kind net log o w) where
  pub counts_length : length w.state.counts ≡ suc (length log.listed)
  counts_length = ap length a.counts ∙ length-map (o.target ∷ log.listed) (λ z. length z.places)

  pub listed_as_many : listed_count w.state ≡ length log.listed
  listed_as_many = omega (arith, counts_length)

  -- how many tokens a page has
  pub count_said : (p : ℕ) → p ≤ length log.listed → get_or w.state.counts p 0 ≡ length (zone_said o log p).places
  count_said zero below = ap (λ l. get_or l 0 0) a.counts
  count_said (suc p) below =
      ap (λ l. get_or l (suc p) 0) a.counts ∙ get_or-map (λ z. length z.places) log.listed p o.target 0 (omega (arith, below))

  pub count_few : (p : ℕ) → p ≤ length log.listed → get_or w.state.counts p 0 ≤ 8
  count_few p below =
      let page = a.pages p below in
      omega (arith, count_said p below, ap length page.normal.places, page.formed.few)

  pub places_listed : places_of_all (listed_pages kind w) ≡ places_of_all log.listed
  places_listed =
      ap (λ n. places_of_all (map (page_of kind w) (range_with_len 1 n))) listed_as_many
      ∙ same_places (page_of kind w) o.target log.listed 1 (λ i below. let next : 1 + i ≡ suc i = omega arith in ap (λ p. (page_of kind w p).places) next ∙ (a.pages (suc i) (omega (arith, below))).normal.places)
