-- Post keeps the docket and the log in agreement.
use Rattle.std.proofs.Common.{◌≡◌, ℕ, zero, suc, ◌-◌, ◌<◌, ◌≤◌, false, List, [], ◌∷◌, ◌++◌, length, take, get_or, length-append, Ok, Err, Some, None, Option, refl, sym, ap, ◌∙◌, subst, ⊎_elim, arith}
use Rattle.std.proofs.lemmas.Bool.{cases_lt}
use Rattle.std.proofs.lemmas.List.{get_or_append_left, get_or-append_right, map-append}
use Rattle.bounds.specs.Kinds.{Kind, largest_size}
use Rattle.docket_dues.specs.Answered.{Answered, places_of_all}
use Rattle.docket_dues.specs.Dues.{Awaits, target_item, all_due}
use Rattle.docket_dues.proofs.Order.{target_leads}
use Rattle.docket_records.specs.ZoneRecords.{zone_of}
use Rattle.docket_records.proofs.Sizes.{zone_small}
use Rattle.zone_markings.specs.Initial.{marking_of}
use Rattle.nets.specs.Nets.{Every, Net}
use Rattle.docket_rules.specs.Calls.{Post, Posted, Step}
use Rattle.docket_rules.specs.Logs.{Log, Opening, with_call, stage_said}
use Rattle.docket_rules.specs.Tables.{Answer, is_listing, post_table}
use Rattle.docket_rules.specs.Worlds.{World, listed_count, listed_pages, page_of, whole, with_scratch}
use Rattle.zones.specs.Zones.{Zone, Satisfies, SizedZone}
use Rattle.zones.proofs.ZoneLaws.{zones_keep_laws}
use Rattle.docket_rules.proofs.Agrees.{Agrees, AgreesAs, AgreesOpened, PageAgrees, zone_said}
use Rattle.docket_rules.proofs.Moved.{unmoved}
use Rattle.docket_rules.proofs.Listed.{count_few, counts_length, listed_as_many}
use Rattle.docket_rules.proofs.Taken.{listing_not_closed, none_holds}
use Rattle.docket_rules.proofs.Written.{page_agrees, page_kept, page_still_agrees, whole_after, Whole}

module _ {B : Type 0} (kind : Kind B) (net : Net B) (z : Zone B) where
  abbrev posted_log : Log B → Log B
  posted_log log = record log { listed = log.listed ++ (z ∷ []) }

  -- the zones before keep their numbers, and the new one has the next
  said_before : (o : Opening B) (log : Log B) (p : ℕ) → p ≤ length log.listed → zone_said o (posted_log log) p ≡ zone_said o log p
  said_before o log zero below = refl
  said_before o log (suc p) below = get_or_append_left log.listed (z ∷ []) o.target p (omega (arith, below))

  said_last : (o : Opening B) (log : Log B) → zone_said o (posted_log log) (suc (length log.listed)) ≡ z
  said_last o log =
      let none : length log.listed - length log.listed ≡ 0 = omega arith in
      get_or-append_right log.listed (z ∷ []) (length log.listed) (length log.listed) o.target refl (omega arith) ∙ ap (λ n. get_or (z ∷ []) n o.target) none

  module _ (log : Log B) (w u : World B) (o : Opening B) (a : AgreesOpened kind net log o w) (some_left : length log.listed < 63) (step : Posted kind z w u) where
    abbrev last : ℕ
    last = length w.state.counts

    last_is : length w.state.counts ≡ suc (length log.listed)
    last_is = counts_length kind net log o w a

    last_below : length w.state.counts < 64
    last_below = omega (arith, last_is, some_left)

    full : Whole w
    full = record { cells = a.cells; places = a.places }

    counts_now : u.state.counts ≡ w.state.counts ++ (length z.places ∷ [])
    counts_now = ap (λ s. s.counts) step.state

    page_last : PageAgrees kind z (page_of kind u (length w.state.counts))
    page_last =
        let none : last - last ≡ 0 = omega arith in
        page_agrees kind last z w u step.page full last_below
        (ap (λ l. get_or l last 0) counts_now ∙ get_or-append_right w.state.counts (length z.places ∷ []) last last 0 refl (omega arith) ∙ ap (λ n. get_or (length z.places ∷ []) n 0) none)

    module _ (p : ℕ) (below : p ≤ length log.listed) where
      earlier : p < length w.state.counts
      earlier = omega (arith, below, last_is)

      count_still : get_or u.state.counts p 0 ≡ get_or w.state.counts p 0
      count_still = ap (λ l. get_or l p 0) counts_now ∙ get_or_append_left w.state.counts (length z.places ∷ []) 0 p earlier

      still : page_of kind u p ≡ page_of kind w p
      still = page_kept kind last z w u step.page full last_below p earlier (count_few kind net log o w a p below) count_still

      still_agrees : PageAgrees kind (zone_said o (posted_log log) p) (page_of kind u p)
      still_agrees =
          subst (λ y. PageAgrees kind y (page_of kind u p)) (sym (said_before o log p below)) (page_still_agrees kind last z w u step.page full last_below p earlier (count_few kind net log o w a p below) count_still (zone_said o log p) (a.pages p below))

    next_page : PageAgrees kind z (page_of kind u (suc (length log.listed)))
    next_page = subst (λ n. PageAgrees kind z (page_of kind u n)) last_is page_last

    last_agrees : PageAgrees kind (zone_said o (posted_log log) (suc (length log.listed))) (page_of kind u (suc (length log.listed)))
    last_agrees =
        subst (λ y. PageAgrees kind y (page_of kind u (suc (length log.listed)))) (sym (said_last o log)) next_page

    -- a page is one of those before, or the last
    either_page : (P : ℕ → Type 0) → ((p : ℕ) → p ≤ length log.listed → P p) → P (suc (length log.listed)) → (p : ℕ) → p ≤ length (log.listed ++ (z ∷ [])) → P p
    either_page P before at p below =
        let more = length-append log.listed (z ∷ []) in
        ⊎_elim
        (λ less. before p (omega (arith, less)))
        (λ past. let same : suc (length log.listed) ≡ p = omega (arith, past, below, more) in subst P same at)
        (cases_lt p (suc (length log.listed)))

    opened_posted : log.closed ≡ false → SizedZone kind largest_size z → (Satisfies kind 1 z (marking_of w.state.initial) → ⊥) → AgreesOpened kind net (posted_log log) o u
    opened_posted listing small apart =
        let long = whole_after kind last z w u step.page full last_below in
        let none_taken = a.fresh listing in
        let due = all_due net (places_of_all (log.listed ++ (z ∷ []))) in
        let last_apart = λ (m : Satisfies kind 1 (page_of kind u (suc (length log.listed))) (marking_of o.initial)). apart (subst (λ i. Satisfies kind 1 z (marking_of i)) (sym a.initial) ((zones_keep_laws kind).from_form 1 z (page_of kind u (suc (length log.listed))) (marking_of o.initial) (omega arith) small next_page.normal m)) in
        record {
          cells = long.cells;
          places = long.places;
          initial = ap (λ s. s.initial) step.state ∙ a.initial;
          counts = counts_now ∙ ap (λ l. l ++ (length z.places ∷ [])) a.counts ∙ sym (map-append (λ y. length y.places) (o.target ∷ log.listed) (z ∷ []));
          few = omega (arith, some_left, length-append log.listed (z ∷ []));
          pages = either_page (λ p. PageAgrees kind (zone_said o (posted_log log) p) (page_of kind u p)) still_agrees last_agrees;
          apart = λ p some below m. either_page (λ q. 1 ≤ q → Satisfies kind 1 (page_of kind u q) (marking_of o.initial) → ⊥) (λ q under first n. a.apart q first under (subst (λ y. Satisfies kind 1 y (marking_of o.initial)) (still q under) n)) (λ first. last_apart) p below some m;
          answered = subst (λ n. Every (Answered kind net (page_of kind u 0) (listed_pages kind u)) (take n due)) (sym none_taken) tt;
          turn = Some target_item;
          awaits = subst (λ n. Awaits net (places_of_all (log.listed ++ (z ∷ []))) n (Some target_item)) (sym none_taken) (target_leads net (places_of_all (log.listed ++ (z ∷ []))));
          stage = ap (λ s. s.stage) step.state ∙ sym (ap (stage_said net (posted_log log) (Some o)) listing);
          taken = ap (λ s. s.taken) step.state ∙ a.taken;
          fresh = a.fresh;
        }

  post_taken : (log : Log B) (w u : World B) (o : Option (Opening B)) → log.opening ≡ o → AgreesAs kind net log w o → (is_listing w.state.stage ≡ false → ⊥) → (listed_count w.state ≡ 63 → ⊥) → SizedZone kind largest_size z → (Satisfies kind 1 z (marking_of w.state.initial) → ⊥) → Posted kind z w u → Agrees kind net (posted_log log) u
  post_taken log w u None is a listing room small apart step = absurd (listing (ap (λ s. is_listing s.stage) a.1))
  post_taken log w u (Some o) is a listing room small apart step =
      let before = listing_not_closed net log o log.closed (subst (λ s. is_listing s ≡ false → ⊥) a.1.stage listing) in
      let many = listed_as_many kind net log o w a.1 in
      let some_left : length log.listed < 63 = omega (arith, many, room, a.1.few) in
      subst (AgreesAs kind net (posted_log log) u) (sym is) (is, opened_posted log w u o a.1 some_left step before small apart)

module _ {B : Type 0} (kind : Kind B) (net : Net B) where
  record_small : (bytes : List ℕ) → SizedZone kind largest_size (zone_of kind bytes)
  record_small bytes j i p q = omega (arith, zone_small kind bytes j i p q)

  pub keeps_post : (log : Log B) (w u : World B) (zone : List ℕ) (scratch : List B) (answer : Answer) → Agrees kind net log w → Step kind net w (Post zone scratch answer) u → Agrees kind net (with_call kind log (Post zone scratch answer)) u
  keeps_post log w u zone scratch (Ok t) agrees step =
      let fails = none_holds (post_table kind net w.state (whole (with_scratch w scratch)) zone) step.1.answers in
      post_taken kind net (zone_of kind zone) log w u log.opening refl agrees fails.0 fails.1.1.0 (record_small zone) fails.1.1.1.1.1.1.1.1.1.0 (step.1.taken refl)
  keeps_post log w u zone scratch (Err r) agrees step = unmoved kind net log w u (step.1.refused r refl) agrees
