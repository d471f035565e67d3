-- Discharge keeps the docket and the log in agreement.
use Rattle.std.proofs.Common.{◌≡◌, ℕ, ◌+◌, ◌≤◌, min, true, false, List, length, Ok, Err, Some, None, Option, refl, sym, ap, ◌∙◌, subst, arith}
use Rattle.std.proofs.lemmas.Bool.{false≢true}
use Rattle.std.proofs.lemmas.List.{length-map}
use Rattle.bounds.specs.Kinds.{Kind}
use Rattle.docket_dues.specs.Answered.{Answered, places_of_all}
use Rattle.docket_dues.specs.Dues.{Awaits, Leads}
use Rattle.docket_dues.specs.declared.item.Item.{Item}
use Rattle.docket_dues.proofs.Counts.{due_at_most}
use Rattle.docket_dues.proofs.Turns.{awaits_next, awaited_below, one_more_answered}
use Rattle.nets.specs.Nets.{Limits, Net}
use Rattle.docket_rules.specs.Calls.{BookKept, Discharge, Discharged, Step, most_taken, stage_of}
use Rattle.docket_rules.specs.Logs.{Log, Opening, with_call, proving_stage, stage_said}
use Rattle.docket_rules.specs.Tables.{Answer, discharge_rules, due_in, is_proving}
use Rattle.docket_rules.specs.Worlds.{State, World, listed_pages, page_of, whole, with_book, with_scratch}
use Rattle.docket_rules.specs.declared.stage.Stage.TheVariants.{Proving}
use Rattle.docket_rules.proofs.Agrees.{Agrees, AgreesAs, AgreesOpened}
use Rattle.docket_rules.proofs.Moved.{world_is, unmoved}
use Rattle.docket_rules.proofs.Listed.{places_listed}
use Rattle.docket_rules.proofs.Sounds.{opened_sound, stage_awaited}
use Rattle.docket_rules.proofs.Taken.{none_begins, proving_closed}

-- with an item awaited, the docket proves it
stage_proving : {B : Type 0} (kind : Kind B) (net : Net B) (log : Log B) (o : Opening B) (w : World B) (a : AgreesOpened kind net log o w) → log.closed ≡ true → (d : Item) → Awaits net (places_of_all log.listed) log.taken (Some d) → w.state.stage ≡ Proving d
stage_proving kind net log o w a closed d awaits =
    a.stage ∙ ap (stage_said net log (Some o)) closed ∙ stage_awaited net (places_of_all log.listed) log.taken (Some d) awaits

module _ {B : Type 0} (kind : Kind B) (net : Net B) (limits : Limits kind net) where
  abbrev discharged_log : Log B → Log B
  discharged_log log = record log { taken = log.taken + 1 }

  abbrev discharged_state : State → Option Item → State
  discharged_state s next = record s { stage = stage_of next; taken = min (s.taken + 1) most_taken }

  module _ (log : Log B) (w : World B) (o : Opening B) (a : AgreesOpened kind net log o w) (closed : log.closed ≡ true) (d : Item) (awaits : Awaits net (places_of_all log.listed) log.taken (Some d)) (next : Option Item) where
    taken_small : log.taken + 1 ≤ most_taken
    taken_small =
        let ps = places_of_all log.listed in
        let few : length ps ≤ 63 = omega (arith, length-map log.listed (λ z. z.places), a.few) in
        omega (arith, awaited_below net ps log.taken d awaits, due_at_most net ps kind limits few)

    opened_discharged : Leads net (places_of_all log.listed) d next → Answered kind net (page_of kind w 0) (listed_pages kind w) d → AgreesOpened kind net (discharged_log log) o (with_book (discharged_state w.state next) w.cells w.places)
    opened_discharged leads answered =
        let ps = places_of_all log.listed in
        let later = awaits_next net ps log.taken d next awaits leads in
        record {
          cells = a.cells;
          places = a.places;
          initial = a.initial;
          counts = a.counts;
          few = a.few;
          pages = a.pages;
          apart = a.apart;
          answered = one_more_answered net ps (Answered kind net (page_of kind w 0) (listed_pages kind w)) log.taken d awaits a.answered answered;
          turn = next;
          awaits = later;
          stage = sym (ap (stage_said net (discharged_log log) (Some o)) closed ∙ stage_awaited net ps (log.taken + 1) next later);
          taken = omega (arith, a.taken, taken_small);
          fresh = λ e. absurd (false≢true (sym e ∙ closed));
        }

  discharge_opened : (log : Log B) (w u : World B) (o : Opening B) (a : AgreesOpened kind net log o w) → log.closed ≡ true → (turn : Option Item) → Awaits net (places_of_all log.listed) log.taken turn → (is_proving w.state.stage ≡ false → ⊥) → (step : Discharged kind net w u.state) → AgreesOpened kind net (discharged_log log) o (with_book (discharged_state w.state step.next) w.cells w.places)
  discharge_opened log w u o a closed None awaits proving step =
      let sealed = a.stage ∙ ap (stage_said net log (Some o)) closed ∙ ap proving_stage awaits in
      absurd (proving (ap is_proving sealed))
  discharge_opened log w u o a closed (Some d) awaits proving step =
      let here = stage_proving kind net log o w a closed d awaits in
      let leads = subst (λ l. Leads net l (due_in w.state.stage) step.next) (places_listed kind net log o w a) step.leads in
      let answered = step.answered (opened_sound kind net log w o a) in
      opened_discharged log w o a closed d awaits step.next
      (subst (λ s. Leads net (places_of_all log.listed) (due_in s) step.next) here leads)
      (subst (λ s. Answered kind net (page_of kind w 0) (listed_pages kind w) (due_in s)) here answered)

  discharge_taken : (log : Log B) (w u : World B) (o : Option (Opening B)) → log.opening ≡ o → AgreesAs kind net log w o → (is_proving w.state.stage ≡ false → ⊥) → Discharged kind net w u.state → BookKept w u → Agrees kind net (discharged_log log) u
  discharge_taken log w u None is a proving step kept = absurd (proving (ap (λ s. is_proving s.stage) a.1))
  discharge_taken log w u (Some o) is a proving step kept =
      let closed = proving_closed net log o log.closed (subst (λ s. is_proving s ≡ false → ⊥) a.1.stage proving) in
      let then = with_book (discharged_state w.state step.next) w.cells w.places in
      let opened = discharge_opened log w u o a.1 closed a.1.turn a.1.awaits proving step in
      subst (Agrees kind net (discharged_log log)) (sym (world_is u step.state kept.cells kept.places)) (subst (AgreesAs kind net (discharged_log log) then) (sym is) (is, opened))

  pub keeps_discharge : (log : Log B) (w u : World B) (voucher : List ℕ) (scratch : List B) (answer : Answer) → Agrees kind net log w → Step kind net w (Discharge voucher scratch answer) u → Agrees kind net (with_call kind log (Discharge voucher scratch answer)) u
  keeps_discharge log w u voucher scratch (Ok t) agrees step =
      discharge_taken log w u log.opening refl agrees (none_begins (discharge_rules w.state (whole (with_scratch w scratch)) voucher) step.1.begins).0 (step.1.taken refl) step.2
  keeps_discharge log w u voucher scratch (Err r) agrees step =
      unmoved kind net log w u (world_is u (step.1.refused r refl) step.2.cells step.2.places) agrees
