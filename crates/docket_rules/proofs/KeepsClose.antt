-- Close and next-due keep the docket and the log in agreement.
use Rattle.std.proofs.Common.{◌≡◌, true, false, Ok, Err, Some, None, Option, drop, refl, sym, ap, ◌∙◌, subst}
use Rattle.std.proofs.lemmas.Bool.{false≢true}
use Rattle.bounds.specs.Kinds.{Kind}
use Rattle.docket_dues.specs.Answered.{places_of_all}
use Rattle.docket_dues.specs.Dues.{target_item, all_due}
use Rattle.docket_dues.proofs.Order.{target_leads}
use Rattle.nets.specs.Nets.{Net}
use Rattle.docket_rules.specs.Calls.{Close, NextDue, Step}
use Rattle.docket_rules.specs.Logs.{Log, Opening, with_call, proving_stage}
use Rattle.docket_rules.specs.Tables.{Answer, close_table, is_listing}
use Rattle.docket_rules.specs.Worlds.{State, World, with_book}
use Rattle.docket_rules.specs.declared.stage.Stage.TheVariants.{Proving}
use Rattle.docket_rules.proofs.Agrees.{Agrees, AgreesAs, AgreesOpened}
use Rattle.docket_rules.proofs.Moved.{world_is, unmoved}
use Rattle.docket_rules.proofs.Taken.{none_holds, listing_not_closed}

module _ {B : Type 0} (kind : Kind B) (net : Net B) where
  abbrev closed_log : Log B → Log B
  closed_log log = record log { closed = true }

  abbrev closed_state : State → State
  closed_state s = record s { stage = Proving target_item; taken = 0 }

  opened_closed : (log : Log B) (w : World B) (o : Opening B) → log.closed ≡ false → AgreesOpened kind net log o w → AgreesOpened kind net (closed_log log) o (with_book (closed_state w.state) w.cells w.places)
  opened_closed log w o listing a =
      let none_taken = a.fresh listing in
      let due = all_due net (places_of_all log.listed) in
      record {
        cells = a.cells;
        places = a.places;
        initial = a.initial;
        counts = a.counts;
        few = a.few;
        pages = a.pages;
        apart = a.apart;
        answered = a.answered;
        turn = a.turn;
        awaits = a.awaits;
        stage = sym (ap proving_stage (ap (λ n. drop n due) none_taken ∙ target_leads net (places_of_all log.listed)));
        taken = sym none_taken;
        fresh = λ e. absurd (false≢true (sym e));
      }

  close_taken : (log : Log B) (w u : World B) (o : Option (Opening B)) → log.opening ≡ o → AgreesAs kind net log w o → (is_listing w.state.stage ≡ false → ⊥) → u ≡ with_book (closed_state w.state) w.cells w.places → Agrees kind net (closed_log log) u
  close_taken log w u None is a listing moved = absurd (listing (ap (λ s. is_listing s.stage) a.1))
  close_taken log w u (Some o) is a listing moved =
      let said = a.1.stage in
      let before = listing_not_closed net log o log.closed (subst (λ s. is_listing s ≡ false → ⊥) said listing) in
      subst (Agrees kind net (closed_log log)) (sym moved) (subst (AgreesAs kind net (closed_log log) (with_book (closed_state w.state) w.cells w.places)) (sym is) (is, opened_closed log w o before a.1))

  pub keeps_close : (log : Log B) (w u : World B) (answer : Answer) → Agrees kind net log w → Step kind net w (Close answer) u → Agrees kind net (with_call kind log (Close answer)) u
  keeps_close log w u (Ok t) agrees step =
      let listing = (none_holds (close_table w.state) step.0.answers).0 in
      close_taken log w u log.opening refl agrees listing (world_is u (step.0.taken refl) step.1.cells step.1.places)
  keeps_close log w u (Err r) agrees step =
      unmoved kind net log w u (world_is u (step.0.refused r refl) step.1.cells step.1.places) agrees

  pub keeps_next_due : (log : Log B) (w u : World B) (answer : Option _) → Agrees kind net log w → Step kind net w (NextDue answer) u → Agrees kind net (with_call kind log (NextDue answer)) u
  keeps_next_due log w u answer agrees step = unmoved kind net log w u step.1 agrees
