-- Where a close comes after an open that was taken, the list of zones is closed: the first close after
-- it is taken, if none was before.
use Rattle.std.proofs.Common.{◌≡◌, true, false, Bool, List, [], ◌∷◌, is_err, Ok, Err, Some, None, Option, refl, sym, ap, ◌∙◌, ⊎_elim}
use Rattle.std.proofs.lemmas.Bool.{false≢true, true≢false}
use Rattle.bounds.specs.Kinds.{Kind}
use Rattle.nets.specs.Nets.{Limits, Net}
use Rattle.docket_refusals.specs.declared.refusal.CallRefusal.{CallRefusal}
use Rattle.docket_rules.specs.Calls.{Call, Open, Post, Close, Discharge, NextDue, Played, Step}
use Rattle.docket_rules.specs.Logs.{Log, Opening, proving_stage, stage_said, still_due, with_call, with_calls}
use Rattle.docket_rules.specs.Promise.{CloseFollows, Closed, IsClose, IsTakenOpen}
use Rattle.docket_rules.specs.Tables.{Answers, close_table, is_listing}
use Rattle.docket_rules.specs.Worlds.{World}
use Rattle.zones.specs.Safety.{Some as SomeOf}
use Rattle.docket_rules.proofs.Agrees.{Agrees, AgreesAs}
use Rattle.docket_rules.proofs.Keeps.{keeps}
use Rattle.docket_rules.proofs.KeptTruth.{none_left}

-- an open was taken
abbrev IsOpened : {B : Type 0} → Option (Opening B) → Type 0
IsOpened None = ⊥
IsOpened (Some o) = Unit {0}

module _ {B : Type 0} (kind : Kind B) where
  -- ---- what was opened or closed stays so
  open_stays : (log : Log B) (c : Call B) → IsOpened log.opening → IsOpened (with_call kind log c).opening
  open_stays log (Open g target scratch (Ok u)) h = tt
  open_stays log (Open g target scratch (Err r)) h = h
  open_stays log (Post zone scratch (Ok u)) h = h
  open_stays log (Post zone scratch (Err r)) h = h
  open_stays log (Close (Ok u)) h = h
  open_stays log (Close (Err r)) h = h
  open_stays log (Discharge voucher scratch (Ok u)) h = h
  open_stays log (Discharge voucher scratch (Err r)) h = h
  open_stays log (NextDue answer) h = h

  closed_stays : (log : Log B) (c : Call B) → log.closed ≡ true → (with_call kind log c).closed ≡ true
  closed_stays log (Open g target scratch (Ok u)) h = h
  closed_stays log (Open g target scratch (Err r)) h = h
  closed_stays log (Post zone scratch (Ok u)) h = h
  closed_stays log (Post zone scratch (Err r)) h = h
  closed_stays log (Close (Ok u)) h = refl
  closed_stays log (Close (Err r)) h = h
  closed_stays log (Discharge voucher scratch (Ok u)) h = h
  closed_stays log (Discharge voucher scratch (Err r)) h = h
  closed_stays log (NextDue answer) h = h

  stays_closed : (log : Log B) (calls : List (Call B)) → log.closed ≡ true → (with_calls kind log calls).closed ≡ true
  stays_closed log [] h = h
  stays_closed log (c ∷ calls) h = stays_closed (with_call kind log c) calls (closed_stays log c h)

  open_taken : (log : Log B) (c : Call B) → IsTakenOpen c → IsOpened (with_call kind log c).opening
  open_taken log (Open g target scratch (Ok u)) h = tt
  open_taken log (Open g target scratch (Err r)) h = absurd h
  open_taken log (Post zone scratch answer) h = absurd h
  open_taken log (Close answer) h = absurd h
  open_taken log (Discharge voucher scratch answer) h = absurd h
  open_taken log (NextDue answer) h = absurd h

  module _ (net : Net B) where
    -- ---- a close that is refused comes after one that was taken
    listing_said : (log : Log B) (o : Option (Opening B)) (closed : Bool) → IsOpened o → is_listing (stage_said net log o closed) ≡ false → closed ≡ true
    listing_said log None closed opened e = absurd opened
    listing_said log (Some o) false opened e = absurd (true≢false e)
    listing_said log (Some o) true opened e = refl

    refused_closed : (log : Log B) (w : World B) (o : Option (Opening B)) → AgreesAs kind net log w o → IsOpened o → (r : CallRefusal) → Answers (close_table w.state) (Err r) → log.closed ≡ true
    refused_closed log w None a opened r answers = absurd opened
    refused_closed log w (Some o) a opened r answers =
        ⊎_elim
        (λ h. listing_said log (Some o) log.closed tt (ap is_listing (sym a.1.stage) ∙ h.0))
        (λ h. absurd (true≢false (ap is_err h.1)))
        answers

    close_closes : (log : Log B) (w u : World B) (c : Call B) → Agrees kind net log w → IsOpened log.opening → IsClose c → Step kind net w c u → (with_call kind log c).closed ≡ true
    close_closes log w u (Open g target scratch answer) a opened is s = absurd is
    close_closes log w u (Post zone scratch answer) a opened is s = absurd is
    close_closes log w u (Close (Ok t)) a opened is s = refl
    close_closes log w u (Close (Err r)) a opened is s = refused_closed log w log.opening a opened r s.0.answers
    close_closes log w u (Discharge voucher scratch answer) a opened is s = absurd is
    close_closes log w u (NextDue answer) a opened is s = absurd is

    module _ (limits : Limits kind net) where
      some_close : (log : Log B) (w u : World B) (calls : List (Call B)) → Agrees kind net log w → IsOpened log.opening → SomeOf IsClose calls → Played kind net w calls u → (with_calls kind log calls).closed ≡ true
      some_close log w u [] a opened some played = absurd some
      some_close log w u (c ∷ calls) a opened some played =
          ⊎_elim
          (λ is. stays_closed (with_call kind log c) calls (close_closes log w played.0 c a opened is played.1))
          (λ later. some_close (with_call kind log c) played.0 u calls (keeps kind net limits log w played.0 c a played.1) (open_stays log c opened) later played.2)
          some

      pub closed_later : (log : Log B) (w u : World B) (calls : List (Call B)) → Agrees kind net log w → CloseFollows calls → Played kind net w calls u → (with_calls kind log calls).closed ≡ true
      closed_later log w u [] a follows played = absurd follows
      closed_later log w u (c ∷ calls) a follows played =
          let next = keeps kind net limits log w played.0 c a played.1 in
          ⊎_elim
          (λ here. some_close (with_call kind log c) played.0 u calls next (open_taken log c here.0) here.1 played.2)
          (λ later. closed_later (with_call kind log c) played.0 u calls next later played.2)
          follows

      -- ---- a closed list is sealed exactly when nothing is due
      closed_opened : (log : Log B) (w : World B) (o : Option (Opening B)) → AgreesAs kind net log w o → log.closed ≡ true → w.state.stage ≡ proving_stage (still_due net log)
      closed_opened log w None a closed = absurd (false≢true (sym (ap (λ l. l.closed) a.0) ∙ closed))
      closed_opened log w (Some o) a closed = a.1.stage ∙ ap (stage_said net log (Some o)) closed

      pub closed_known : (log : Log B) (w : World B) → Agrees kind net log w → log.closed ≡ true → Closed net log w
      closed_known log w a closed =
          let stage = closed_opened log w log.opening a closed in
          record {
            closed = closed;
            sealed = ((λ e. none_left (still_due net log) (sym stage ∙ e)), (λ e. stage ∙ ap proving_stage e));
          }
