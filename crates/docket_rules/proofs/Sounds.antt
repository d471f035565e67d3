-- The pages of a docket that agrees with its calls are sound, and so is the item that is due.
use Rattle.std.proofs.Common.{◌≡◌, ℕ, Bool, true, false, List, length, drop, Option, Some, None, refl, sym, ap, ◌∙◌, subst, arith}
use Rattle.std.proofs.lemmas.Bool.{false≢true}
use Rattle.bounds.specs.Kinds.{Kind}
use Rattle.docket_dues.specs.Answered.{places_of_all}
use Rattle.docket_dues.specs.DueLaws.{IsDue}
use Rattle.docket_dues.specs.Dues.{Awaits, all_due}
use Rattle.docket_dues.specs.declared.item.Item.{Item}
use Rattle.docket_dues.proofs.Turns.{awaited_is_due}
use Rattle.nets.specs.Nets.{Net}
use Rattle.docket_rules.specs.Calls.{Sound, stage_of}
use Rattle.docket_rules.specs.Logs.{Log, Opening, proving_stage, stage_said}
use Rattle.docket_rules.specs.Tables.{due_in, is_proving}
use Rattle.docket_rules.specs.Worlds.{World, listed_pages}
use Rattle.docket_rules.proofs.Agrees.{AgreesAs, AgreesOpened}
use Rattle.docket_rules.proofs.Listed.{counts_length, places_listed}

module _ {B : Type 0} (net : Net B) (listed : List (List ℕ)) (n : ℕ) where
  -- the stage that an awaited item says
  pub stage_awaited : (turn : Option Item) → Awaits net listed n turn → proving_stage (drop n (all_due net listed)) ≡ stage_of turn
  stage_awaited None awaits = ap proving_stage awaits
  stage_awaited (Some d) awaits = ap proving_stage awaits

  turn_is_due : (turn : Option Item) → Awaits net listed n turn → IsDue net listed (due_in (stage_of turn))
  turn_is_due None awaits = (refl, refl)
  turn_is_due (Some d) awaits = awaited_is_due net listed n d awaits

module _ {B : Type 0} (kind : Kind B) (net : Net B) (log : Log B) (w : World B) where
  abbrev listed : List (List ℕ)
  listed = places_of_all log.listed

  said_is_due : (o : Opening B) → AgreesOpened kind net log o w → (closed : Bool) → IsDue net listed (due_in (stage_said net log (Some o) closed))
  said_is_due o a false = (refl, refl)
  said_is_due o a true =
      subst (λ s. IsDue net listed (due_in s)) (sym (stage_awaited net listed log.taken a.turn a.awaits)) (turn_is_due net listed log.taken a.turn a.awaits)

  pub opened_sound : (o : Opening B) → AgreesOpened kind net log o w → Sound kind net w
  opened_sound o a =
      let said = subst (λ l. IsDue net l (due_in (stage_said net log (Some o) log.closed))) (sym (places_listed kind net log o w a)) (said_is_due o a log.closed) in
      record {
        opened = λ proving. omega (arith, counts_length kind net log o w a);
        pages = λ p below. (a.pages p (omega (arith, below, counts_length kind net log o w a))).formed;
        due = subst (λ s. IsDue net (places_of_all (listed_pages kind w)) (due_in s)) (sym a.stage) said;
      }

  pub agrees_sound : (o : Option (Opening B)) → AgreesAs kind net log w o → Sound kind net w
  agrees_sound None a =
      record {
        opened = λ proving. absurd (false≢true (ap (λ s. is_proving s.stage) (sym a.1) ∙ proving));
        pages = λ p below. let none = ap (λ s. length s.counts) a.1 in absurd (omega (arith, below, none));
        due = subst (λ s. IsDue net (places_of_all (listed_pages kind w)) (due_in s.stage)) (sym a.1) (refl, refl);
      }
  agrees_sound (Some o) a = opened_sound o a.1
