-- A blank docket agrees with no call, and every call keeps the docket and the log in agreement.
use Rattle.std.proofs.Common.{ℕ, List, [], ◌∷◌, refl, sym, subst}
use Rattle.bounds.specs.Kinds.{Kind}
use Rattle.nets.specs.Nets.{Limits, Net}
use Rattle.docket_rules.specs.Calls.{Call, Open, Post, Close, Discharge, NextDue, Played, Step}
use Rattle.docket_rules.specs.Logs.{Log, no_log, with_call, with_calls}
use Rattle.docket_rules.specs.Worlds.{World, blank, with_book}
use Rattle.docket_rules.proofs.Agrees.{Agrees}
use Rattle.docket_rules.proofs.KeepsClose.{keeps_close, keeps_next_due}
use Rattle.docket_rules.proofs.KeepsDischarge.{keeps_discharge}
use Rattle.docket_rules.proofs.KeepsOpen.{keeps_open}
use Rattle.docket_rules.proofs.KeepsPost.{keeps_post}

pub agrees_blank : {B : Type 0} (kind : Kind B) (net : Net B) (cells : List B) (places : List ℕ) → Agrees kind net no_log (with_book blank cells places)
agrees_blank kind net cells places = (refl, refl)

module _ {B : Type 0} (kind : Kind B) (net : Net B) (limits : Limits kind net) where
  pub keeps : (log : Log B) (w u : World B) (c : Call B) → Agrees kind net log w → Step kind net w c u → Agrees kind net (with_call kind log c) u
  keeps log w u (Open g target scratch answer) = keeps_open kind net log w u g target scratch answer
  keeps log w u (Post zone scratch answer) = keeps_post kind net log w u zone scratch answer
  keeps log w u (Close answer) = keeps_close kind net log w u answer
  keeps log w u (Discharge voucher scratch answer) = keeps_discharge kind net limits log w u voucher scratch answer
  keeps log w u (NextDue answer) = keeps_next_due kind net log w u answer

  -- and so does every list of calls
  pub keeps_all : (log : Log B) (w u : World B) (calls : List (Call B)) → Agrees kind net log w → Played kind net w calls u → Agrees kind net (with_calls kind log calls) u
  keeps_all log w u [] agrees same = subst (Agrees kind net log) (sym same) agrees
  keeps_all log w u (c ∷ calls) agrees played = keeps_all (with_call kind log c) played.0 u calls (keeps log w played.0 c agrees played.1) played.2
