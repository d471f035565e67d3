-- What a docket that agrees with its calls keeps, and so what is promised of every list of calls.
use Rattle.std.proofs.Common.{refl, ap}
use Rattle.bounds.specs.Kinds.{Kind}
use Rattle.nets.specs.Nets.{Limits, Net}
use Rattle.docket_rules.specs.Logs.{Log, no_log, state_said, with_calls}
use Rattle.docket_rules.specs.Promise.{Kept, Promise}
use Rattle.docket_rules.specs.Worlds.{World, blank, with_book}
use Rattle.docket_rules.proofs.Agrees.{Agrees}
use Rattle.docket_rules.proofs.Keeps.{agrees_blank, keeps_all}
use Rattle.docket_rules.proofs.KeptClosed.{closed_known, closed_later}
use Rattle.docket_rules.proofs.KeptExact.{answers_by_rules, forms_known, state_known, true_seal}
use Rattle.docket_rules.proofs.KeptReach.{all_vouched}

module _ {B : Type 0} (kind : Kind B) (net : Net B) (limits : Limits kind net) where
  kept : (log : Log B) (w : World B) → Agrees kind net log w → Kept kind net log w
  kept log w a =
      record {
        truth = true_seal kind net log w limits log.opening a;
        state = state_known kind net log w a;
        pages = forms_known kind net log w log.opening a;
        exact = answers_by_rules kind net log w a;
        reach = λ zones calls answers after closed forms vouching played.
            let same = ap (λ s. s.counts) (state_known kind net log w a) in
            all_vouched kind net limits (state_said net log) zones vouching log w after same closed forms a refl played;
      }

  pub promised : Promise kind net
  promised cells places calls w played =
      let start = with_book blank cells places in
      let from = agrees_blank kind net cells places in
      let agrees = keeps_all kind net limits no_log start w calls from played in
      record {
        kept = kept (with_calls kind no_log calls) w agrees;
        closes = λ follows. closed_known kind net limits (with_calls kind no_log calls) w agrees (closed_later kind net limits no_log start w calls from follows played);
      }
