-- How a caller's calls lead on, from the blank docket to what is promised.
--
use Rattle.std.specs.Prelude.{◌++◌}
use Rattle.std.proofs.Common.{◌≡◌, ℕ, List, [], ◌∷◌, refl, sym, ap, ◌∙◌, subst}
use Rattle.bounds.specs.Kinds.{Kind}
use Rattle.nets.specs.Nets.{Net}
use Rattle.docket_rules.specs.Calls.{Call, Played, Step}
use Rattle.docket_rules.specs.Logs.{Log, no_log, with_call, with_calls}
use Rattle.docket_rules.specs.Promise.{Kept, Promise}
use Rattle.docket_rules.specs.Reached.{ReachedByCalls}
use Rattle.docket_rules.specs.Worlds.{World, blank, with_book}

module _ {B : Type 0} (kind : Kind B) (net : Net B) where
  one_more : (w u v : World B) (calls : List (Call B)) (c : Call B) → Played kind net w calls u → Step kind net u c v → Played kind net w (calls ++ (c ∷ [])) v
  one_more w u v [] c played step = (v, subst (λ x. Step kind net x c v) played step, refl)
  one_more w u v (d ∷ calls) c played step = (played.0, played.1, one_more played.0 u v calls c played.2 step)

  logged_more : (log : Log B) (calls : List (Call B)) (c : Call B) → with_calls kind log (calls ++ (c ∷ [])) ≡ with_call kind (with_calls kind log calls) c
  logged_more log [] c = refl
  logged_more log (d ∷ calls) c = logged_more (with_call kind log d) calls c

  pub reached_blank : (cells : List B) (places : List ℕ) → ReachedByCalls kind net no_log (with_book blank cells places)
  reached_blank cells places = record { cells = cells; places = places; calls = []; played = refl; logged = refl }

  pub reached_step : (log : Log B) (w v : World B) (c : Call B) → ReachedByCalls kind net log w → Step kind net w c v → ReachedByCalls kind net (with_call kind log c) v
  reached_step log w v c r step =
      record {
        cells = r.cells;
        places = r.places;
        calls = r.calls ++ (c ∷ []);
        played = one_more (with_book blank r.cells r.places) w v r.calls c r.played step;
        logged = ap (λ l. with_call kind l c) r.logged ∙ sym (logged_more no_log r.calls c);
      }

  pub reached_kept : (log : Log B) (w : World B) → Promise kind net → ReachedByCalls kind net log w → Kept kind net log w
  reached_kept log w promise r = subst (λ l. Kept kind net l w) (sym r.logged) (promise r.cells r.places r.calls w r.played).kept
