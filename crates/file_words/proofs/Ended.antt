-- The docket as a file leaves it was reached by calls, and so its pages are sound.
use Rattle.std.proofs.Common.{◌≡◌, ℕ, List, [], ◌∷◌, ◌++◌, Ok, Err, sym, ap, subst}
use Rattle.bounds.specs.Kinds.{Kind}
use Rattle.docket_rules.specs.Calls.{Sound}
use Rattle.docket_rules.specs.Logs.{Log, no_log, with_call}
use Rattle.docket_rules.specs.Reached.{CallLaws, ReachedByCalls}
use Rattle.docket_rules.specs.Tables.{Answer}
use Rattle.docket_rules.specs.Worlds.{World}
use Rattle.file_check.specs.Files.{Filed, beginning}
use Rattle.file_check.specs.Walks.{TellsFrom}
use Rattle.file_rules.specs.Asks.{Ask, Make, Read, Refuse, Words, docket_asked}
use Rattle.file_rules.specs.Telling.{Outcome, Tells as TellsIn, TellsOn, call_words, outcome}
use Rattle.file_rules.specs.declared.line.Line.{Line}
use Rattle.net_records.specs.NetBytes.{net_of}
use Rattle.nets.specs.Nets.{Net}

module _ {B : Type 0} (kind : Kind B) (net : Net B) (laws : CallLaws kind net) (words : Words B) where
  abbrev Led : World B → Type 0
  Led w = (log : Log B) × ReachedByCalls kind net log w

  led_on : (at : ℕ) (answer : Answer) (v : World B) (said last : List ℕ) (out : Outcome B) (P : Type 0) → Led v → (P → Led out.world) → TellsOn words kind net at answer v said last out P → Led out.world
  led_on at (Ok u) v said last out P here later h = later h
  led_on at (Err r) v said last out P here later h = subst Led (sym (ap (λ o. o.world) h.1)) here

  leads : (asks : List (Ask B)) (w : World B) (before last : List ℕ) (out : Outcome B) → Led w → TellsIn words kind net w asks before last out → Led out.world
  leads [] w before last out here h = subst Led (sym h.1) here
  leads (Read said ∷ later) w before last out here h = leads later w (before ++ said words) last out here h
  leads (Refuse at refusal ∷ later) w before last out here h = subst Led (sym (ap (λ o. o.world) h.1)) here
  leads (Make at call ∷ later) w before last out here h =
      let said = before ++ call_words words w h.1 (call h.0) in
      let there : Led h.1 = (with_call kind here.0 (call h.0), laws.more here.0 w h.1 (call h.0) here.1 h.2) in
      led_on at h.0 h.1 said last out _ there (λ t. leads later h.1 said last out there t) h.3

-- a walk from the beginning of a file
pub leaves_sound : {B : Type 0} (kind : Kind B) (words : Words B) (bytes : List ℕ) (f : Filed B) (world : World B) (before said : List ℕ) (line : Line) → f ≡ beginning kind bytes → CallLaws kind (net_of kind bytes) → ((log : Log B) (w : World B) → ReachedByCalls kind (net_of kind bytes) log w → Sound kind (net_of kind bytes) w) → TellsFrom words kind f (docket_asked kind f.unread.next f.unread.rest) before said (outcome world line) → Sound kind (net_of kind bytes) world
leaves_sound kind words bytes f world before said line begins laws pages told =
    let start = beginning kind bytes in
    let here = subst (λ (x : Filed _). TellsFrom words kind x (docket_asked kind x.unread.next x.unread.rest) before said (outcome world line)) begins told in
    let led = leads kind (net_of kind bytes) laws words (docket_asked kind start.unread.next start.unread.rest) start.world before said (outcome world line) (no_log, laws.start start.world.cells start.world.places) here in
    pages led.0 world led.1
