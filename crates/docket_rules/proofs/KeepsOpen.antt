-- Open keeps the docket and the log in agreement.
use Rattle.std.proofs.Common.{◌≡◌, ℕ, ◌<◌, false, ◌&&◌, List, [], get_or, Ok, Err, Some, None, Option, refl, sym, ap, ◌∙◌, subst, arith}
use Rattle.std.proofs.lemmas.Bool.{and_parts, true_from_ne_false}
use Rattle.bounds.specs.Kinds.{Kind}
use Rattle.docket_dues.specs.Dues.{target_item}
use Rattle.docket_dues.proofs.Order.{target_leads}
use Rattle.docket_records.specs.ZoneRecords.{zone_of}
use Rattle.nets.specs.Nets.{Net}
use Rattle.docket_rules.specs.Calls.{Open, Opened, Step}
use Rattle.docket_rules.specs.Logs.{Log, Opening, no_log, with_call}
use Rattle.docket_rules.specs.Tables.{Answer, Given, equal_lists, initial_tokens, is_blank, open_table}
use Rattle.docket_rules.specs.Worlds.{World, page_of, whole, with_scratch}
use Rattle.zones.specs.Zones.{Zone}
use Rattle.docket_rules.proofs.Agrees.{Agrees, AgreesAs, AgreesOpened, PageAgrees, zone_said}
use Rattle.docket_rules.proofs.Moved.{unmoved}
use Rattle.docket_rules.proofs.Taken.{none_holds, opened_not_blank}
use Rattle.docket_rules.proofs.Written.{Whole, page_agrees, whole_after, whole_parts}

module _ {B : Type 0} (kind : Kind B) (net : Net B) where
  abbrev opening : Given → Zone B → Opening B
  opening g target = record { initial = initial_tokens g; target = target }

  abbrev opened_log : Log B → Opening B → Log B
  opened_log log o = record log { opening = Some o }

  opened_agrees : (w u : World B) (g : Given) (target : Zone B) → Whole w → Opened kind g target w u → AgreesOpened kind net (opened_log no_log (opening g target)) (opening g target) u
  opened_agrees w u g target full step =
      let o = opening g target in
      let below : 0 < 64 = omega arith in
      let long = whole_after kind 0 target w u step.page full below in
      let page = page_agrees kind 0 target w u step.page full below (ap (λ s. get_or s.counts 0 0) step.state) in
      record {
        cells = long.cells;
        places = long.places;
        initial = ap (λ s. s.initial) step.state;
        counts = ap (λ s. s.counts) step.state;
        few = omega arith;
        pages = λ p few. let first : 0 ≡ p = omega (arith, few) in subst (λ q. PageAgrees kind (zone_said o (opened_log no_log o) q) (page_of kind u q)) first page;
        apart = λ p some few. absurd (omega (arith, some, few));
        answered = tt;
        turn = Some target_item;
        awaits = target_leads net [];
        stage = ap (λ s. s.stage) step.state;
        taken = ap (λ s. s.taken) step.state;
        fresh = λ e. refl;
      }

  open_taken : (log : Log B) (w u : World B) (g : Given) (target : Zone B) (o : Option (Opening B)) → AgreesAs kind net log w o → Whole w → (is_blank w.state.stage ≡ false → ⊥) → Opened kind g target w u → Agrees kind net (opened_log log (opening g target)) u
  open_taken log w u g target None a full fresh step =
      let o = opening g target in
      subst (λ l. Agrees kind net (opened_log l o) u) (sym a.0) (refl, opened_agrees w u g target full step)
  open_taken log w u g target (Some o) a full fresh step =
      absurd (fresh (ap is_blank a.1.stage ∙ opened_not_blank net log o log.closed))

  pub keeps_open : (log : Log B) (w u : World B) (g : Given) (target : List ℕ) (scratch : List B) (answer : Answer) → Agrees kind net log w → Step kind net w (Open g target scratch answer) u → Agrees kind net (with_call kind log (Open g target scratch answer)) u
  keeps_open log w u g target scratch (Ok t) agrees step =
      let fails = none_holds (open_table kind net w.state (whole (with_scratch w scratch)) g target) step.1.answers in
      let memory = and_parts (whole (with_scratch w scratch)) (equal_lists g) (true_from_ne_false (whole (with_scratch w scratch) && equal_lists g) fails.1.0) in
      open_taken log w u g (zone_of kind target) log.opening agrees (whole_parts w scratch memory.0) fails.0 (step.1.taken refl)
  keeps_open log w u g target scratch (Err r) agrees step = unmoved kind net log w u (step.1.refused r refl) agrees
