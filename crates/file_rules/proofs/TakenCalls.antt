-- The calls that a file asks for, up to a line that is no refusal: what they have put into the docket, and how long their records were.
use Rattle.std.proofs.Common.{◌≡◌, ℕ, zero, suc, ◌+◌, ◌*◌, ◌<◌, ◌≤◌, List, [], ◌∷◌, ◌++◌, length, take, drop, Ok, Some, Option, refl, sym, ap, ◌∙◌, subst, arith, length-drop, length-take, drop-drop}
use Rattle.std.proofs.lemmas.List.{append-nil, append_assoc}
use Rattle.bounds.specs.Kinds.{Kind}
use Rattle.docket_records.specs.DocketRecords.{docket_header_of, header_spare}
use Rattle.docket_records.specs.ZoneRecords.{zone_of}
use Rattle.docket_records.specs.declared.docket_header.DocketHeader.{DocketHeader}
use Rattle.docket_records.specs.declared.token.InitialToken.{InitialToken}
use Rattle.nets.specs.Nets.{Net}
use Rattle.file_rules.specs.Asks.{Ask, as_given, docket_asked, marking_asked, proving_asked, scratch_page, target_asked, initial_tokens_of, voucher_count, vouchers_asked, zones_asked}
use Rattle.file_rules.specs.Reports.{Ends, Runs}
use Rattle.file_rules.specs.Truth.{zones_of}
use Rattle.file_rules.specs.declared.line.Line.{Line}
use Rattle.docket_rules.specs.Calls.{Close, Discharge, Open, Post}
use Rattle.docket_rules.specs.Tables.{initial_tokens}
use Rattle.docket_rules.specs.Logs.{Log, Opening, no_log, with_call}
use Rattle.docket_rules.specs.Reached.{CallLaws, ReachedByCalls}
use Rattle.docket_rules.specs.Worlds.{World}
use Rattle.zones.specs.Zones.{Zone}
use Rattle.file_rules.proofs.TakenAsks.{Passed, read_on, tokens_on, took, took_record}

-- where no call is left, after the posts of these zones and so many vouchers
pub record Came {B : Type 0} (kind : Kind B) (net : Net B) (line : Line) (opening : Option (Opening B)) (listed : List (Zone B)) (vouchers : ℕ) : Type 0 where
  pub log : Log B
  pub world : World B
  pub reached : ReachedByCalls kind net log world
  pub ends : Ends world.state world.state.stage line
  pub opened : log.opening ≡ opening
  pub zones : log.listed ≡ listed
  pub taken : log.taken ≡ vouchers

pub zones_as_many : {B : Type 0} (kind : Kind B) (n : ℕ) (rest : List ℕ) → length (zones_of kind n rest) ≡ n
zones_as_many kind zero rest = refl
zones_as_many kind (suc n) rest = ap suc (zones_as_many kind n (drop 192 rest))

-- what an open with these tokens and these bytes of a target gives
abbrev pub opening_given : {B : Type 0} → Kind B → List InitialToken → List ℕ → Opening B
opening_given kind tokens target = record { initial = tokens; target = zone_of kind target }

pub given_again : (tokens : List InitialToken) → initial_tokens (as_given tokens) ≡ tokens
given_again [] = refl
given_again (t ∷ tokens) = ap (λ l. t ∷ l) (given_again tokens)

module _ {B : Type 0} (kind : Kind B) (net : Net B) (laws : CallLaws kind net) (line : Line) (passed : Passed line) where
  vouchers_come : (n at : ℕ) (rest : List ℕ) (log : Log B) (w : World B) → ReachedByCalls kind net log w → 6 * n < length rest + 6 → length rest ≤ 6 * n → Runs kind net w (vouchers_asked kind n at rest) line
      → (length rest ≡ 6 * n) × Came kind net line log.opening log.listed (log.taken + n)
  vouchers_come zero at rest log w reached few all ends =
      (omega (arith, all), record { log = log; world = w; reached = reached; ends = ends; opened = refl; zones = refl; taken = omega arith })
  vouchers_come (suc n) at rest log w reached few all runs =
      let t = took_record kind net line passed w (vouchers_asked kind n (at + 1) (drop 6 rest)) 6 at rest (λ voucher. Discharge voucher (scratch_page kind)) runs in
      let discharge = Discharge (take 6 rest) (scratch_page kind) (Ok tt) in
      let reached_then = laws.more log w t.1.0 discharge reached t.1.1 in
      let left = length-drop 6 rest in
      let later = vouchers_come n (at + 1) (drop 6 rest) (with_call kind log discharge) t.1.0 reached_then (omega (arith, few, t.0, left)) (omega (arith, all, t.0, left)) t.1.2 in
      let one_more : log.taken + 1 + n ≡ log.taken + suc n = omega arith in
      (omega (arith, later.0, t.0, left), subst (Came kind net line log.opening log.listed) one_more later.1)

  proving_come : (at : ℕ) (rest : List ℕ) (log : Log B) (w : World B) → ReachedByCalls kind net log w → Runs kind net w (proving_asked kind at rest) line
      → (length rest ≡ 6 * voucher_count kind rest) × Came kind net line log.opening log.listed (log.taken + voucher_count kind rest)
  proving_come at rest log w reached runs =
      let n = voucher_count kind rest in
      let t = took kind net line passed w (vouchers_asked kind n at rest) at Close runs in
      let reached_then = laws.more log w t.0 (Close (Ok tt)) reached t.1 in
      vouchers_come n at rest (with_call kind log (Close (Ok tt))) t.0 reached_then (omega arith) (omega arith) t.2

  -- so many zones, and then vouchers
  abbrev pub Through : (rest : List ℕ) (zones : ℕ) (opening : Option (Opening B)) (listed : List (Zone B)) (taken : ℕ) → Type 0
  Through rest zones opening listed taken =
      (vouchers : ℕ) × (length rest ≡ 192 * zones + 6 * vouchers) × Came kind net line opening listed (taken + vouchers)

  zones_come : (n at : ℕ) (rest : List ℕ) (log : Log B) (w : World B) → ReachedByCalls kind net log w → Runs kind net w (zones_asked kind n at rest) line → Through rest n log.opening (log.listed ++ zones_of kind n rest) log.taken
  zones_come zero at rest log w reached runs =
      let come = proving_come at rest log w reached runs in
      (voucher_count kind rest, omega (arith, come.0), subst (λ zs. Came kind net line log.opening zs (log.taken + voucher_count kind rest)) (sym (append-nil log.listed)) come.1)
  zones_come (suc n) at rest log w reached runs =
      let t = took_record kind net line passed w (zones_asked kind n (at + 1) (drop 192 rest)) 192 at rest (λ zone. Post zone (scratch_page kind)) runs in
      let post = Post (take 192 rest) (scratch_page kind) (Ok tt) in
      let reached_then = laws.more log w t.1.0 post reached t.1.1 in
      let later = zones_come n (at + 1) (drop 192 rest) (with_call kind log post) t.1.0 reached_then t.1.2 in
      let one_more = append_assoc log.listed (zone_of kind (take 192 rest) ∷ []) (zones_of kind n (drop 192 rest)) in
      (later.0, omega (arith, later.1, t.0, length-drop 192 rest), subst (λ zs. Came kind net line log.opening zs (log.taken + later.0)) one_more later.2)

  with_tokens : (tokens : List InitialToken) (target : List ℕ) (listed : List (Zone B)) (vouchers : ℕ) → Came kind net line (Some (opening_given kind (initial_tokens (as_given tokens)) target)) listed (0 + vouchers) → Came kind net line (Some (opening_given kind tokens target)) listed vouchers
  with_tokens tokens target listed vouchers come =
      let v : 0 + vouchers ≡ vouchers = omega arith in
      record { log = come.log; world = come.world; reached = come.reached; ends = come.ends; opened = come.opened ∙ ap (λ ts. Some (opening_given kind ts target)) (given_again tokens); zones = come.zones; taken = come.taken ∙ v }

  -- the open, and what follows it
  target_come : (tokens : List InitialToken) (zones at : ℕ) (rest : List ℕ) (w : World B) → ReachedByCalls kind net no_log w → Runs kind net w (target_asked kind tokens zones at rest) line
      → (vouchers : ℕ) × (length rest ≡ 192 + 192 * zones + 6 * vouchers) × Came kind net line (Some (opening_given kind tokens (take 192 rest))) (zones_of kind zones (drop 192 rest)) vouchers
  target_come tokens zones at rest w reached runs =
      let target = take 192 rest in
      let t = took_record kind net line passed w (zones_asked kind zones (at + 1) (drop 192 rest)) 192 at rest (λ bytes. Open (as_given tokens) bytes (scratch_page kind)) runs in
      let open_call = Open (as_given tokens) target (scratch_page kind) (Ok tt) in
      let reached_then = laws.more no_log w t.1.0 open_call reached t.1.1 in
      let later = zones_come zones (at + 1) (drop 192 rest) (with_call kind no_log open_call) t.1.0 reached_then t.1.2 in
      (later.0, omega (arith, later.1, t.0, length-drop 192 rest), with_tokens tokens target (zones_of kind zones (drop 192 rest)) later.0 later.2)

  -- the docket part of a file, from a blank docket
  module _ (at : ℕ) (rest : List ℕ) where
    abbrev pub header : DocketHeader
    header = docket_header_of (take 4 rest)

    abbrev pub tokens_end : ℕ
    tokens_end = 4 + 3 * header.initial

    pub docket_come : (w : World B) → ReachedByCalls kind net no_log w → Runs kind net w (docket_asked kind at rest) line
        → (vouchers : ℕ) × (length rest ≡ tokens_end + (192 + 192 * header.zones) + 6 * vouchers) × Came kind net line (Some (opening_given kind (initial_tokens_of header.initial (drop 4 rest)) (take 192 (drop tokens_end rest)))) (zones_of kind header.zones (drop (tokens_end + 192) rest)) vouchers
    docket_come w reached runs =
        let later = drop 4 rest in
        let tokens = initial_tokens_of header.initial later in
        let read = read_on kind net line passed w (marking_asked kind header (at + 1) later) 4 at header_spare docket_header_of (λ header words. words.header header) (take 4 rest) runs in
        let after_tokens = drop (3 * header.initial) later in
        let asked : List (Ask B) = target_asked kind tokens header.zones (at + 1 + header.initial) after_tokens in
        let whole = tokens_on kind net line passed w asked header.initial 1 (at + 1) later read.1 in
        let come = target_come tokens header.zones (at + 1 + header.initial) after_tokens w reached whole.1 in
        let place = drop-drop (3 * header.initial) 4 rest in
        let first_zone = ap (drop 192) place ∙ drop-drop 192 tokens_end rest in
        let Found : List ℕ → List ℕ → Type 0 = λ target zones. Came kind net line (Some (opening_given kind tokens (take 192 target))) (zones_of kind header.zones zones) come.0 in (
          come.0,
          omega (arith, come.1, read.0, whole.0, length-take 4 rest, length-drop 4 rest, length-drop (3 * header.initial) later),
          subst (Found (drop tokens_end rest)) first_zone (subst (λ target. Found target (drop 192 after_tokens)) place come.2),
        )
