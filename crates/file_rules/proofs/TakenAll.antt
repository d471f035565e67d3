-- What the docket of a whole file holds where no call is left.
use Rattle.std.proofs.Common.{◌≡◌, ℕ, ◌-◌, Bool, true, false, List, drop, length, replicate, None, Some, refl, sym, ap, ◌∙◌, subst, arith}
use Rattle.std.proofs.lemmas.List.{length-map}
use Rattle.bounds.specs.Kinds.{Kind}
use Rattle.docket_dues.specs.Answered.{places_of_all}
use Rattle.docket_dues.specs.Dues.{all_due}
use Rattle.nets.specs.Nets.{Limits, Net}
use Rattle.net_records.specs.NetBytes.{first_later, later_records, net_of}
use Rattle.net_records.specs.NetRecords.{net_fault}
use Rattle.net_records.proofs.Bounded.{sound_limits}
use Rattle.net_records.proofs.Clean.{clean_sound}
use Rattle.file_rules.specs.Reports.{Ends, ReportsUnder, blank_world}
use Rattle.file_rules.specs.Truth.{AllTaken, file_header_of, initial_of, left_of, listed_of, target_of, tokens_of_file}
use Rattle.file_rules.specs.declared.line.Line.{Line}
use Rattle.docket_rules.specs.Logs.{Log, Opening, counts_said, proving_stage, stage_said, still_due}
use Rattle.docket_rules.specs.Promise.{SealHolds}
use Rattle.docket_rules.specs.Reached.{CallLaws}
use Rattle.docket_rules.specs.Worlds.{State, World, book_cells, book_places, listed_count}
use Rattle.docket_rules.specs.declared.stage.Stage.TheVariants.{Sealed}
use Rattle.zones.specs.Safety.{Safe, starts_at}
use Rattle.zones.specs.Zones.{Zone}
use Rattle.file_rules.proofs.TakenAsks.{Passed}
use Rattle.file_rules.proofs.TakenCalls.{Came, docket_come, zones_as_many}

-- a file that came to its end has been closed
closed_said : {B : Type 0} (net : Net B) (log : Log B) (o : Opening B) (s : State) (line : Line) (closed : Bool) → Ends s (stage_said net log (Some o) closed) line → stage_said net log (Some o) closed ≡ proving_stage (still_due net log)
closed_said net log o s line true ends = refl
closed_said net log o s line false never = absurd never

counted : {B : Type 0} (listed : List (Zone B)) (o : Opening B) → length (counts_said listed (Some o)) - 1 ≡ length listed
counted listed o = omega (arith, length-map listed (λ z. length z.places))

abbrev pub opening_of : {B : Type 0} → Kind B → List ℕ → Opening B
opening_of kind bytes = record { initial = tokens_of_file bytes; target = target_of kind bytes }

-- the docket with which a file ends that is not refused
pub record Whole {B : Type 0} (kind : Kind B) (bytes : List ℕ) (line : Line) : Type 0 where
  pub world : World B
  pub ends : Ends world.state world.state.stage line
  pub all : AllTaken bytes world.state.taken
  pub zones : listed_count world.state ≡ (file_header_of bytes).zones
  pub stage : world.state.stage ≡ proving_stage (left_of kind bytes world.state.taken)
  pub safe : world.state.stage ≡ Sealed → Safe kind (net_of kind bytes) (starts_at (initial_of bytes)) (target_of kind bytes)

module _ {B : Type 0} (kind : Kind B) (bytes : List ℕ) (clean : net_fault bytes ≡ None) where
  pub lawful : Limits kind (net_of kind bytes)
  lawful = sound_limits kind bytes (clean_sound bytes clean)

  module _ (laws : CallLaws kind (net_of kind bytes)) (line : Line) where
    whole_from : (vouchers : ℕ) → AllTaken bytes vouchers → Came kind (net_of kind bytes) line (Some (opening_of kind bytes)) (listed_of kind bytes) vouchers → Whole kind bytes line
    whole_from vouchers all come =
        let net = net_of kind bytes in
        let o = opening_of kind bytes in
        let kept = laws.kept come.log come.world come.reached in
        let s = come.world.state in
        let stage = ap (λ t. t.stage) kept.state ∙ ap (λ opening. stage_said net come.log opening come.log.closed) come.opened in
        let taken = ap (λ t. t.taken) kept.state in
        let counts = ap listed_count kept.state ∙ ap (λ opening. length (counts_said come.log.listed opening) - 1) come.opened in
        let closed = closed_said net come.log o s line come.log.closed (subst (λ g. Ends s g line) stage come.ends) in
        let zones = ap (λ listed. proving_stage (drop come.log.taken (all_due net (places_of_all listed)))) come.zones in
        let vouchers_taken = ap (λ n. proving_stage (left_of kind bytes n)) (sym taken) in
        record {
          world = come.world;
          ends = come.ends;
          all = subst (AllTaken bytes) (sym (taken ∙ come.taken)) all;
          zones = counts ∙ counted come.log.listed o ∙ ap length come.zones ∙ zones_as_many kind (file_header_of bytes).zones _;
          stage = stage ∙ closed ∙ zones ∙ vouchers_taken;
          safe = λ sealed. subst (SealHolds kind net) come.opened (kept.truth sealed);
        }

    pub whole : Passed line → ReportsUnder kind bytes line → Whole kind bytes line
    whole passed runs =
        let net = net_of kind bytes in
        let blank_reached = laws.start (replicate book_cells kind.no_limit) (replicate book_places 0) in
        let come = docket_come kind net laws line passed (first_later bytes) (later_records bytes) (blank_world kind) blank_reached runs in
        whole_from come.0 (record { all = come.1 }) come.2
