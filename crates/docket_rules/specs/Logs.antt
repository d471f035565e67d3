-- What a list of calls has put into a docket, told by the calls that were taken alone: what they
-- gave, as it was given, and what a docket then keeps.
use Rattle.std.specs.Prelude.{ℕ, ◌+◌, ◌≤◌, Bool, true, false, List, [], ◌∷◌, ◌++◌, map, length}
use Rattle.std.specs.Prelude.{drop, Ok, Err, Some, None, Option}
use Rattle.bounds.specs.Kinds.{Kind}
use Rattle.docket_dues.specs.Answered.{places_of_all}
use Rattle.docket_dues.specs.Dues.{all_due}
use Rattle.docket_dues.specs.declared.item.Item.{Item}
use Rattle.docket_records.specs.ZoneRecords.{zone_of}
use Rattle.docket_records.specs.declared.token.InitialToken.{InitialToken}
use Rattle.nets.specs.Nets.{Net, numbered}
use Rattle.docket_rules.specs.Calls.{Call, Open, Post, Close, Discharge, NextDue}
use Rattle.docket_rules.specs.Tables.{initial_tokens}
use Rattle.docket_rules.specs.Worlds.{State}
use Rattle.docket_rules.specs.declared.stage.Stage.{Stage}
use Rattle.docket_rules.specs.declared.stage.Stage.TheVariants.{Blank, Listing, Proving, Sealed}
use Rattle.zones.specs.Zones.{Zone, NormalOf}

-- what the open that was taken has given
pub record Opening (B : Type 0) : Type 0 where
  pub initial : List InitialToken
  pub target : Zone B

abbrev pub opening : {B : Type 0} → (initial : List InitialToken) → (target : Zone B) → Opening B
opening initial target = record { initial = initial; target = target }

pub record Log (B : Type 0) : Type 0 where
  pub opening : Option (Opening B)
  -- the zones of the posts that were taken
  pub listed : List (Zone B)
  -- whether a close was taken
  pub closed : Bool
  -- vouchers taken
  pub taken : ℕ

abbrev pub no_log : {B : Type 0} → Log B
no_log = record { opening = None; listed = []; closed = false; taken = 0 }

-- a call that was refused leaves no trace
abbrev pub with_call : {B : Type 0} → Kind B → Log B → Call B → Log B
with_call kind log (Open g target scratch (Ok u)) =
    record log { opening = Some (opening (initial_tokens g) (zone_of kind target)) }
with_call kind log (Open g target scratch (Err r)) = log
with_call kind log (Post zone scratch (Ok u)) =
    record log { listed = log.listed ++ (zone_of kind zone ∷ []) }
with_call kind log (Post zone scratch (Err r)) = log
with_call kind log (Close (Ok u)) = record log { closed = true }
with_call kind log (Close (Err r)) = log
with_call kind log (Discharge voucher scratch (Ok u)) = record log { taken = log.taken + 1 }
with_call kind log (Discharge voucher scratch (Err r)) = log
with_call kind log (NextDue answer) = log

abbrev pub with_calls : {B : Type 0} → Kind B → Log B → List (Call B) → Log B
with_calls kind log [] = log
with_calls kind log (c ∷ calls) = with_calls kind (with_call kind log c) calls

-- what is still due, the earliest first
abbrev pub still_due : {B : Type 0} → Net B → Log B → List Item
still_due net log = drop log.taken (all_due net (places_of_all log.listed))

-- ---- what the log says that a docket keeps
-- nothing due is the seal
abbrev pub proving_stage : List Item → Stage
proving_stage [] = Sealed
proving_stage (d ∷ later) = Proving d

abbrev pub stage_said : {B : Type 0} → Net B → Log B → Option (Opening B) → Bool → Stage
stage_said net log None closed = Blank
stage_said net log (Some o) false = Listing
stage_said net log (Some o) true = proving_stage (still_due net log)

-- the tokens that were given, and how many each record has, the target's first
abbrev pub initial_said : {B : Type 0} → Option (Opening B) → List InitialToken
initial_said None = []
initial_said (Some o) = o.initial

abbrev pub counts_said : {B : Type 0} → List (Zone B) → Option (Opening B) → List ℕ
counts_said listed None = []
counts_said listed (Some o) = map (λ z. length z.places) (o.target ∷ listed)

abbrev pub state_said : {B : Type 0} → Net B → Log B → State
state_said net log =
    record {
      stage = stage_said net log log.opening log.closed;
      initial = initial_said log.opening;
      counts = counts_said log.listed log.opening;
      taken = log.taken;
    }

-- ---- zones by number, the target's 0: each the normal form of the zone that its record says
abbrev pub FormsOf : {B : Type 0} → Kind B → List (Zone B) → Option (Opening B) →
    (zones : ℕ → Zone B) → Type 0
FormsOf kind listed None zones = Unit {0}
FormsOf kind listed (Some o) zones =
    (p : ℕ) → p ≤ length listed → NormalOf kind (numbered listed p o.target) (zones p)

abbrev pub Forms : {B : Type 0} → Kind B → Log B → (zones : ℕ → Zone B) → Type 0
Forms kind log zones = FormsOf kind log.listed log.opening zones
