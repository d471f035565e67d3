-- A file as it stands between two steps, and what one step comes to.
use Rattle.std.specs.Prelude.{◌≡◌, ℕ, ◌<◌, ◌≤◌, List, length, take, Ok, Err, Result, Some, None}
use Rattle.std.specs.Prelude.{Option}
use Rattle.bounds.specs.Kinds.{Kind}
use Rattle.docket_records.specs.Records.{zone_size}
use Rattle.docket_records.specs.declared.fault.EntryRefusal.{EntryRefusal}
use Rattle.docket_records.specs.declared.fault.EntryRefusal.TheVariants.{WrongLength}
use Rattle.docket_refusals.specs.declared.refusal.CallRefusal.{CallRefusal}
use Rattle.docket_refusals.specs.declared.refusal.CallRefusal.TheVariants.{Entry}
use Rattle.docket_rules.specs.Calls.{Open, Step}
use Rattle.docket_rules.specs.Tables.{Answer, given}
use Rattle.docket_rules.specs.Worlds.{State, World}
use Rattle.docket_rules.specs.declared.stage.Stage.{Stage}
use Rattle.docket_rules.specs.declared.stage.Stage.TheVariants.{Blank, Listing, Proving, Sealed}
use Rattle.file_check.specs.declared.initial.InitialLists.{InitialLists}
use Rattle.file_rules.specs.Asks.{Ask, Read, Refuse, Make, scratch_page, with_record}
use Rattle.file_rules.specs.Reports.{Ends, blank_world}
use Rattle.file_rules.specs.declared.fault.FileFault.{FileFault}
use Rattle.file_rules.specs.declared.fault.FileRefusal.TheVariants.{Call as InCall}
use Rattle.file_rules.specs.declared.line.Line.{Line}
use Rattle.file_rules.specs.declared.line.Line.TheVariants.{Refused}
use Rattle.net_records.specs.NetBytes.{after_net, net_of}
use Rattle.net_records.specs.Parts.{Moved, Unread, asked, past}
use Rattle.net_records.specs.declared.reader.Part.{Part}
use Rattle.nets.specs.Nets.{Net}

-- the net, what is left to read, and the docket with its book
pub record Filed (B : Type 0) : Type 0 where
  pub net : Net B
  pub unread : Unread
  pub world : World B

-- a blank docket, and all records that follow the net's
abbrev pub beginning : {B : Type 0} → Kind B → (bytes : List ℕ) → Filed B
beginning kind bytes = record {
  net = net_of kind bytes;
  unread = after_net bytes;
  world = blank_world kind;
}

-- no call was made
abbrev pub Waits : {B : Type 0} → (before after : Filed B) → Type 0
Waits before after = after ≡ record before { unread = after.unread }

-- ---- a record that no call is made of
abbrev pub read_at : {X : Type 0} → (at : ℕ) → Result X EntryRefusal → Result X FileFault
read_at at (Ok x) = Ok x
read_at at (Err refusal) = Err (record { refusal = InCall (Entry refusal); at = at })

pub record Reads {B X : Type 0} (size : ℕ) (said : List ℕ → Result X EntryRefusal)
    (before : Filed B) (answer : Result X FileFault) (after : Filed B) : Type 0 where
  pub read : answer ≡ read_at before.unread.next (said (take size before.unread.rest))
  pub left : after.unread ≡ asked size before.unread
  pub moved : Moved size before.unread answer after.unread
  pub waits : Waits before after

-- a record of this size with its number, or that it is cut short, and then nothing moves
abbrev pub PartTaken : (size : ℕ) → (before : Unread) → Result Part FileFault → (after : Unread) →
    Type 0
PartTaken size before (Ok part) after =
    (size ≤ length before.rest) × (part.bytes.now ≡ take size before.rest) × (part.at ≡ before.next)
    × (after ≡ past size before)
PartTaken size before (Err fault) after =
    (length before.rest < size)
    × (fault ≡ record { refusal = InCall (Entry WrongLength); at = before.next })
    × (after ≡ before)

-- ---- a call
-- a refused one, with the record that asked for it
abbrev pub filed : (at : ℕ) → Answer → Result (Unit {0}) FileFault
filed at (Ok u) = Ok tt
filed at (Err r) = Err (record { refusal = InCall r; at = at })

-- the call that a record asks for is made, or the record is refused before it
abbrev pub AskMade : {B : Type 0} → Kind B → Net B → World B → Ask B → World B →
    Result (Unit {0}) FileFault → Type 0
AskMade kind net w (Read said) v answer = ⊥
AskMade kind net w (Refuse at refusal) v (Ok u) = ⊥
AskMade kind net w (Refuse at refusal) v (Err fault) =
    (fault ≡ record { refusal = InCall (Entry refusal); at = at }) × (v ≡ w)
AskMade kind net w (Make at call) v (Ok u) = Step kind net w (call (Ok tt)) v
AskMade kind net w (Make at call) v (Err fault) =
    (r : CallRefusal) × Step kind net w (call (Err r)) v
    × (fault ≡ record { refusal = InCall r; at = at })

pub record Called {B : Type 0} (kind : Kind B) (ask : Ask B) (before : Filed B)
    (answer : Result (Unit {0}) FileFault) (after : Filed B) : Type 0 where
  pub made : AskMade kind before.net before.world ask after.world answer
  pub net : after.net ≡ before.net

-- the open with these lists and the next record
abbrev pub opening_ask : {B : Type 0} → Kind B → InitialLists → Unread → Ask B
opening_ask kind lists unread =
    with_record zone_size unread.next unread.rest
    (λ target. Open (given lists.places.items lists.ages.items) target (scratch_page kind))

-- ---- the line of a file that ends here; none until the list is closed
abbrev pub IsLine : State → Option Line → Type 0
IsLine s (Some line) = Ends s s.stage line
IsLine s None = (line : Line) → Ends s s.stage line → ⊥

-- the list of zones is closed
abbrev pub IsClosed : Stage → Type 0
IsClosed Blank = ⊥
IsClosed Listing = ⊥
IsClosed (Proving d) = Unit {0}
IsClosed Sealed = Unit {0}

-- a fault as a line
abbrev pub line_from : Result Line FileFault → Line
line_from (Ok line) = line
line_from (Err fault) = Refused fault
