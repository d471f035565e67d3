-- A file, written for people: its net, then the docket part record by record, each as it is read or
-- given to the docket, what the item that is then due asks for, and at the end the line that the
-- file comes to.
--     before, last     the text so far, and the whole text
use Rattle.std.specs.Prelude.{◌≡◌, ℕ, ◌≤◌, List, ◌++◌, length, Some, None, Option, MatchBool}
use Rattle.std.specs.Prelude.{nat_le}
use Rattle.bounds.specs.Kinds.{Kind}
use Rattle.bounds.specs.MarkedKind.{marked_kind, marked_limit}
use Rattle.bounds.specs.PlainKind.{plain_kind, plain_limit}
use Rattle.bounds.specs.Texts.{limit_text}
use Rattle.docket_rules.specs.Worlds.{World, page_cells_at, listed_count, page_places_at}
use Rattle.file_rules.specs.Asks.{Words}
use Rattle.file_rules.specs.Reports.{Reports, ReportsUnder, net_kind_of}
use Rattle.file_rules.specs.Telling.{TellsUnder, outcome}
use Rattle.file_rules.specs.declared.line.Line.{Line}
use Rattle.file_words.specs.Asked.{DueAdded}
use Rattle.file_words.specs.Heads.{head_line, initial_line}
use Rattle.file_words.specs.Items.{voucher_line}
use Rattle.file_words.specs.Lines.{last_line}
use Rattle.file_words.specs.Zones.{zone_text}
use Rattle.net_records.specs.NetBytes.{net_of, net_size}
use Rattle.net_records.specs.NetRecords.{front_header, net_fault}
use Rattle.net_records.specs.Refusals.{NetFault}
use Rattle.net_records.specs.declared.header.NetKind.{NetKind}
use Rattle.net_records.specs.declared.header.NetKind.TheVariants.{Plain, Marked}
use Rattle.net_words.specs.Explained.{explained_text}
use Rattle.zone_cells.specs.Cells.{in_page}

-- ---- the words of the teller
-- a zone that was taken, from the page that it was written to: the last one
abbrev pub last_page_text : {B : Type 0} → Kind B → (B → List ℕ) → World B → List ℕ
last_page_text kind words w =
    let p = listed_count w.state in
    zone_text words p (page_places_at w p) (in_page kind (page_cells_at w p))

abbrev pub teller_words : {B : Type 0} → Kind B → (B → List ℕ) → Words B
teller_words kind words = record {
  header = head_line;
  token = initial_line;
  zone = last_page_text kind words;
  voucher = voucher_line;
}

-- ---- the docket part of a whole file, from a blank docket on: what the teller says, and the line
pub record UnderTold {B : Type 0} (kind : Kind B) (words : B →
    List ℕ) (bytes before last : List ℕ) : Type 0 where
  pub line : Line
  pub reports : ReportsUnder kind bytes line
  pub said : List ℕ
  pub world : World B
  pub told : TellsUnder (teller_words kind words) kind bytes before said (outcome world line)
  -- in the docket as the file leaves it
  pub whole : List ℕ
  pub due : DueAdded kind words (net_of kind bytes) world said whole
  pub text : last ≡ whole ++ last_line line

abbrev pub KindTold : NetKind → List ℕ → List ℕ → List ℕ → Type 0
KindTold Marked = UnderTold marked_kind (λ b. limit_text (marked_limit b.limit))
KindTold Plain = UnderTold plain_kind (λ b. limit_text (plain_limit b.limit))

-- a net alone has no docket part
abbrev pub PartTold : List ℕ → List ℕ → List ℕ → Type 0
PartTold bytes before last =
    MatchBool (nat_le (length bytes) (net_size (front_header bytes)))
    (last ≡ before)
    (KindTold (net_kind_of bytes) bytes before last)

-- the net, and the docket part where the net has no fault
abbrev pub told_under : List ℕ → Option NetFault → List ℕ → Type 0
told_under bytes None last = PartTold bytes (explained_text bytes) last
told_under bytes (Some fault) last = last ≡ explained_text bytes

abbrev pub FileTold : List ℕ → List ℕ → Type 0
FileTold bytes last = told_under bytes (net_fault bytes) last

-- ---- the end of the text
-- a net without fault, and nothing behind it
pub record IsNetAlone (bytes : List ℕ) : Type 0 where
  pub clean : net_fault bytes ≡ None
  pub all : length bytes ≤ net_size (front_header bytes)

-- the words of the line that is reported of the file
pub record Ending (bytes last : List ℕ) : Type 0 where
  pub line : Line
  pub reports : Reports bytes line
  pub front : List ℕ
  pub text : last ≡ front ++ last_line line

abbrev pub EndsInLine : List ℕ → List ℕ → Type 0
EndsInLine bytes last = (IsNetAlone bytes → ⊥) → Ending bytes last
