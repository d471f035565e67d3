-- What a watcher has said when a file has come to its line: his words for each record, in their
-- order, up to the end or to the first refusal. Of a refusal itself he says nothing.
--     w, v            the docket and the book before and after a call
--     before, last    what was said before these asks, and what with them
use Rattle.std.specs.Prelude.{◌≡◌, ℕ, List, [], ◌∷◌, ◌++◌, Ok, Err}
use Rattle.bounds.specs.Kinds.{Kind}
use Rattle.docket_records.specs.Vouchers.{voucher_of}
use Rattle.docket_refusals.specs.declared.refusal.CallRefusal.TheVariants.{Entry}
use Rattle.docket_rules.specs.Calls.{Call, Open, Post, Close, Discharge, NextDue, Step}
use Rattle.docket_rules.specs.Tables.{Answer}
use Rattle.docket_rules.specs.Worlds.{World}
use Rattle.file_rules.specs.Asks.{Ask, Read, Refuse, Make, Words, docket_asked}
use Rattle.file_rules.specs.Reports.{Ends, blank_world}
use Rattle.file_rules.specs.declared.fault.FileRefusal.TheVariants.{Call as InCall}
use Rattle.file_rules.specs.declared.line.Line.{Line}
use Rattle.file_rules.specs.declared.line.Line.TheVariants.{Refused}
use Rattle.net_records.specs.NetBytes.{first_later, later_records, net_of}
use Rattle.nets.specs.Nets.{Net}

-- the line that a file comes to, and the docket and the book as it leaves them
pub record Outcome (B : Type 0) : Type 0 where
  pub line : Line
  pub world : World B

abbrev pub outcome : {B : Type 0} → World B → Line → Outcome B
outcome world line = record { line = line; world = world }

module _ {B : Type 0} (words : Words B) where
  -- ---- what is said of a call
  -- a zone that was taken
  abbrev pub taken_words : World B → Answer → List ℕ
  taken_words v (Ok u) = words.zone v
  taken_words v (Err r) = []

  -- a voucher is told before its answer, whatever that is
  abbrev pub call_words : World B → World B → Call B → List ℕ
  call_words w v (Open g target scratch answer) = taken_words v answer
  call_words w v (Post zone scratch answer) = taken_words v answer
  call_words w v (Close answer) = []
  call_words w v (Discharge voucher scratch answer) = words.voucher w.state (voucher_of voucher)
  call_words w v (NextDue answer) = []

  module _ (kind : Kind B) (net : Net B) where
    -- ---- the calls, one after the other, as `Runs` makes them
    abbrev pub TellsOn : (at : ℕ) → Answer → World B → (said last : List ℕ) → Outcome B →
        Type 0 → Type 0
    TellsOn at (Ok u) v said last out later = later
    TellsOn at (Err r) v said last out later =
        (last ≡ said) × (out ≡ outcome v (Refused (record { refusal = InCall r; at = at })))

    abbrev pub Tells : World B → List (Ask B) → (before last : List ℕ) → Outcome B → Type 0
    Tells w [] before last out =
        (last ≡ before) × (out.world ≡ w) × Ends w.state w.state.stage out.line
    Tells w (Read said ∷ later) before last out = Tells w later (before ++ said words) last out
    Tells w (Refuse at refusal ∷ later) before last out =
        (last ≡ before)
        × (out ≡ outcome w (Refused (record { refusal = InCall (Entry refusal); at = at })))
    Tells w (Make at call ∷ later) before last out =
        (answer : Answer) × (v : World B) × Step kind net w (call answer) v
        × TellsOn at answer v (before ++ call_words w v (call answer)) last out
        (Tells v later (before ++ call_words w v (call answer)) last out)

-- the docket part of a whole file, from a blank docket on
abbrev pub TellsUnder : {B : Type 0} → Words B → Kind B → List ℕ → (before last : List ℕ) →
    Outcome B → Type 0
TellsUnder words kind bytes before last out =
    Tells words kind (net_of kind bytes) (blank_world kind)
    (docket_asked kind (first_later bytes) (later_records bytes)) before last out
