-- The line that a file comes to.
--     world    the docket and the book, as they stand between two calls
-- The calls that a file asks for are made one after the other, from a blank docket on, until one is
-- refused or none is left.
use Rattle.std.specs.Prelude.{◌≡◌, ℕ, List, [], ◌∷◌, replicate, Ok, Err, Some, None, Option}
use Rattle.bounds.specs.Kinds.{Kind}
use Rattle.bounds.specs.MarkedKind.{marked_kind}
use Rattle.bounds.specs.PlainKind.{plain_kind}
use Rattle.nets.specs.Nets.{Net}
use Rattle.net_records.specs.NetBytes.{first_later, later_records, net_of}
use Rattle.net_records.specs.NetRecords.{front_header, net_fault}
use Rattle.net_records.specs.Refusals.{NetFault}
use Rattle.net_records.specs.declared.header.NetKind.{NetKind}
use Rattle.net_records.specs.declared.header.NetKind.TheVariants.{Plain, Marked}
use Rattle.docket_refusals.specs.declared.refusal.CallRefusal.TheVariants.{Entry}
use Rattle.file_rules.specs.Asks.{Ask, Read, Refuse, Make, docket_asked}
use Rattle.file_rules.specs.declared.fault.FileRefusal.TheVariants.{Net as InNet, Call as InCall}
use Rattle.file_rules.specs.declared.line.Line.{Line}
use Rattle.file_rules.specs.declared.line.Line.TheVariants.{Sealed as SealedLine, Due as DueLine}
use Rattle.file_rules.specs.declared.line.Line.TheVariants.{Refused}
use Rattle.docket_rules.specs.Calls.{Step}
use Rattle.docket_rules.specs.Tables.{Answer}
use Rattle.docket_rules.specs.Worlds.{State, World, blank, book_cells, book_places, listed_count}
use Rattle.docket_rules.specs.Worlds.{with_book}
use Rattle.docket_rules.specs.declared.stage.Stage.{Stage}
use Rattle.docket_rules.specs.declared.stage.Stage.TheVariants.{Blank, Listing, Proving, Sealed}

-- ---- where no call is left
-- a file that came so far has been opened and closed
abbrev pub Ends : State → Stage → Line → Type 0
Ends s Blank line = ⊥
Ends s Listing line = ⊥
Ends s (Proving d) line = line ≡ DueLine d s.taken
Ends s Sealed line = line ≡ SealedLine (listed_count s) s.taken

-- ---- the calls
-- what is refused ends the file, and the rest of it is not looked at
abbrev pub Goes : (at : ℕ) → Answer → Line → (later : Type 0) → Type 0
Goes at (Ok u) line later = later
Goes at (Err r) line later = line ≡ Refused (record { refusal = InCall r; at = at })

abbrev pub Runs : {B : Type 0} → Kind B → Net B → World B → List (Ask B) → Line → Type 0
Runs kind net w [] line = Ends w.state w.state.stage line
Runs kind net w (Read said ∷ later) line = Runs kind net w later line
Runs kind net w (Refuse at refusal ∷ later) line =
    line ≡ Refused (record { refusal = InCall (Entry refusal); at = at })
Runs kind net w (Make at call ∷ later) line =
    (answer : Answer) × (v : World _) × Step kind net w (call answer) v
    × Goes at answer line (Runs kind net v later line)

-- ---- the whole file
-- a blank docket, over a book of 64 pages
abbrev pub blank_world : {B : Type 0} → Kind B → World B
blank_world kind = with_book blank (replicate book_cells kind.no_limit) (replicate book_places 0)

abbrev pub ReportsUnder : {B : Type 0} → Kind B → List ℕ → Line → Type 0
ReportsUnder kind bytes line =
    Runs kind (net_of kind bytes) (blank_world kind)
    (docket_asked kind (first_later bytes) (later_records bytes)) line

-- by the kind of the net header
abbrev pub ReportsOf : NetKind → List ℕ → Line → Type 0
ReportsOf Plain bytes line = ReportsUnder plain_kind bytes line
ReportsOf Marked bytes line = ReportsUnder marked_kind bytes line

abbrev pub net_kind_of : List ℕ → NetKind
net_kind_of bytes = (front_header bytes).kind

abbrev pub ReportsBy : List ℕ → Option NetFault → Line → Type 0
ReportsBy bytes None line = ReportsOf (net_kind_of bytes) bytes line
ReportsBy bytes (Some fault) line =
    line ≡ Refused (record { refusal = InNet fault.refusal; at = fault.at })

-- the net's records are tested first
abbrev pub Reports : List ℕ → Line → Type 0
Reports bytes line = ReportsBy bytes (net_fault bytes) line
