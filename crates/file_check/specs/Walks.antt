-- What a walk through some asks comes to.
--     said    what the watcher has said
use Rattle.std.specs.Prelude.{◌≡◌, ℕ, ◌+◌, ◌*◌, List, [], ◌∷◌, ◌++◌, drop, Ok, Err, Result}
use Rattle.bounds.specs.Kinds.{Kind}
use Rattle.docket_records.specs.Records.{token_size}
use Rattle.docket_records.specs.declared.docket_header.DocketHeader.{DocketHeader}
use Rattle.docket_rules.specs.Calls.{Close}
use Rattle.file_check.specs.Files.{Filed, opening_ask}
use Rattle.file_check.specs.declared.initial.InitialLists.{InitialLists}
use Rattle.file_check.specs.declared.watcher.Ended.{Ended}
use Rattle.file_check.specs.declared.watcher.Ended.TheVariants.{Stopped, Refused}
use Rattle.file_rules.specs.Asks.{Ask, Make, Words, ages_given, docket_asked, header_ask}
use Rattle.file_rules.specs.Asks.{initial_tokens_of, marking_asked, places_given, proving_asked}
use Rattle.file_rules.specs.Asks.{token_ask, tokens_asked, voucher_ask, voucher_count}
use Rattle.file_rules.specs.Asks.{vouchers_asked, zone_ask, zones_asked}
use Rattle.file_rules.specs.Reports.{Runs}
use Rattle.file_rules.specs.Telling.{Outcome, Tells as TellsIn, outcome}
use Rattle.file_rules.specs.declared.line.Line.{Line}
use Rattle.file_rules.specs.declared.line.Line.TheVariants.{Refused as RefusedLine}
use Rattle.net_records.specs.Parts.{Unread}

-- ---- what is asked of what is left to read
module _ {B : Type 0} where
  abbrev pub header_next : Kind B → Unread → Ask B
  header_next kind u = header_ask u.next u.rest

  abbrev pub token_next : (number : ℕ) → Kind B → Unread → Ask B
  token_next number kind u = token_ask number u.next u.rest

  abbrev pub target_next : InitialLists → Kind B → Unread → Ask B
  target_next lists kind u = opening_ask kind lists u

  abbrev pub zone_next : Kind B → Unread → Ask B
  zone_next kind u = zone_ask kind u.next u.rest

  abbrev pub close_next : Kind B → Unread → Ask B
  close_next kind u = Make u.next Close

  abbrev pub voucher_next : Kind B → Unread → Ask B
  voucher_next kind u = voucher_ask kind u.next u.rest

  -- ---- several asks
  abbrev pub zones_next : (n : ℕ) → Kind B → Unread → List (Ask B)
  zones_next n kind u = zones_asked kind n u.next u.rest

  abbrev pub vouchers_next : Kind B → Unread → List (Ask B)
  vouchers_next kind u = vouchers_asked kind (voucher_count kind u.rest) u.next u.rest

  abbrev pub marking_next : DocketHeader → Kind B → Unread → List (Ask B)
  marking_next header kind u = marking_asked kind header u.next u.rest

  abbrev pub proving_next : Kind B → Unread → List (Ask B)
  proving_next kind u = proving_asked kind u.next u.rest

  abbrev pub docket_next : Kind B → Unread → List (Ask B)
  docket_next kind u = docket_asked kind u.next u.rest

  abbrev pub nothing_next : Kind B → Unread → List (Ask B)
  nothing_next kind u = []

-- the file comes to this line
abbrev pub RunsAll : {B : Type 0} → Kind B → Filed B → Line → Type 0
RunsAll kind file line = Runs kind file.net file.world (docket_next kind file.unread) line

module _ {B : Type 0} (words : Words B) (kind : Kind B) where
  -- ---- from this file on
  abbrev pub TellsFrom : Filed B → List (Ask B) → (before last : List ℕ) → Outcome B → Type 0
  TellsFrom file asks before last out = TellsIn words kind file.net file.world asks before last out

  -- to the end of the file, which leaves it so
  abbrev pub TellsAll : (file : Filed B) → (before : List ℕ) → (after : Filed B) →
      (last : List ℕ) → Line → Type 0
  TellsAll file before after last line =
      TellsFrom file (docket_next kind file.unread) before last (outcome after.world line)

  -- ---- a step of the walk, or several
  -- what is told from here on, with all that was told before it, is what is told from the start; a
  -- refusal ends it
  abbrev pub Passes : {X S : Type 0} → Filed B → List (Ask B) → (before : List ℕ) → Filed B →
      (later : List (Ask B)) → (said : List ℕ) → Result X (Ended S) → Type 0
  Passes file asks before after later said (Ok x) =
      (last : List ℕ) (out : Outcome B) →
      TellsFrom after later said last out →
      TellsFrom file asks before last out
  Passes file asks before after later said (Err (Refused fault)) =
      TellsFrom file asks before said (outcome after.world (RefusedLine fault))
  Passes file asks before after later said (Err (Stopped s)) = Unit {0}

  -- through one ask, whatever comes later
  abbrev pub Hears : {X S : Type 0} → (Kind B → Unread → Ask B) → Filed B → (before : List ℕ) →
      Filed B → (said : List ℕ) → Result X (Ended S) → Type 0
  Hears ask file before after said answer =
      (later : List (Ask B)) →
      Passes file (ask kind file.unread ∷ later) before after later said answer

  -- through n initial tokens, whatever comes later
  abbrev pub HearsTokens : {X S : Type 0} → (n : ℕ) → Filed B → (before : List ℕ) →
      Filed B → (said : List ℕ) → Result X (Ended S) → Type 0
  HearsTokens n file before after said answer =
      (later : List (Ask B)) →
      Passes file (tokens_asked n 1 file.unread.next file.unread.rest ++ later) before after later
      said answer

  -- through all that is asked here, up to what is asked then
  abbrev pub HearsAll : {X S : Type 0} → (here then' : Kind B → Unread → List (Ask B)) → Filed B →
      (before : List ℕ) → Filed B → (said : List ℕ) → Result X (Ended S) → Type 0
  HearsAll here then' file before after said answer =
      Passes file (here kind file.unread) before after (then' kind after.unread) said answer

  -- the whole walk: the line, also of a refusal
  abbrev pub Comes : {S : Type 0} → Filed B → List (Ask B) → (before : List ℕ) →
      (after : Filed B) → (last : List ℕ) → Result Line (Ended S) → Type 0
  Comes file asks before after last (Ok line) =
      TellsFrom file asks before last (outcome after.world line)
  Comes file asks before after last (Err (Refused fault)) =
      TellsFrom file asks before last (outcome after.world (RefusedLine fault))
  Comes file asks before after last (Err (Stopped s)) = Unit {0}

-- ---- the initial tokens
-- the lists of n tokens
pub record AsGiven (n : ℕ) (rest : List ℕ) (lists : InitialLists) : Type 0 where
  pub places : lists.places.items ≡ places_given (initial_tokens_of n rest)
  pub ages : lists.ages.items ≡ ages_given (initial_tokens_of n rest)

-- what is left behind n tokens
abbrev pub read_tokens : (n : ℕ) → Unread → Unread
read_tokens n unread = record { rest = drop (token_size * n) unread.rest; next = unread.next + n }
