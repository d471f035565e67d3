-- The rules give one line alone for a file.
use Rattle.std.proofs.Common.{◌≡◌, ℕ, List, replicate, Some, None, Option, refl, sym, ◌∙◌}
use Rattle.bounds.specs.Kinds.{Kind}
use Rattle.bounds.specs.MarkedKind.{marked_kind}
use Rattle.bounds.specs.PlainKind.{plain_kind}
use Rattle.net_records.specs.NetBytes.{first_later, later_records, net_of}
use Rattle.net_records.specs.NetRecords.{net_fault}
use Rattle.net_records.specs.Refusals.{NetFault}
use Rattle.net_records.specs.declared.header.NetKind.{NetKind}
use Rattle.net_records.specs.declared.header.NetKind.TheVariants.{Plain, Marked}
use Rattle.net_records.proofs.Bounded.{sound_limits}
use Rattle.net_records.proofs.Clean.{clean_sound}
use Rattle.file_rules.specs.Asks.{docket_asked}
use Rattle.file_rules.specs.Reports.{Reports, ReportsBy, ReportsOf, ReportsUnder, blank_world, net_kind_of}
use Rattle.file_rules.specs.declared.line.Line.{Line}
use Rattle.docket_rules.specs.Logs.{no_log}
use Rattle.docket_rules.specs.Reached.{CallLaws}
use Rattle.docket_rules.specs.Worlds.{book_cells, book_places}
use Rattle.nets.specs.Nets.{Limits, Net}
use Rattle.file_rules.proofs.OneAsked.{docket_sharp}
use Rattle.file_rules.proofs.OneRun.{one_run}

-- the calls keep their laws over every lawful net
abbrev pub Lawful : {B : Type 0} → Kind B → Type 0
Lawful {B} kind = (net : Net B) → Limits kind net → CallLaws kind net

module _ (plain : Lawful plain_kind) (marked : Lawful marked_kind) (bytes : List ℕ) (line other : Line) where
  one_under : {B : Type 0} (kind : Kind B) → Lawful kind → net_fault bytes ≡ None → ReportsUnder kind bytes line → ReportsUnder kind bytes other → line ≡ other
  one_under kind lawful clean h k =
      let net = net_of kind bytes in
      let laws = lawful net (sound_limits kind bytes (clean_sound bytes clean)) in
      let asks = docket_asked kind (first_later bytes) (later_records bytes) in
      one_run kind net laws asks (docket_sharp kind net laws (first_later bytes) (later_records bytes)) no_log (blank_world kind) (laws.start (replicate book_cells kind.no_limit) (replicate book_places 0)) line other h k

  one_of : (kind : NetKind) → net_fault bytes ≡ None → ReportsOf kind bytes line → ReportsOf kind bytes other → line ≡ other
  one_of Plain clean h k = one_under plain_kind plain clean h k
  one_of Marked clean h k = one_under marked_kind marked clean h k

  one_by : (fault : Option NetFault) → net_fault bytes ≡ fault → ReportsBy bytes fault line → ReportsBy bytes fault other → line ≡ other
  one_by None clean h k = one_of (net_kind_of bytes) clean h k
  one_by (Some fault) is h k = h ∙ sym k

  pub one : Reports bytes line → Reports bytes other → line ≡ other
  one h k = one_by (net_fault bytes) refl h k
