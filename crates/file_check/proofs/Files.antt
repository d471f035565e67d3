-- What a whole file comes to, by its net.
use Rattle.std.proofs.Common.{◌≡◌, ℕ, true, List, None, Some, Option, sym, ap, ◌∙◌, subst}
use Rattle.bounds.specs.Kinds.{Kind}
use Rattle.net_records.proofs.Clean.{sound_clean}
use Rattle.net_records.specs.NetRecords.{FaultNumbered, front_header, net_fault, sound}
use Rattle.net_records.specs.Refusals.{NetFault}
use Rattle.net_records.specs.declared.header.NetHeader.{NetHeader}
use Rattle.net_records.specs.declared.header.NetKind.{NetKind}
use Rattle.file_check.specs.Files.{Filed, beginning}
use Rattle.file_rules.specs.Asks.{docket_asked}
use Rattle.file_rules.specs.Numbers.{NetNumbered}
use Rattle.file_rules.specs.Reports.{Reports, ReportsBy, ReportsOf, ReportsUnder, Runs, net_kind_of}
use Rattle.file_rules.specs.declared.line.Line.{Line}

-- a docket that begins blank, with all records that follow the net's
pub under_blank : {B : Type 0} (kind : Kind B) (held : List ℕ) (f : Filed B) (line : Line) → f ≡ beginning kind held → Runs kind f.net f.world (docket_asked kind f.unread.next f.unread.rest) line → ReportsUnder kind held line
under_blank kind held f line begins runs = subst (λ (x : Filed _). Runs kind x.net x.world (docket_asked kind x.unread.next x.unread.rest) line) begins runs

-- by the kind that the header says
pub by_kind : (bytes held : List ℕ) (h : NetHeader) (by : NetKind) (line : Line) → held ≡ bytes → sound bytes ≡ true → h ≡ front_header held → h.kind ≡ by → ReportsOf by held line → Reports bytes line
by_kind bytes held h by line same clean is kind reports =
    let said : by ≡ net_kind_of held = sym kind ∙ ap (λ k. k.kind) is in
    let of_held = subst (λ k. ReportsOf k held line) said reports in
    let of_bytes = subst (λ b. ReportsOf (net_kind_of b) b line) same of_held in
    subst (λ o. ReportsBy bytes o line) (sym (sound_clean bytes clean)) of_bytes

-- ---- the number of a fault in the net
abbrev fault_in : NetFault → Option NetFault → NetFault
fault_in none None = none
fault_in none (Some fault) = fault

abbrev IsNone : Option NetFault → Type 0
IsNone None = Unit {0}
IsNone (Some fault) = ⊥

pub fault_numbered : (bytes : List ℕ) (f : NetFault) → net_fault bytes ≡ Some f → FaultNumbered bytes f → NetNumbered bytes
fault_numbered bytes f has numbered = λ fault e. subst (FaultNumbered bytes) (ap (fault_in f) (sym has ∙ e)) numbered

pub clean_numbered : (bytes : List ℕ) → sound bytes ≡ true → NetNumbered bytes
clean_numbered bytes clean = λ fault e. absurd (subst IsNone (sym (sound_clean bytes clean) ∙ e) tt)
