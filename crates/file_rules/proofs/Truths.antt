-- What a line says of the bytes is true, what it counts is right, and the item that it names is next.
use Rattle.std.proofs.Common.{◌≡◌, ℕ, List, [], ◌∷◌, None, Some, Option, refl, sym, ap, ◌∙◌, subst}
use Rattle.bounds.specs.Kinds.{Kind}
use Rattle.bounds.specs.MarkedKind.{marked_kind}
use Rattle.bounds.specs.PlainKind.{plain_kind}
use Rattle.docket_dues.specs.declared.item.Item.{Item}
use Rattle.net_records.specs.NetRecords.{net_fault}
use Rattle.net_records.specs.Refusals.{NetFault}
use Rattle.net_records.specs.declared.header.NetKind.{NetKind}
use Rattle.net_records.specs.declared.header.NetKind.TheVariants.{Plain, Marked}
use Rattle.file_rules.specs.Reports.{Ends, Reports, ReportsBy, ReportsOf, ReportsUnder, net_kind_of}
use Rattle.file_rules.specs.Truth.{AllTaken, Counts, Items, ItemsOf, ItemsUnder, SafeBytes, SafeOf, SealTrue, Truth, left_of}
use Rattle.file_rules.specs.declared.fault.FileFault.{FileFault}
use Rattle.file_rules.specs.declared.line.Line.{Line}
use Rattle.file_rules.specs.declared.line.Line.TheVariants.{Sealed as SealedLine, Due as DueLine, Refused}
use Rattle.docket_rules.specs.Logs.{proving_stage}
use Rattle.docket_rules.specs.Promise.{first_due}
use Rattle.docket_rules.specs.Worlds.{State, listed_count}
use Rattle.docket_rules.specs.declared.stage.Stage.{Stage}
use Rattle.docket_rules.specs.declared.stage.Stage.TheVariants.{Blank, Listing, Proving, Sealed}
use Rattle.docket_rules.specs.Reached.{CallLaws}
use Rattle.net_records.specs.NetBytes.{net_of}
use Rattle.file_rules.proofs.One.{Lawful}
use Rattle.file_rules.proofs.TakenAll.{lawful, whole}
use Rattle.file_rules.proofs.TakenAsks.{not_refused}

-- ---- the numbers of a line
abbrev IsSealed : Line → Type 0
IsSealed (SealedLine zones vouchers) = Unit {0}
IsSealed (DueLine item vouchers) = ⊥
IsSealed (Refused fault) = ⊥

abbrev zones_in : Line → ℕ
zones_in (SealedLine zones vouchers) = zones
zones_in (DueLine item vouchers) = 0
zones_in (Refused fault) = 0

abbrev vouchers_in : Line → ℕ
vouchers_in (SealedLine zones vouchers) = vouchers
vouchers_in (DueLine item vouchers) = vouchers
vouchers_in (Refused fault) = 0

-- of a line that names none, this one
abbrev item_in : Item → Line → Item
item_in none (SealedLine zones vouchers) = none
item_in none (DueLine item vouchers) = item
item_in none (Refused fault) = none

sealed_ends : (s : State) (stage : Stage) (zones vouchers : ℕ) → Ends s stage (SealedLine zones vouchers) → (stage ≡ Sealed) × (zones ≡ listed_count s) × (vouchers ≡ s.taken)
sealed_ends s Blank zones vouchers never = absurd never
sealed_ends s Listing zones vouchers never = absurd never
sealed_ends s (Proving d) zones vouchers same = absurd (subst IsSealed same tt)
sealed_ends s Sealed zones vouchers same = (refl, ap zones_in same, ap vouchers_in same)

due_ends : (s : State) (stage : Stage) (item : Item) (vouchers : ℕ) → Ends s stage (DueLine item vouchers) → (stage ≡ Proving item) × (vouchers ≡ s.taken)
due_ends s Blank item vouchers never = absurd never
due_ends s Listing item vouchers never = absurd never
due_ends s (Proving d) item vouchers same = (ap (λ line. Proving (item_in item line)) (sym same), ap vouchers_in same)
due_ends s Sealed item vouchers same = absurd (subst IsSealed (sym same) tt)

-- ---- the item that a stage names
abbrev item_named : Stage → Option Item
item_named Blank = None
item_named Listing = None
item_named (Proving d) = Some d
item_named Sealed = None

first_named : (items : List Item) → first_due items ≡ item_named (proving_stage items)
first_named [] = refl
first_named (d ∷ later) = refl

abbrev IsNone : Option Item → Type 0
IsNone None = Unit {0}
IsNone (Some d) = ⊥

none_left : (items : List Item) → first_due items ≡ None → items ≡ []
none_left [] e = refl
none_left (d ∷ later) e = absurd (subst IsNone (sym e) tt)

module _ (plain : Lawful plain_kind) (marked : Lawful marked_kind) (bytes : List ℕ) where
  -- ---- under one kind
  module _ {B : Type 0} (kind : Kind B) (lawful_calls : Lawful kind) (clean : net_fault bytes ≡ None) where
    laws : CallLaws kind (net_of kind bytes)
    laws = lawful_calls (net_of kind bytes) (lawful kind bytes clean)

    safe_under : (zones vouchers : ℕ) → ReportsUnder kind bytes (SealedLine zones vouchers) → SafeBytes kind bytes
    safe_under zones vouchers runs =
        let end = whole kind bytes clean laws (SealedLine zones vouchers) tt runs in
        let sealed = sealed_ends end.world.state end.world.state.stage zones vouchers end.ends in
        record { lawful = lawful kind bytes clean; safe = end.safe sealed.0 }

    counts_under : (line : Line) → ReportsUnder kind bytes line → Counts bytes line
    counts_under (SealedLine zones vouchers) runs =
        let end = whole kind bytes clean laws (SealedLine zones vouchers) tt runs in
        let sealed = sealed_ends end.world.state end.world.state.stage zones vouchers end.ends in
        (sealed.1 ∙ end.zones, subst (AllTaken bytes) (sym sealed.2) end.all)
    counts_under (DueLine item vouchers) runs =
        let end = whole kind bytes clean laws (DueLine item vouchers) tt runs in
        subst (AllTaken bytes) (sym (due_ends end.world.state end.world.state.stage item vouchers end.ends).1) end.all
    counts_under (Refused fault) runs = tt

    items_under : (line : Line) → ReportsUnder kind bytes line → ItemsUnder kind bytes line
    items_under (SealedLine zones vouchers) runs =
        let end = whole kind bytes clean laws (SealedLine zones vouchers) tt runs in
        let s = end.world.state in
        let sealed = sealed_ends s s.stage zones vouchers end.ends in
        let first = first_named (left_of kind bytes s.taken) ∙ ap item_named (sym end.stage ∙ sealed.0) in
        subst (λ n. left_of kind bytes n ≡ []) (sym sealed.2) (none_left (left_of kind bytes s.taken) first)
    items_under (DueLine item vouchers) runs =
        let end = whole kind bytes clean laws (DueLine item vouchers) tt runs in
        let s = end.world.state in
        let due = due_ends s s.stage item vouchers end.ends in
        let first = first_named (left_of kind bytes s.taken) ∙ ap item_named (sym end.stage ∙ due.0) in
        subst (λ n. first_due (left_of kind bytes n) ≡ Some item) (sym due.1) first
    items_under (Refused fault) runs = tt

  -- ---- by the kind of the header
  safe_of : (by : NetKind) → net_fault bytes ≡ None → (zones vouchers : ℕ) → ReportsOf by bytes (SealedLine zones vouchers) → SafeOf by bytes
  safe_of Plain clean zones vouchers runs = safe_under plain_kind plain clean zones vouchers runs
  safe_of Marked clean zones vouchers runs = safe_under marked_kind marked clean zones vouchers runs

  counts_of : (by : NetKind) → net_fault bytes ≡ None → (line : Line) → ReportsOf by bytes line → Counts bytes line
  counts_of Plain clean line runs = counts_under plain_kind plain clean line runs
  counts_of Marked clean line runs = counts_under marked_kind marked clean line runs

  items_of : (by : NetKind) → net_fault bytes ≡ None → (line : Line) → ReportsOf by bytes line → ItemsOf by bytes line
  items_of Plain clean line runs = items_under plain_kind plain clean line runs
  items_of Marked clean line runs = items_under marked_kind marked clean line runs

  refused_items : (by : NetKind) (fault : FileFault) → ItemsOf by bytes (Refused fault)
  refused_items Plain fault = tt
  refused_items Marked fault = tt

  -- ---- by the fault of the net
  true_by : (o : Option NetFault) → net_fault bytes ≡ o → (zones vouchers : ℕ) → ReportsBy bytes o (SealedLine zones vouchers) → SealTrue bytes
  true_by None clean zones vouchers runs = record { net = clean; safe = safe_of (net_kind_of bytes) clean zones vouchers runs }
  true_by (Some fault) has zones vouchers refused = absurd (not_refused (SealedLine zones vouchers) _ tt refused)

  counts_by : (o : Option NetFault) → net_fault bytes ≡ o → (line : Line) → ReportsBy bytes o line → Counts bytes line
  counts_by None clean line runs = counts_of (net_kind_of bytes) clean line runs
  counts_by (Some fault) has line refused = subst (Counts bytes) (sym refused) tt

  items_by : (o : Option NetFault) → net_fault bytes ≡ o → (line : Line) → ReportsBy bytes o line → Items bytes line
  items_by None clean line runs = items_of (net_kind_of bytes) clean line runs
  items_by (Some fault) has line refused = subst (Items bytes) (sym refused) (refused_items (net_kind_of bytes) _)

  pub truth : (line : Line) → Reports bytes line → Truth bytes line
  truth (SealedLine zones vouchers) reports = true_by (net_fault bytes) refl zones vouchers reports
  truth (DueLine item vouchers) reports = tt
  truth (Refused fault) reports = tt

  pub counts : (line : Line) → Reports bytes line → Counts bytes line
  counts line reports = counts_by (net_fault bytes) refl line reports

  pub items : (line : Line) → Reports bytes line → Items bytes line
  items line reports = items_by (net_fault bytes) refl line reports
