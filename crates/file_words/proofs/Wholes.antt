-- The docket part under its net, the whole file, and the end of its text.
use Rattle.std.specs.Prelude.{MatchBool}
use Rattle.std.proofs.Common.{◌≡◌, ℕ, ◌+◌, ◌*◌, ◌<◌, ◌≤◌, arith, Bool, true, false, leb, List, [], ◌++◌, length, None, Some, Option, sym, refl, ap, ◌∙◌, subst}
use Rattle.std.proofs.lemmas.Bool.{le-leb, leb-true, lt-leb}
use Rattle.bounds.specs.Kinds.{Kind}
use Rattle.bounds.specs.MarkedKind.{marked_kind}
use Rattle.bounds.specs.PlainKind.{plain_kind}
use Rattle.docket_rules.specs.Worlds.{World}
use Rattle.file_check.specs.Files.{Filed, beginning}
use Rattle.file_check.specs.Walks.{TellsFrom}
use Rattle.file_rules.specs.Asks.{docket_asked}
use Rattle.file_rules.specs.Reports.{Reports, ReportsBy, ReportsOf, Runs, net_kind_of}
use Rattle.file_rules.specs.declared.fault.FileRefusal.TheVariants.{Net as InNet}
use Rattle.file_rules.specs.declared.line.Line.{Line}
use Rattle.file_rules.specs.declared.line.Line.TheVariants.{Refused}
use Rattle.file_rules.specs.Telling.{outcome}
use Rattle.file_words.specs.Asked.{DueAdded}
use Rattle.file_words.specs.Lines.{last_line}
use Rattle.file_words.specs.Told.{EndsInLine, Ending, FileTold, KindTold, PartTold, UnderTold, teller_words, told_under}
use Rattle.net_records.proofs.Clean.{sound_clean}
use Rattle.net_records.specs.NetBytes.{net_of, net_size}
use Rattle.net_records.specs.NetRecords.{front_header, net_fault, sound}
use Rattle.net_records.specs.Refusals.{NetFault}
use Rattle.net_records.specs.declared.header.NetHeader.{NetHeader}
use Rattle.net_records.specs.declared.header.NetKind.{NetKind}
use Rattle.net_records.specs.declared.header.NetKind.TheVariants.{Plain, Marked}
use Rattle.net_words.proofs.Texts.{net_whole}
use Rattle.net_words.specs.Explained.{explained_text, net_text, text_by}

-- ---- the file of a net without fault
pub file_told : (bytes held text last : List ℕ) → held ≡ bytes → sound bytes ≡ true → text ≡ net_text held → PartTold bytes text last → FileTold bytes last
file_told bytes held text last same clean whole told =
    let written = subst (λ t. PartTold bytes t last) (whole ∙ net_whole bytes held clean same) told in
    subst (λ f. told_under bytes f last) (sym (sound_clean bytes clean)) written

-- ---- a walk from the beginning of a file
pub under_told : {B : Type 0} (kind : Kind B) (words : B → List ℕ) (bytes : List ℕ) (f : Filed B) (world : World B) (before said whole last : List ℕ) (line : Line) → f ≡ beginning kind bytes → TellsFrom (teller_words kind words) kind f (docket_asked kind f.unread.next f.unread.rest) before said (outcome world line) → Runs kind f.net f.world (docket_asked kind f.unread.next f.unread.rest) line → DueAdded kind words (net_of kind bytes) world said whole → last ≡ whole ++ last_line line → UnderTold kind words bytes before last
under_told kind words bytes f world before said whole last line begins told runs due text = record {
  line = line;
  reports = subst (λ (x : Filed _). Runs kind x.net x.world (docket_asked kind x.unread.next x.unread.rest) line) begins runs;
  said = said;
  told = subst (λ (x : Filed _). TellsFrom (teller_words kind words) kind x (docket_asked kind x.unread.next x.unread.rest) before said (outcome world line)) begins told;
  world = world;
  whole = whole;
  due = due;
  text = text;
}

-- ---- the docket part under its net
module _ (bytes held : List ℕ) (h : NetHeader) (same : held ≡ bytes) (is : h ≡ front_header held) where
  header_here : front_header bytes ≡ h
  header_here = sym (is ∙ ap front_header same)

  size_here : net_size (front_header bytes) ≡ 4 + 41 * h.transitions
  size_here = ap net_size header_here

  pub part_alone : (text : List ℕ) → length bytes ≤ 4 + 41 * h.transitions → PartTold bytes text text
  part_alone text small =
      subst (λ (b : Bool). MatchBool b (text ≡ text) (KindTold (net_kind_of bytes) bytes text text))
      (sym (le-leb (length bytes) (net_size (front_header bytes)) (omega (arith, size_here, small)))) refl

  pub part_docket : (by : NetKind) (text last : List ℕ) → h.kind ≡ by → 4 + 41 * h.transitions < length bytes → KindTold by held text last → PartTold bytes text last
  part_docket by text last kind large told =
      let said : by ≡ net_kind_of bytes = sym kind ∙ ap (λ (k : NetHeader). k.kind) (sym header_here) in
      let of_kind = subst (λ k. KindTold k held text last) said told in
      let of_bytes = subst (λ xs. KindTold (net_kind_of bytes) xs text last) same of_kind in
      subst (λ (b : Bool). MatchBool b (last ≡ text) (KindTold (net_kind_of bytes) bytes text last))
      (sym (lt-leb (length bytes) (net_size (front_header bytes)) (omega (arith, size_here, large)))) of_bytes

-- ---- the end of the text
module _ (bytes : List ℕ) (last : List ℕ) where
  under_ends : {B : Type 0} (kind : Kind B) (words : B → List ℕ) (before : List ℕ) (told : UnderTold kind words bytes before last) → Reports bytes told.line → Ending bytes last
  under_ends kind words before told reports =
      record { line = told.line; reports = reports; front = told.whole; text = told.text }

  kind_ends : (by : NetKind) (before : List ℕ) → ((line : Line) → ReportsOf by bytes line → Reports bytes line) → KindTold by bytes before last → Ending bytes last
  kind_ends Plain before reports told = under_ends plain_kind _ before told (reports told.line told.reports)
  kind_ends Marked before reports told = under_ends marked_kind _ before told (reports told.line told.reports)

  part_ends : (small : Bool) (before : List ℕ) → (small ≡ true → ⊥) → ((line : Line) → ReportsOf (net_kind_of bytes) bytes line → Reports bytes line) → MatchBool small (last ≡ before) (KindTold (net_kind_of bytes) bytes before last) → Ending bytes last
  part_ends true before not_alone reports told = absurd (not_alone refl)
  part_ends false before not_alone reports told = kind_ends (net_kind_of bytes) before reports told

  ends_by : (o : Option NetFault) → net_fault bytes ≡ o → told_under bytes o last → EndsInLine bytes last
  ends_by None clean told not_alone =
      part_ends (leb (length bytes) (net_size (front_header bytes))) (explained_text bytes)
      (λ small. not_alone (record { clean = clean; all = leb-true (length bytes) (net_size (front_header bytes)) small }))
      (λ line reports. subst (λ f. ReportsBy bytes f line) (sym clean) reports) told
  ends_by (Some fault) has told not_alone =
      let line = Refused (record { refusal = InNet fault.refusal; at = fault.at }) in
      let text : explained_text bytes ≡ last_line line = ap (λ f. text_by bytes f) has in
      record {
        line = line;
        reports = subst (λ f. ReportsBy bytes f line) (sym has) refl;
        front = [];
        text = told ∙ text;
      }

  pub ends_in_line : FileTold bytes last → EndsInLine bytes last
  ends_in_line told = ends_by (net_fault bytes) refl told
