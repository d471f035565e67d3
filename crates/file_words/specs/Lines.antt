-- The line of a file, written for people.
use Rattle.std.specs.Prelude.{ℕ, List, [], ◌∷◌, ◌++◌, codes}
use Rattle.file_words.specs.Items.{item_text}
use Rattle.net_words.specs.Summaries.{counted_text}
use Rattle.file_rules.specs.FileRefusals.{file_fault_text}
use Rattle.file_rules.specs.declared.line.Line.{Line}
use Rattle.file_rules.specs.declared.line.Line.TheVariants.{Sealed, Due as StillDue, Refused}

abbrev pub line_words : Line → List ℕ
line_words (Sealed zones vouchers) =
    codes "sealed: "
    ++ (counted_text zones (codes "zone")
    ++ (codes ", " ++ counted_text vouchers (codes "voucher")))
line_words (StillDue item vouchers) =
    codes "due: "
    ++ (item_text item ++ (codes ", after " ++ counted_text vouchers (codes "voucher")))
line_words (Refused fault) = codes "refused " ++ file_fault_text fault

abbrev pub last_line : Line → List ℕ
last_line line = line_words line ++ (10 ∷ [])
