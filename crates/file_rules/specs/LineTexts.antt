-- How a line is written: a word, and decimal numbers with one space between.
use Rattle.std.specs.Prelude.{ℕ, List, ◌++◌, codes, decimal}
use Rattle.docket_dues.specs.declared.item.Item.{Item}
use Rattle.file_rules.specs.FileRefusals.{file_number}
use Rattle.file_rules.specs.declared.line.Line.{Line}
use Rattle.file_rules.specs.declared.line.Line.TheVariants.{Sealed, Due as StillDue, Refused}

-- zone, transition and matching
abbrev pub item_numbers_text : Item → List ℕ
item_numbers_text d =
    decimal d.zone ++ (codes " " ++ (decimal d.transition ++ (codes " " ++ decimal d.matching)))

abbrev pub line_text : Line → List ℕ
line_text (Sealed zones vouchers) =
    codes "sealed " ++ (decimal zones ++ (codes " " ++ decimal vouchers))
line_text (StillDue item vouchers) =
    codes "due " ++ (item_numbers_text item ++ (codes " " ++ decimal vouchers))
line_text (Refused fault) =
    codes "refused " ++ (decimal (file_number fault.refusal) ++ (codes " " ++ decimal fault.at))
