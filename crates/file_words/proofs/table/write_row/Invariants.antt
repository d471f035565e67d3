use Rattle.std.proofs.Common.{string_bytes}
use Rattle.file_words.specs.Tables.{cell_text}
use Rattle.file_words.proofs.Texts.{Grown}
use Rattle.file_words.proofs.table.write_row.Given as goal

abbrev pub invariant-loop-column : goal.invariant-loop-column
invariant-loop-column g l =
    Grown (cell_text g.B.BoundWords.words (g.T.Bounds.bounds l.table) l.row) l.column (string_bytes l.initial.text) (string_bytes l.text)
