use Rattle.std.proofs.Common.{◌+◌, string_bytes}
use Rattle.file_words.specs.Tables.{row_text}
use Rattle.file_words.proofs.Texts.{Grown}
use Rattle.file_words.proofs.table.write_table.Given as goal

abbrev pub invariant-loop-row : goal.invariant-loop-row
invariant-loop-row g l =
    Grown (row_text g.B.BoundWords.words (g.T.Bounds.bounds l.table) (l.tokens + 1)) l.row (string_bytes l.initial.text) (string_bytes l.text)
