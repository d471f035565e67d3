use Rattle.std.proofs.Common.{◌+◌, string_bytes, arith}
use Rattle.std.proofs.lemmas.Result.{IfOk-weaker}
use Rattle.file_words.specs.Tables.{row_text}
use Rattle.file_words.proofs.Texts.{grown_all, grown_more}
use Rattle.file_words.proofs.table.write_table.Goals as goal

pub returns : goal.returns
returns g c =
    let rows = row_text g.B.BoundWords.words (g.T.Bounds.bounds c.args.table.now) (c.args.tokens + 1) in
    let start = string_bytes c.args.text.now in
    let middle = string_bytes c.loop-row.text in
    let all = string_bytes c.write_row-2.new.text in
    IfOk-weaker c.write_row-2.result _ _
    (λ _ h. grown_more rows c.args.tokens (c.args.tokens + 1) start middle all (omega arith) (grown_all rows c.loop-row.row c.args.tokens start middle (omega arith) c.loop-row.invariant) h)
    c.write_row-2.ensures
