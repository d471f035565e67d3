use Rattle.std.proofs.Common.{[], ◌∷◌, ◌+◌, ◌++◌, string_bytes, codes, ap, ◌∙◌, arith}
use Rattle.std.proofs.lemmas.Result.{IfOk-weaker}
use Rattle.file_words.specs.Tables.{below, cell_text, point_text}
use Rattle.file_words.proofs.Texts.{grown_all, grown_more, two_more}
use Rattle.file_words.proofs.table.write_row.Goals as goal

pub returns : goal.returns
returns g c =
    let cells = cell_text g.B.BoundWords.words (g.T.Bounds.bounds c.args.table.now) c.args.row in
    let named = string_bytes c.write.new.self in
    let filled = string_bytes c.write_cell-2.new.text in
    let all = string_bytes c.writeln.new.self in
    IfOk-weaker c.writeln.result _ _
    (λ _ h. two_more (string_bytes c.args.text.now) named all (codes "  " ++ (point_text c.args.row ++ codes " less:")) (below cells (c.args.tokens + 1) ++ (10 ∷ [])) (c.in_ok-write.ensures.bytes ∙ ap (λ point. string_bytes c.args.text.now ++ (codes "  " ++ (point ++ codes " less:"))) c.point-point.ensures) (two_more named filled all (below cells (c.args.tokens + 1)) (10 ∷ []) (grown_more cells c.args.tokens (c.args.tokens + 1) named (string_bytes c.loop-column.text) filled (omega arith) (grown_all cells c.loop-column.column c.args.tokens named (string_bytes c.loop-column.text) (omega arith) c.loop-column.invariant) c.in_ok-write_cell-2.ensures) h))
    c.writeln.ensures.bytes
