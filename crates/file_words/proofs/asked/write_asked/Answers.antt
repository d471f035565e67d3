use Rattle.std.proofs.Common.{◌≡◌, ◌+◌, ◌++◌, ◌∷◌, ◌∙◌, ap, codes, string_bytes, length, rules}
use Rattle.std.proofs.lemmas.Result.{IfOk-weaker}
use Rattle.file_words.proofs.Texts.{two_more}
use Rattle.file_words.specs.Asked.{asked_head}
use Rattle.file_words.specs.Items.{item_text}
use Rattle.file_words.specs.Tables.{table_text}
use Rattle.file_words.specs.Zones.{places_text}
use Rattle.net_words.specs.Summaries.{counted_text}
use Rattle.zone_cells.specs.Cells.{in_draft}
use Rattle.file_words.proofs.asked.write_asked.Goals as goal

pub returns : goal.returns
returns g c =
    let d = c.args.item in
    let places = c.args.tokens.now.items in
    let start = string_bytes c.args.text.now in
    let named = string_bytes c.write.new.self in
    let all = string_bytes c.write_table.new.text in
    let words = g.B.BoundWords.words in
    let bounds = in_draft g.B.Bound.kind c.args.draft.now in
    let many : c.from.result ≡ length places = c.from.ensures ∙ c.len-count.ensures.value in
    let these : c.deref.result.now ≡ places = search rules in
    let first : named ≡ start ++ asked_head d places = c.in_ok-write.ensures.bytes ∙ (λ i. start ++ (item_text d ++ (codes " asks for: " ++ (counted_text (many i) (codes "token") ++ (10 ∷ places_text (these i)))))) in
    IfOk-weaker c.write_table.result _ _
    (λ _ h. two_more start named all (asked_head d places) (table_text words bounds (length places + 1)) first (h ∙ ap (λ k. named ++ table_text words bounds (k + 1)) c.len-count.ensures.value))
    c.write_table.ensures
