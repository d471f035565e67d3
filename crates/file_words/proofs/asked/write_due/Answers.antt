use Rattle.std.proofs.Common.{string_bytes, refl, sym, ◌∙◌, inl, inr}
use Rattle.std.proofs.lemmas.Result.{IfOk-weaker}
use Rattle.docket_dues.specs.Answered.{ItemZone, VoidItem}
use Rattle.file_words.proofs.Due.{due_added, item_answer}
use Rattle.file_words.specs.Asked.{asked_text, void_line}
use Rattle.zone_cells.specs.Drafts.{draft_zone}
use Rattle.file_words.proofs.asked.write_due.Goals as goal

pub returns-in-Some-item_zone : goal.returns-in-Some-item_zone
returns-in-Some-item_zone g c =
    let kind = g.B.Bound.kind in
    let words = g.B.BoundWords.words in
    let net = g.N.NetStore.net c.args.store.now in
    let w = c.args.file.now.world in
    let d = c.in-Some.item in
    let due = sym c.next_due.ensures ∙ c.in-Some.is in
    let asked = draft_zone kind c.in-Some-item_zone.tokens.items c.item_zone.new.draft in
    let is = item_answer kind net w d due c.requires.sound (λ target listed. ItemZone kind net target listed d.zone d.transition d.matching asked) _ _ _ c.page.ensures.places c.page.ensures.cells c.requires.draft c.in-Some-item_zone.ensures.answered in
    IfOk-weaker c.write_asked.result _ _
    (λ _ text. due_added kind net w d due words (string_bytes c.args.text.now) (string_bytes c.write_asked.new.text) (asked_text words d asked) (inr (asked, is, refl)) text)
    c.write_asked.ensures

pub returns-in-None : goal.returns-in-None
returns-in-None g c =
    let kind = g.B.Bound.kind in
    let words = g.B.BoundWords.words in
    let net = g.N.NetStore.net c.args.store.now in
    let w = c.args.file.now.world in
    let d = c.in-Some.item in
    let due = sym c.next_due.ensures ∙ c.in-Some.is in
    let is = item_answer kind net w d due c.requires.sound (λ target listed. VoidItem kind net target listed d.zone d.transition d.matching) _ _ _ c.page.ensures.places c.page.ensures.cells c.requires.draft c.in-None.ensures.answered in
    IfOk-weaker c.writeln.result _ _
    (λ _ text. due_added kind net w d due words (string_bytes c.args.text.now) (string_bytes c.writeln.new.self) (void_line d) (inl (is, refl)) text)
    c.writeln.ensures.bytes
