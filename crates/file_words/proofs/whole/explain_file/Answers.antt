use Rattle.std.proofs.Common.{string_bytes, sym, subst}
use Rattle.std.proofs.lemmas.Result.{IfOk-weaker}
use Rattle.file_words.proofs.Wholes.{ends_in_line, file_told}
use Rattle.file_words.specs.Told.{told_under}
use Rattle.file_words.proofs.whole.explain_file.Goals as goal

pub returns-in_ok-text-in-Ok-clause-told : goal.returns-in_ok-text-in-Ok-clause-told
returns-in_ok-text-in-Ok-clause-told c =
    let net = c.in-Ok.net in
    let read = c.in-Ok.ensures.answer in
    IfOk-weaker c.with_docket.result _ _ (λ s told. file_told c.args.bytes.now net.bytes.now (string_bytes c.in_ok-text-in-Ok.text) (string_bytes s) read.0 read.1 c.in_ok-text-in-Ok.ensures.ok told) c.with_docket.ensures

pub returns-in_ok-text-in-Ok-clause-line : goal.returns-in_ok-text-in-Ok-clause-line
returns-in_ok-text-in-Ok-clause-line c =
    let net = c.in-Ok.net in
    let read = c.in-Ok.ensures.answer in
    IfOk-weaker c.with_docket.result _ _ (λ s told. ends_in_line c.args.bytes.now (string_bytes s) (file_told c.args.bytes.now net.bytes.now (string_bytes c.in_ok-text-in-Ok.text) (string_bytes s) read.0 read.1 c.in_ok-text-in-Ok.ensures.ok told)) c.with_docket.ensures

pub returns-in-Err-clause-line : goal.returns-in-Err-clause-line
returns-in-Err-clause-line c =
    let bytes = c.args.bytes.now in
    IfOk-weaker c.explain.result _ _ (λ s told. ends_in_line bytes (string_bytes s) (subst (λ f. told_under bytes f (string_bytes s)) (sym c.in-Err.ensures.answer) told)) c.explain.ensures
