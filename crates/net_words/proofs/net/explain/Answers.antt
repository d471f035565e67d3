use Rattle.std.proofs.Common.{◌∙◌}
use Rattle.std.proofs.lemmas.Result.{IfOk-weaker}
use Rattle.net_words.proofs.Texts.{refused_whole, net_whole}
use Rattle.net_words.proofs.net.explain.Goals as goal

pub returns-in-Ok : goal.returns-in-Ok
returns-in-Ok c =
    let read = c.in-Ok.ensures.answer in
    IfOk-weaker c.to_string.result _ _ (λ _ h. h ∙ net_whole c.args.bytes.now c.in-Ok.net.bytes.now read.1 read.0) c.to_string.ensures.ok

pub returns-in-Err : goal.returns-in-Err
returns-in-Err c =
    IfOk-weaker c.format.result _ _ (λ _ h. h ∙ refused_whole c.args.bytes.now c.in-Err.fault c.in-Err.ensures.answer) c.format.ensures.ok
