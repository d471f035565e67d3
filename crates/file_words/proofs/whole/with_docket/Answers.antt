use Rattle.std.proofs.Common.{string_bytes, arith}
use Rattle.std.proofs.lemmas.Result.{IfOk-weaker}
use Rattle.file_words.proofs.Wholes.{part_docket}
use Rattle.net_records.specs.declared.header.NetKind.TheVariants.{Plain, Marked}
use Rattle.file_words.proofs.whole.with_docket.Goals as goal

pub returns-in-Plain : goal.returns-in-Plain
returns-in-Plain c =
    let bytes = c.args.bytes.now in
    let net = c.args.net in
    let text = string_bytes c.args.text in
    IfOk-weaker c.with_records.result _ _ (λ s told. part_docket bytes net.bytes.now c.header-header.result c.requires c.header-header.ensures Plain text (string_bytes s) c.in-Plain.is (omega arith) told) c.with_records.ensures

pub returns-in-Marked : goal.returns-in-Marked
returns-in-Marked c =
    let bytes = c.args.bytes.now in
    let net = c.args.net in
    let text = string_bytes c.args.text in
    IfOk-weaker c.with_records-in-Marked.result _ _ (λ s told. part_docket bytes net.bytes.now c.header-header.result c.requires c.header-header.ensures Marked text (string_bytes s) c.in-Marked.is (omega arith) told) c.with_records-in-Marked.ensures
