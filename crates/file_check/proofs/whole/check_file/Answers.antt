use Rattle.bounds.specs.MarkedKind.{marked_kind}
use Rattle.bounds.specs.PlainKind.{plain_kind}
use Rattle.file_check.proofs.Files.{by_kind, clean_numbered, fault_numbered, under_blank}
use Rattle.file_check.proofs.whole.check_file.Goals as goal
use Rattle.net_records.specs.declared.header.NetKind.TheVariants.{Plain, Marked}

pub returns-in-Plain-clause-line : goal.returns-in-Plain-clause-line
returns-in-Plain-clause-line c =
    let held = c.in_ok-net.net.bytes.now in
    let line = c.line_of.result in
    by_kind c.args.bytes.now held c.header.result Plain line c.in_ok-net.ensures.answer.0 c.in_ok-net.ensures.answer.1 c.header.ensures c.in-Plain.is
    (under_blank plain_kind held c.new-file.result line c.new-file.ensures c.line_of.ensures)

pub returns-in-Marked-clause-line : goal.returns-in-Marked-clause-line
returns-in-Marked-clause-line c =
    let held = c.in_ok-net.net.bytes.now in
    let line = c.line_of-in-Marked.result in
    by_kind c.args.bytes.now held c.header.result Marked line c.in_ok-net.ensures.answer.0 c.in_ok-net.ensures.answer.1 c.header.ensures c.in-Marked.is
    (under_blank marked_kind held c.new-file-in-Marked.result line c.new-file-in-Marked.ensures c.line_of-in-Marked.ensures)

pub returns-in_err-net-clause-number : goal.returns-in_err-net-clause-number
returns-in_err-net-clause-number c =
    fault_numbered c.args.bytes.now c.in_err-net.field-0.0 c.in_err-net.ensures.answer c.in_err-net.ensures.number

pub returns-in-Plain-clause-number : goal.returns-in-Plain-clause-number
returns-in-Plain-clause-number c = clean_numbered c.args.bytes.now c.in_ok-net.ensures.answer.1

pub returns-in-Marked-clause-number : goal.returns-in-Marked-clause-number
returns-in-Marked-clause-number c = clean_numbered c.args.bytes.now c.in_ok-net.ensures.answer.1
