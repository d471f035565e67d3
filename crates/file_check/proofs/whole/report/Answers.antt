use Rattle.std.proofs.Common.{rules}
use Rattle.file_check.proofs.whole.report.Goals as goal
use Rattle.file_rules.specs.Reports.{Reports}

pub returns-clause-truth : goal.returns-clause-truth
returns-clause-truth c =
    let line : Reports c.args.bytes.now c.unwrap_or_else.result = search rules in
    (c.lines_keep_promises.ensures c.args.bytes.now).truth c.unwrap_or_else.result line
