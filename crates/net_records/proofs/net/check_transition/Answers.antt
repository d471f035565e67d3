use Rattle.std.proofs.Common.{◌<◌, length, take, rules, arith}
use Rattle.net_records.specs.NetRecords.{transition_refusal}
use Rattle.net_records.proofs.Walks.{tested_at, transition_missing}
use Rattle.net_records.proofs.net.check_transition.Goals as goal

pub returns-in_err-bytes-clause-answer : goal.returns-in_err-bytes-clause-answer
returns-in_err-bytes-clause-answer c =
    let rest = c.args.reader.now.rest in
    let short : length rest < 41 = omega (arith, c.in_err-bytes.ensures.0) in
    search (rules, transition_missing c.args.header c.args.reader.now.next rest short)

pub returns-clause-answer : goal.returns-clause-answer
returns-clause-answer c =
    let parted = c.in_ok-bytes.ensures in
    tested_at tt (transition_refusal c.args.header (take 41 c.args.reader.now.rest)) c.args.reader.now.next c.test.result c.map_err.result (rw parted.2 at c.test.ensures) c.map_err.ensures.cases (λ e f q. search (rules, parted.4))
