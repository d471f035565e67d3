use Rattle.std.proofs.Common.{take, rules}
use Rattle.net_records.specs.NetRecords.{net_header_of, header_refusal}
use Rattle.net_records.proofs.Walks.{tested_at}
use Rattle.net_records.proofs.net.read_header.Goals as goal

pub returns-clause-answer : goal.returns-clause-answer
returns-clause-answer c =
    let parted = c.in_ok-bytes.ensures in
    let bytes = take 4 c.args.reader.now.rest in
    tested_at (net_header_of bytes) (header_refusal bytes) 0 c.read.result c.map_err.result (rw parted.2 at c.read.ensures) c.map_err.ensures.cases (λ e f q. search (rules, parted.4, c.requires))
