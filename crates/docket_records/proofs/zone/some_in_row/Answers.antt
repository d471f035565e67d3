use Rattle.std.proofs.Common.{rules, tests}
use Rattle.docket_records.specs.ZoneRecords.{some_in_row, apart}
use Rattle.docket_records.proofs.zone.some_in_row.Goals as goal

pub returns : goal.returns
unfolding some_in_row
returns g c = λ p gives. c.some_from.ensures (apart p c.args.j) (λ i b q. search (rules, tests, gives))
