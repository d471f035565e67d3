use Rattle.std.proofs.Common.{rules}
use Rattle.docket_records.specs.ZoneRecords.{bound_at}
use Rattle.zone_walks.specs.Walks.{counted}
use Rattle.zone_reading.proofs.Records.{record_kept, record_run, record_formed}
use Rattle.zone_reading.proofs.form.TestedRecord.form.Goals as goal

pub returns-clause-kept : goal.returns-clause-kept
returns-clause-kept g c =
    let filled = c.fill.ensures (counted g.B.Bound.kind (bound_at g.B.Bound.kind c.args.self.now.record.bytes.now)) (λ j i b below_j below_i k. search rules) in
    record_kept g.B.Bound.kind c.args.self.now.record.bytes.now c.args.self.now.few c.tokens-tokens.result c.tokens-tokens.ensures _ _ _ filled _ c.settle_all.ensures

pub returns-clause-run : goal.returns-clause-run
returns-clause-run g c =
    let filled = c.fill.ensures (counted g.B.Bound.kind (bound_at g.B.Bound.kind c.args.self.now.record.bytes.now)) (λ j i b below_j below_i k. search rules) in
    record_run g.B.Bound.kind c.args.self.now.record.bytes.now c.args.self.now.few c.tokens-tokens.result c.tokens-tokens.ensures _ _ _ filled _ c.settle_all.ensures

pub returns-clause-formed : goal.returns-clause-formed
returns-clause-formed g c =
    let filled = c.fill.ensures (counted g.B.Bound.kind (bound_at g.B.Bound.kind c.args.self.now.record.bytes.now)) (λ j i b below_j below_i k. search rules) in
    record_formed g.B.Bound.kind c.args.self.now.record.bytes.now c.args.self.now.few c.tokens-tokens.result c.tokens-tokens.ensures _ _ _ filled _ c.settle_all.ensures
