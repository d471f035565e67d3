use Rattle.std.proofs.Common.{[], refl, arith}
use Rattle.std.proofs.lemmas.Result.{err_from_is_err_and}
use Rattle.file_check.proofs.Walking.{passes_out, zones_all, zones_here, zones_on}
use Rattle.file_rules.specs.Asks.{proving_asked}
use Rattle.file_check.proofs.file.DocketFile.told_zones.Goals as goal

pub loop-preserved : goal.loop-preserved
loop-preserved g c =
    let step = c.in_ok-told_zone.ensures in
    record {
      going = zones_on g.W.Watcher.words g.B.Bound.kind c.args.count c.loop.counter c.loop-test.true _ _ _ _ _ c.loop.invariant.going _ _ (step.moved refl) step.told;
      few = omega (arith, c.loop-test.true);
    }

pub returns-in_err-told_zone : goal.returns-in_err-told_zone
returns-in_err-told_zone g c =
    let words = g.W.Watcher.words in
    let kind = g.B.Bound.kind in
    let p = err_from_is_err_and c.from_residual.result c.from_residual.ensures.1 in
    let after = c.told_zone.new.self in
    passes_out words kind (Unit {0}) _ _ after _ _ [] (proving_asked kind after.unread.next after.unread.rest) _ _ (g.W.Watcher.said c.told_zone.new.watcher) c.in_err-told_zone.field-0.0 p.0 c.from_residual.result
    (zones_here words kind c.args.count c.loop.counter c.loop-test.true _ _ _ _ _ c.loop.invariant.going)
    (c.in_err-told_zone.ensures.told _) p.1 p.2

pub returns : goal.returns
returns g c = (zones_all g.W.Watcher.words g.B.Bound.kind c.args.count c.loop.counter _ _ _ _ _ (omega (arith, c.loop.invariant.few)) c.loop.invariant.going).goes
