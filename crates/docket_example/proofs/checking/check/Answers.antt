use Rattle.std.proofs.Common.{◌≡◌, length, replicate, refl, ap, subst, arith}
use Rattle.std.proofs.lemmas.Result.{err_from_is_err_and}
use Rattle.docket_rules.specs.Worlds.{book_cells, book_places, with_book}
use Rattle.zone_cells.specs.Sizes.{draft_cells}
use Rattle.docket_example.specs.Checking.{EntryStands, line_net, listing, proving}
use Rattle.docket_example.specs.declared.checking.Entry.TheVariants.{Opening, Zone, ListEnd, Voucher}
use Rattle.docket_example.proofs.Entries.{begun, discharge_step, end_taken, ended_due, ended_sealed, gone_on, left_blank, list_ended, open_step, post_step, seal_holds, stopped, zone_listed}
use Rattle.docket_example.proofs.checking.check.Goals as goal

pub returns-in_err-at-clause-exact : goal.returns-in_err-at-clause-exact
returns-in_err-at-clause-exact c =
    let net = line_net c.args.line.now in
    let laws = c.calls_keep_laws.ensures net c.keeps_limits.ensures in
    let given = c.args.certificate.now in
    let w = with_book c.new-docket.result (replicate book_cells c.no_limit-cells.result) (replicate book_places 0) in
    let v = with_book c.open-opened.new.self c.open-opened.new.cells c.open-opened.new.places in
    let p = err_from_is_err_and c.from_residual.result c.from_residual.ensures.1 in
    let s = begun net given laws w.state c.no_limit-cells.result c.new-docket.ensures in
    let lent = ap (replicate draft_cells) c.no_limit-scratch.ensures in
    rw (p.1, p.2) (stopped net given laws Opening w v c.open-opened.result c.in_err-at.field-0.0 tt c.in_err-at.ensures s (open_step net given w v (replicate draft_cells c.no_limit-scratch.result) c.open-opened.new.scratch c.open-opened.result lent (record { answers = c.open-opened.ensures.answers; scratch = c.open-opened.ensures.scratch; refused = c.open-opened.ensures.refused; taken = c.open-opened.ensures.taken })))

pub loop-number-init : goal.loop-number-init
loop-number-init c =
    let net = line_net c.args.line.now in
    let laws = c.calls_keep_laws.ensures net c.keeps_limits.ensures in
    let given = c.args.certificate.now in
    let w = with_book c.new-docket.result (replicate book_cells c.no_limit-cells.result) (replicate book_places 0) in
    let v = with_book c.open-opened.new.self c.open-opened.new.cells c.open-opened.new.places in
    let s = begun net given laws w.state c.no_limit-cells.result c.new-docket.ensures in
    let lent = ap (replicate draft_cells) c.no_limit-scratch.ensures in
    record {
      stands = gone_on net given laws Opening w v c.open-opened.result c.in_ok-at.field-0 c.in_ok-at.ensures c.open-opened.auto.cells c.open-opened.auto.places s (open_step net given w v (replicate draft_cells c.no_limit-scratch.result) c.open-opened.new.scratch c.open-opened.result lent (record { answers = c.open-opened.ensures.answers; scratch = c.open-opened.ensures.scratch; refused = c.open-opened.ensures.refused; taken = c.open-opened.ensures.taken }));
      lent = left_blank c.open-opened.result (replicate draft_cells c.no_limit-scratch.result) c.open-opened.new.scratch lent c.open-opened.ensures.scratch;
    }

pub returns-in_err-at-2-clause-exact : goal.returns-in_err-at-2-clause-exact
returns-in_err-at-2-clause-exact c =
    let net = line_net c.args.line.now in
    let laws = c.calls_keep_laws.ensures net c.keeps_limits.ensures in
    let given = c.args.certificate.now in
    let at = c.loop-number in
    let w = with_book at.docket at.cells at.book in
    let v = with_book c.post-posted.new.self c.post-posted.new.cells c.post-posted.new.places in
    let p = err_from_is_err_and c.from_residual-in_err-at-2.result c.from_residual-in_err-at-2.ensures.1 in
    rw (p.1, p.2) (stopped net given laws (Zone at.number) w v c.post-posted.result c.in_err-at-2.field-0.0 c.loop-number-test.true c.in_err-at-2.ensures at.invariant.stands (post_step net given at.number w v at.scratch c.post-posted.new.scratch c.post-posted.result at.invariant.lent c.post-posted.ensures))

pub loop-number-preserved : goal.loop-number-preserved
loop-number-preserved c =
    let net = line_net c.args.line.now in
    let laws = c.calls_keep_laws.ensures net c.keeps_limits.ensures in
    let given = c.args.certificate.now in
    let at = c.loop-number in
    let w = with_book at.docket at.cells at.book in
    let v = with_book c.post-posted.new.self c.post-posted.new.cells c.post-posted.new.places in
    record {
      stands =
          subst (λ log. EntryStands net log v) (zone_listed net given at.number c.loop-number-test.true)
          (gone_on net given laws (Zone at.number) w v c.post-posted.result c.in_ok-at-2.field-0 c.in_ok-at-2.ensures c.post-posted.auto.cells c.post-posted.auto.places at.invariant.stands (post_step net given at.number w v at.scratch c.post-posted.new.scratch c.post-posted.result at.invariant.lent c.post-posted.ensures));
      lent = left_blank c.post-posted.result at.scratch c.post-posted.new.scratch at.invariant.lent c.post-posted.ensures.scratch;
    }

pub returns-in_err-at-3-clause-exact : goal.returns-in_err-at-3-clause-exact
returns-in_err-at-3-clause-exact c =
    let net = line_net c.args.line.now in
    let laws = c.calls_keep_laws.ensures net c.keeps_limits.ensures in
    let at = c.loop-number in
    let w = with_book at.docket at.cells at.book in
    end_taken net c.args.certificate.now laws at.number w (with_book c.close.new.self at.cells at.book) c.close.result c.in_err-at-3.field-0.0 c.in_err-at-3.ensures at.invariant.stands c.close.ensures

pub loop-taken-init : goal.loop-taken-init
loop-taken-init c =
    let net = line_net c.args.line.now in
    let laws = c.calls_keep_laws.ensures net c.keeps_limits.ensures in
    let given = c.args.certificate.now in
    let at = c.loop-number in
    let w = with_book at.docket at.cells at.book in
    let v = with_book c.close.new.self at.cells at.book in
    let all : at.number ≡ length given.zones.now = omega (arith, at.auto.number-end, c.loop-number-test.false) in
    let s = subst (λ n. EntryStands net (listing given n) w) all at.invariant.stands in
    record {
      stands = subst (λ log. EntryStands net log v) (list_ended net given) (gone_on net given laws ListEnd w v c.close.result c.in_ok-at-3.field-0 c.in_ok-at-3.ensures refl refl s (c.close.ensures, record { cells = refl; places = refl }));
      lent = at.invariant.lent;
    }

pub returns-in_err-at-4-clause-exact : goal.returns-in_err-at-4-clause-exact
returns-in_err-at-4-clause-exact c =
    let net = line_net c.args.line.now in
    let laws = c.calls_keep_laws.ensures net c.keeps_limits.ensures in
    let given = c.args.certificate.now in
    let at = c.loop-taken in
    let w = with_book at.docket c.loop-number.cells c.loop-number.book in
    let v = with_book c.discharge-discharged.new.self c.loop-number.cells c.loop-number.book in
    let p = err_from_is_err_and c.from_residual-in_err-at-4.result c.from_residual-in_err-at-4.ensures.1 in
    rw (p.1, p.2) (stopped net given laws (Voucher at.taken) w v c.discharge-discharged.result c.in_err-at-4.field-0.0 c.loop-taken-test.true c.in_err-at-4.ensures at.invariant.stands (discharge_step net given at.taken w v.state at.scratch c.discharge-discharged.new.scratch c.discharge-discharged.result at.invariant.lent c.discharge-discharged.ensures.step))

pub loop-taken-preserved : goal.loop-taken-preserved
loop-taken-preserved c =
    let net = line_net c.args.line.now in
    let laws = c.calls_keep_laws.ensures net c.keeps_limits.ensures in
    let given = c.args.certificate.now in
    let at = c.loop-taken in
    let w = with_book at.docket c.loop-number.cells c.loop-number.book in
    let v = with_book c.discharge-discharged.new.self c.loop-number.cells c.loop-number.book in
    record {
      stands = gone_on net given laws (Voucher at.taken) w v c.discharge-discharged.result c.in_ok-at-4.field-0 c.in_ok-at-4.ensures refl refl at.invariant.stands (discharge_step net given at.taken w v.state at.scratch c.discharge-discharged.new.scratch c.discharge-discharged.result at.invariant.lent c.discharge-discharged.ensures.step);
      lent = left_blank c.discharge-discharged.result at.scratch c.discharge-discharged.new.scratch at.invariant.lent c.discharge-discharged.ensures.step.scratch;
    }

pub returns-in-Some-clause-exact : goal.returns-in-Some-clause-exact
returns-in-Some-clause-exact c =
    let net = line_net c.args.line.now in
    let laws = c.calls_keep_laws.ensures net c.keeps_limits.ensures in
    let given = c.args.certificate.now in
    let at = c.loop-taken in
    let w = with_book at.docket c.loop-number.cells c.loop-number.book in
    let all : at.taken ≡ length given.vouchers.now = omega (arith, at.auto.taken-end, c.loop-taken-test.false) in
    let s = subst (λ n. EntryStands net (proving given n) w) all at.invariant.stands in
    ended_due net given laws w s c.in-Some.item c.in-Some.ensures

pub returns-in-None-clause-seal : goal.returns-in-None-clause-seal
returns-in-None-clause-seal c =
    let net = line_net c.args.line.now in
    let laws = c.calls_keep_laws.ensures net c.keeps_limits.ensures in
    let given = c.args.certificate.now in
    let at = c.loop-taken in
    let w = with_book at.docket c.loop-number.cells c.loop-number.book in
    let all : at.taken ≡ length given.vouchers.now = omega (arith, at.auto.taken-end, c.loop-taken-test.false) in
    let s = subst (λ n. EntryStands net (proving given n) w) all at.invariant.stands in
    λ sealed. seal_holds net given laws w s c.in-None.ensures

pub returns-in-None-clause-exact : goal.returns-in-None-clause-exact
returns-in-None-clause-exact c =
    let net = line_net c.args.line.now in
    let laws = c.calls_keep_laws.ensures net c.keeps_limits.ensures in
    let given = c.args.certificate.now in
    let at = c.loop-taken in
    let w = with_book at.docket c.loop-number.cells c.loop-number.book in
    let all : at.taken ≡ length given.vouchers.now = omega (arith, at.auto.taken-end, c.loop-taken-test.false) in
    let s = subst (λ n. EntryStands net (proving given n) w) all at.invariant.stands in
    ended_sealed net given laws w s c.in-None.ensures
