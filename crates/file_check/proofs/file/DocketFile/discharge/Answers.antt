use Rattle.std.proofs.Common.{refl, sym, subst}
use Rattle.docket_rules.specs.Calls.{Discharge, Discharges}
use Rattle.docket_rules.specs.Worlds.{with_book, with_scratch}
use Rattle.file_check.proofs.Calling.{called, clear_left}
use Rattle.file_check.proofs.file.DocketFile.discharge.Goals as goal
use Rattle.file_rules.specs.Asks.{scratch_page}
use Rattle.net_records.specs.NetBytes.{net_of}

pub invariant_of-self : goal.invariant_of-self
invariant_of-self g c =
    clear_left g.B.Bound.kind c.discharge-answer.result _ _ c.discharge-answer.ensures.step.scratch c.self.invariant

pub returns-clause-made : goal.returns-clause-made
returns-clause-made g c =
    let kind = g.B.Bound.kind in
    let file = c.self.inside in
    let bytes = c.args.part.bytes.now in
    let answers = c.discharge-answer in
    let world = with_book file.docket file.cells.now file.places.now in
    let step = subst (λ scratch. Discharges kind (net_of kind file.net.bytes.now) bytes (with_scratch world scratch) answers.new.self answers.new.scratch answers.result) c.self.invariant answers.ensures.step in
    rw (sym c.self.view_is)
    (called kind _ _ answers.result refl c.args.part.at (Discharge bytes (scratch_page kind)) c.filed.result c.filed.ensures
    (answers.new.scratch, step, record { cells = refl; places = refl }))
