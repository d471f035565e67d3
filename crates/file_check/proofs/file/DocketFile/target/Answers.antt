use Rattle.std.proofs.Common.{◌≡◌, ℕ, List, refl, rules, sym, subst}
use Rattle.docket_rules.specs.Calls.{Open, Opens}
use Rattle.docket_rules.specs.Tables.{given}
use Rattle.docket_rules.specs.Worlds.{lent, with_book, with_scratch}
use Rattle.file_check.proofs.Calling.{called_with, clear_left}
use Rattle.file_check.proofs.file.DocketFile.target.Goals as goal
use Rattle.file_rules.specs.Asks.{scratch_page}
use Rattle.net_records.specs.NetBytes.{net_of}

pub invariant_of-self-2 : goal.invariant_of-self-2
invariant_of-self-2 g c =
    clear_left g.B.Bound.kind c.open-answer.result _ _ c.open-answer.ensures.scratch c.self.invariant

pub returns-clause-made : goal.returns-clause-made
returns-clause-made g c =
    let kind = g.B.Bound.kind in
    let file = c.self.inside in
    let bytes = c.in_ok-bytes.field-0.bytes.now in
    let taken = c.in_ok-bytes.ensures in
    let lists = c.args.initial.now in
    let places : c.deref.result.now ≡ lists.places.items = search rules in
    let ages : c.deref-2.result.now ≡ lists.ages.items = search rules in
    let gives = given lists.places.items lists.ages.items in
    let call = λ (target : List ℕ). Open gives target (scratch_page kind) in
    let opens = c.open-answer in
    let o = rw places at (rw ages at opens.ensures) in
    let world = with_book file.docket file.cells.now file.places.now in
    let after = lent opens.new.self opens.new.cells opens.new.places opens.new.scratch in
    let made : Opens kind (net_of kind file.net.bytes.now) gives bytes (with_scratch world file.scratch.now) after opens.result =
    record { answers = o.answers; scratch = o.scratch; refused = o.refused; taken = o.taken } in
    let step = subst (λ scratch. Opens kind (net_of kind file.net.bytes.now) gives bytes (with_scratch world scratch) after opens.result) c.self.invariant made in
    rw (sym c.self.view_is)
    (called_with kind _ _ opens.result refl 192 c.in_ok-bytes.field-0.at bytes call c.filed.result taken.1 taken.2 taken.4 c.filed.ensures (opens.new.scratch, step))
