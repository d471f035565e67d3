use Rattle.std.proofs.Common.{ℕ, List, refl, sym, subst}
use Rattle.docket_rules.specs.Calls.{Post, Posts}
use Rattle.docket_rules.specs.Worlds.{lent, with_book, with_scratch}
use Rattle.file_check.proofs.Calling.{called_with, clear_left}
use Rattle.file_check.proofs.file.DocketFile.zone.Goals as goal
use Rattle.file_rules.specs.Asks.{scratch_page}
use Rattle.net_records.specs.NetBytes.{net_of}

pub invariant_of-self-2 : goal.invariant_of-self-2
invariant_of-self-2 g c =
    clear_left g.B.Bound.kind c.post-answer.result _ _ c.post-answer.ensures.scratch c.self.invariant

pub returns-clause-made : goal.returns-clause-made
returns-clause-made g c =
    let kind = g.B.Bound.kind in
    let file = c.self.inside in
    let bytes = c.in_ok-bytes.field-0.bytes.now in
    let taken = c.in_ok-bytes.ensures in
    let call = λ (zone : List ℕ). Post zone (scratch_page kind) in
    let posts = c.post-answer in
    let world = with_book file.docket file.cells.now file.places.now in
    let after = lent posts.new.self posts.new.cells posts.new.places posts.new.scratch in
    let step = subst (λ scratch. Posts kind (net_of kind file.net.bytes.now) bytes (with_scratch world scratch) after posts.result) c.self.invariant posts.ensures in
    rw (sym c.self.view_is)
    (called_with kind _ _ posts.result refl 192 c.in_ok-bytes.field-0.at bytes call c.filed.result taken.1 taken.2 taken.4 c.filed.ensures (posts.new.scratch, step))
