use Rattle.std.proofs.Common.{refl, ◌∙◌, arith, rules, tests}
use Rattle.std.proofs.lemmas.Iterator.{YieldsList-from_range, YieldsList-from_slice, YieldsList-from_zip}
use Rattle.std.proofs.lemmas.Iterator.Search.{any_from_yields_List}
use Rattle.net_records.specs.NetRecords.{slot_side}
use Rattle.net_records.proofs.Rows.{some_slot_zipped}
use Rattle.net_records.proofs.transition.TransitionRecord.some_slot.Goals as goal

pub returns : goal.returns
returns g c = λ p gives.
    let r = c.args.self.now in
    any_from_yields_List (λ q. p (slot_side r q.0) q.1) c.any.new.self _ c.any.result c.any.ensures.ran (YieldsList-from_zip {s = c.zip.result} (YieldsList-from_range 0 8 8 c.zip.ensures.first refl) (YieldsList-from_slice r.slots cc)) (λ x b q k. search (rules, tests, gives)) ∙ some_slot_zipped p r 0 8 r.slots (omega arith)
