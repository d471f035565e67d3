use Rattle.std.proofs.Common.{length, arith, rules, tests}
use Rattle.std.proofs.lemmas.Iterator.{YieldsList-from_range, YieldsList-from_slice, YieldsList-from_zip}
use Rattle.std.proofs.lemmas.Iterator.Search.{all_from_yields_List}
use Rattle.zone_cells.specs.Cells.{in_draft}
use Rattle.zone_markings.specs.Initial.{marking_of}
use Rattle.zone_markings.specs.Pairings.{allows_both, by_ages}
use Rattle.zone_markings.proofs.pairing.Pairing.allows_all.Goals as goal

pub returns : goal.returns
returns g c =
    let chosen = c.args.chosen.now.items in
    let test = allows_both (by_ages g.B.Bound.kind (in_draft g.B.Bound.kind c.args.self.now.cells.now) (marking_of c.args.self.now.initial.now.items)) (length chosen) c.args.number in
    all_from_yields_List test c.all.new.self _ c.all.result c.all.ensures.ran (YieldsList-from_zip {s = c.zip.result} (YieldsList-from_range 0 c.len.result (length chosen) c.zip.ensures.first (omega (arith, c.len.ensures.value))) (YieldsList-from_slice chosen cc)) (λ x b q k. search (rules, tests))
