use Rattle.std.proofs.Common.{◌-◌, refl, rules, tests}
use Rattle.std.proofs.lemmas.Iterator.{YieldsList-from_range}
use Rattle.std.proofs.lemmas.Iterator.Search.{any_from_yields_List}
use Rattle.docket_records.proofs.zone.some_from.Goals as goal

pub returns : goal.returns
returns g c = λ p gives. any_from_yields_List p _ _ c.any.result c.any.ensures.ran (YieldsList-from_range c.args.first 9 (9 - c.args.first) refl refl) (λ x b q k. search (rules, tests, gives))
