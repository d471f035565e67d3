use Rattle.std.proofs.Common.{rules, tests, sym, ◌∙◌}
use Rattle.std.proofs.lemmas.List.{take_rest}
use Rattle.std.proofs.lemmas.Iterator.{YieldsList-from_slice}
use Rattle.std.proofs.lemmas.Iterator.Search.{position_from_yields_List}
use Rattle.loops.proofs.Scans.{feed, Feeds, line_found, line_all}
use Rattle.loops.proofs.text.split_line.Goals as goal
use Rattle.loops.proofs.text.split_line.Goals.{After-position}

feeds : (c : After-position) → Feeds c.args.text.now c.position.result
feeds c = position_from_yields_List feed _ _ c.position.result c.position.ensures.ran (YieldsList-from_slice c.args.text.now cc) (λ x b q k. search (rules, tests))

pub returns-in-Some-clause-line : goal.returns-in-Some-clause-line
returns-in-Some-clause-line c = sym (line_found c.args.text.now c.in-Some.i (sym c.in-Some.is ∙ feeds (goal.at.returns-in-Some-clause-line c).After-position)).0

pub returns-in-Some-clause-rest : goal.returns-in-Some-clause-rest
returns-in-Some-clause-rest c =
    take_rest c.args.text.now _
    ∙ sym (line_found c.args.text.now c.in-Some.i (sym c.in-Some.is ∙ feeds (goal.at.returns-in-Some-clause-rest c).After-position)).1

pub returns-in-None-clause-line : goal.returns-in-None-clause-line
returns-in-None-clause-line c = sym (line_all c.args.text.now (sym c.in-None.is ∙ feeds (goal.at.returns-in-None-clause-line c).After-position)).0

pub returns-in-None-clause-rest : goal.returns-in-None-clause-rest
returns-in-None-clause-rest c = sym (line_all c.args.text.now (sym c.in-None.is ∙ feeds (goal.at.returns-in-None-clause-rest c).After-position)).1
