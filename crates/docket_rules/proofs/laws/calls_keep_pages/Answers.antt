use Rattle.docket_rules.proofs.Keeps.{agrees_blank, keeps_all}
use Rattle.docket_rules.proofs.Sounds.{agrees_sound}
use Rattle.docket_rules.proofs.laws.calls_keep_pages.Goals as goal
use Rattle.docket_rules.specs.Logs.{no_log, with_calls}
use Rattle.docket_rules.specs.Worlds.{blank, with_book}

pub returns : goal.returns
returns g c net limits log w reached =
    let kind = g.B.Bound.kind in
    let start = with_book blank reached.cells reached.places in
    let agrees = keeps_all kind net limits no_log start w reached.calls (agrees_blank kind net reached.cells reached.places) reached.played in
    let told = with_calls kind no_log reached.calls in
    agrees_sound kind net told w told.opening agrees
