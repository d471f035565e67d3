use Rattle.std.proofs.Common.{◌≡◌, ◌&&◌, leb, ap, ◌∙◌, rules, tests}
use Rattle.net_records.proofs.Fields.{counted}
use Rattle.net_records.proofs.packed.has_arc.Goals as goal

pub returns : goal.returns
returns c =
    let within : c.contains.result ≡ (leb 1 c.args.arc && leb c.args.arc c.side_count.result) = search (rules, tests) in
    within ∙ ap (λ n. leb 1 c.args.arc && leb c.args.arc n) (c.side_count.ensures ∙ counted c.args.side c.args.bytes.now)
