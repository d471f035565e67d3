use Rattle.std.proofs.Common.{◌-◌, Some, sym, ap, ◌∙◌, rules, arith}
use borrow.Author.Tests.{tests}
use Rattle.std.proofs.iter.runs.Sources.{range_runs_back}
use Rattle.zone_matchings.proofs.Steps.{Tried, next_tried, meant, copied}
use Rattle.zone_matchings.proofs.outputs.Outputs.next.Goals as goal

pub returns : goal.returns
returns c =
    let run = c.find_map.ensures.runs in
    let back = c.rev.ensures.runs run.0 run.0.seen run.1 in
    let down = range_runs_back back.0 back.0.seen in
    let end = ap (λ r. r.end) back.1 in
    let start = ap (λ r. r.start) back.1 in
    let long = back.2.0.0 in
    next_tried c.args.self.now.arcs.items c.args.self.now.tokens.now c.digits-digits.result c.args.after c.digits-digits.ensures c.count_fitting-fitting.result c.min.result run.0.len run.0.whole run.0.at c.find_map.result c.ranges.after.fits c.count_fitting-fitting.ensures c.min.ensures (omega (arith, long, down.0, end)) (λ whole. omega (arith, long, down.1 (back.2.1 ∙ whole), end, start)) (λ k below. sym (back.2.0.2 k) ∙ copied _ _ (down.3 k (omega (arith, long, below))) ∙ ap (λ n. Some (n - 1 - k)) end) (meant run.0 _ _ (Tried c.args.self.now.arcs.items c.args.self.now.tokens.now c.digits-digits.result c.args.after c.digits-digits.ensures) c.find_map.result (λ x r q h. search (rules, tests)) (λ x r h. search (rules, tests)) run.2)
