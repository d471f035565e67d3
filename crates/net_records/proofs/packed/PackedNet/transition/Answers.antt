use Rattle.std.proofs.Common.{◌≡◌, ◌+◌, ◌-◌, ◌*◌, true, length, take, drop, ap, ◌∙◌, arith, rules, tests}
use Rattle.std.proofs.lemmas.List.{take_rest}
use Rattle.net_records.specs.NetBytes.{has_transition}
use Rattle.net_records.proofs.Clean.{transition_whole, transition_part}
use Rattle.net_records.proofs.packed.PackedNet.transition.Goals as goal

pub slice_bounds-first_chunk-start : goal.slice_bounds-first_chunk-start
slice_bounds-first_chunk-start c =
    let net = c.args.self.now in
    let there : has_transition net.bytes.now c.args.number ≡ true = search (rules, tests) in
    omega (arith, c.from.ensures, transition_whole net.bytes.now net.tested c.args.number there)

pub slice_bounds-first_chunk-count : goal.slice_bounds-first_chunk-count
slice_bounds-first_chunk-count c =
    let net = c.args.self.now in
    let there : has_transition net.bytes.now c.args.number ≡ true = search (rules, tests) in
    omega (arith, c.from.ensures, transition_whole net.bytes.now net.tested c.args.number there)

pub returns : goal.returns
returns c =
    let net = c.args.self.now in
    let there : has_transition net.bytes.now c.args.number ≡ true = search (rules, tests) in
    let start = 4 + 41 * (c.from.result - 1) in
    let part : take (length net.bytes.now - start) (drop start net.bytes.now) ≡ drop (4 + 41 * (c.args.number - 1)) net.bytes.now = take_rest net.bytes.now start ∙ ap (λ n. drop (4 + 41 * (n - 1)) net.bytes.now) c.from.ensures in
    transition_part net.bytes.now net.tested c.args.number there _ c.first_chunk.result (λ y q. search rules) part c.first_chunk.ensures.cases
