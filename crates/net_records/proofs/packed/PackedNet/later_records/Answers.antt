use Rattle.std.proofs.Common.{◌≡◌, ◌+◌, ◌*◌, ◌≤◌, length, take, rules, sym, subst}
use Rattle.net_records.specs.NetRecords.{net_header_of}
use Rattle.net_records.proofs.Clean.{net_whole}
use Rattle.net_records.proofs.packed.PackedNet.later_records.Goals as goal

pub slice_bounds-result-count : goal.slice_bounds-result-count
slice_bounds-result-count c =
    let net = c.args.self.now in
    let size : c.from-transitions.result ≡ (net_header_of (take 4 net.bytes.now)).transitions = search rules in
    subst (λ n. 4 + 41 * n ≤ length net.bytes.now) (sym size) (net_whole net.bytes.now net.tested)

pub slice_bounds-result-start : goal.slice_bounds-result-start
slice_bounds-result-start c = slice_bounds-result-count c
