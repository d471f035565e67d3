use Rattle.std.proofs.Common.{take, drop, sym, ap, ◌∙◌}
use Rattle.net_records.specs.NetRecords.{net_header_of}
use Rattle.net_records.specs.declared.header.NetHeader.{NetHeader}
use Rattle.net_records.proofs.Stores.{length_transitions}
use Rattle.net_records.proofs.packed.PackedNetNetStore.transitions.Goals as goal

pub returns : goal.returns
returns g c =
    let bytes = c.args.self.now.bytes.now in
    ap (λ (h : NetHeader). h.transitions) c.header.ensures ∙ sym (length_transitions g.B.Bound.kind (net_header_of (take 4 bytes)).transitions (drop 4 bytes))
