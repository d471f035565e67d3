use Rattle.std.proofs.Common.{◌≡◌, [], ◌∷◌, get_or, ◌∙◌, rules}
use Rattle.net_records.specs.NetBytes.{side_count}
use Rattle.net_records.specs.NetRecords.{transition_record}
use Rattle.net_records.proofs.Clean.{arcs_counted}
use Rattle.net_records.proofs.Fields.{counted}
use Rattle.net_records.proofs.packed.PackedNet.arc_count.Goals as goal

pub returns : goal.returns
returns c =
    arcs_counted c.args.self.now.bytes.now c.args.transition c.args.side c.transition.result c.map_or.result c.transition.ensures c.map_or.ensures (λ y q. let alone : c.map_or.result ≡ side_count c.args.side (transition_record (get_or y.now 0 0 ∷ [])) = search rules in alone ∙ counted c.args.side y.now)
