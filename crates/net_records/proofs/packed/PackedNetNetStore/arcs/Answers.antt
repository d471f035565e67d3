use Rattle.std.proofs.Common.{◌∙◌}
use Rattle.net_records.proofs.Stores.{answered_arcs}
use Rattle.net_records.proofs.packed.PackedNetNetStore.arcs.Goals as goal

pub returns : goal.returns
returns g c =
    c.arc_count.ensures ∙ answered_arcs g.B.Bound.kind c.args.self.now.bytes.now c.args.self.now.tested c.args.transition c.args.side
