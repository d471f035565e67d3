use Rattle.std.proofs.Common.{sym, ap, ◌∙◌, rules}
use Rattle.net_records.proofs.Stores.{arc_from, mapped, answered_arc}
use Rattle.net_records.proofs.packed.PackedNetNetStore.place.Goals as goal

pub returns : goal.returns
returns g c =
    let kind = g.B.Bound.kind in
    let arc = answered_arc kind c.args.self.now.bytes.now c.args.self.now.tested c.args.transition c.args.side c.args.arc in
    mapped kind (λ a. a.place) c.slot.result c.map_or.result c.map_or.ensures (λ e. e) (λ s q. search rules) ∙ ap (λ o. (arc_from kind o).place) c.slot.ensures ∙ sym (ap (λ a. a.place) arc)
