use Rattle.docket_items.proofs.Loaded.{target_made, delay_made, firing_made}
use Rattle.docket_items.proofs.zone.item_zone.Goals as goal

pub returns-in-0-default : goal.returns-in-0-default
returns-in-0-default g c =
    let d = c.args.item in
    target_made g.B.Bound.kind c.args.page.now.places.now c.args.page.now.cells.now c.args.draft.now c.load.new.draft c.load.ensures (g.N.NetStore.net c.args.store.now) d.zone d.transition d.matching c.page_tokens.result c.in-0-default.is-0 c.page_tokens.ensures

pub returns-in_default-eq0 : goal.returns-in_default-eq0
returns-in_default-eq0 g c =
    let d = c.args.item in
    delay_made g.B.Bound.kind c.args.page.now.places.now c.args.page.now.cells.now c.args.draft.now c.load.new.draft c.load.ensures (g.N.NetStore.net c.args.store.now) d.zone d.transition d.matching c.delay_predecessor.new.cells c.page_tokens-in_default-eq0.result c.in_default-eq0.is-0.1 c.in_default-eq0.is-1 c.delay_predecessor.ensures c.page_tokens-in_default-eq0.ensures

pub returns-in_default : goal.returns-in_default
returns-in_default g c =
    let d = c.args.item in
    firing_made g.B.Bound.kind c.args.page.now.places.now c.args.page.now.cells.now c.args.draft.now c.load.new.draft c.load.ensures (g.N.NetStore.net c.args.store.now) d.zone d.transition d.matching c.firing_predecessor.new.cells c.firing_predecessor.result c.in_default.is-0.1 c.in_default.is-1.1 c.firing_predecessor.ensures
