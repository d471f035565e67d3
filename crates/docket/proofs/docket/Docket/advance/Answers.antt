use Rattle.std.proofs.Common.{sym, ap, ◌∙◌, ◌+◌, min, subst}
use Rattle.docket.specs.Discharging.{Advanced}
use Rattle.docket.specs.Dockets.{world_over}
use Rattle.docket.proofs.Moved.{advanced}
use Rattle.docket.proofs.docket.Docket.advance.Goals as goal
use Rattle.docket.proofs.docket.Docket.advance.Goals.{in-Some, in-None}
use Rattle.docket_rules.specs.Calls.{most_taken, stage_of}

pub returns : goal.returns
returns g c =
    let kind = g.B.Bound.kind in
    let net = g.N.NetStore.net c.args.store.now in
    let w = world_over c.args.self.now c.args.book.now in
    let stage = c.match-next_due.self in
    let taken = c.saturating_add-self-inside.result in
    subst (Advanced kind net w c.args.item) (ap (λ s. record { stage = stage; initial = s.initial; counts = s.counts; taken = taken }) (sym c.self.view_is))
    (advanced kind net w c.args.item c.listed.result c.page.result.places.now c.next_due.result stage taken c.listed.ensures c.page.ensures.places c.next_due.ensures.leads
    (elim c.match-next_due.branch [ in-Some w ↦ w.self-is ∙ ap stage_of (sym w.in-Some.is) | in-None w ↦ w.self-is ∙ ap stage_of (sym w.in-None.is) ])
    (c.saturating_add-self-inside.ensures ∙ ap (λ s. min (s.taken + 1) most_taken) c.self.view_is))
