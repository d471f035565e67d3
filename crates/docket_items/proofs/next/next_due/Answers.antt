use Rattle.std.proofs.Common.{sym, ap, ◌∙◌, subst, rules}
use Rattle.std.specs.Option.{option_or}
use Rattle.docket_dues.specs.Dues.{Leads}
use Rattle.docket_items.specs.Next.{later_transition, later_zone}
use Rattle.docket_items.proofs.Later.{chosen, later_leads}
use Rattle.docket_items.proofs.next.next_due.Goals as goal

pub returns-clause-follows : goal.returns-clause-follows
returns-clause-follows g c =
    let net = g.N.NetStore.net c.args.store.now in
    let d = c.args.item in
    let first = chosen c.later_matching.result c.or_else.result _ (later_transition net d) (λ h. search rules) c.or_else.ensures in
    let second = chosen c.or_else.result c.or_else-2.result _ (later_zone c.args.zones d) (λ h. search rules) c.or_else-2.ensures in
    record {
      matching = c.later_matching.result;
      later = c.later_matching.ensures;
      is = second ∙ ap (λ o. option_or o (later_zone c.args.zones d)) first;
    }

pub returns-clause-leads : goal.returns-clause-leads
returns-clause-leads g c listed lists =
    let net = g.N.NetStore.net c.args.store.now in
    let d = c.args.item in
    let found = returns-clause-follows g c in
    subst (Leads net listed d) (sym found.is)
    (later_leads g.B.Bound.kind net c.keeps_limits.ensures listed c.args.places.now c.args.zones d found.matching found.later lists.all lists.here)
