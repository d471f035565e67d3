use Rattle.std.proofs.Common.{◌∙◌, ap, subst}
use Rattle.nets.specs.Nets.{arcs_of}
use Rattle.nets.specs.declared.side.Side.TheVariants.{Output}
use Rattle.zones.specs.Digits.{Fitting}
use Rattle.zones.specs.Predecessors.{is_matching}
use Rattle.zones.proofs.Digits.{counted_fit}
use Rattle.zone_matchings.proofs.Steps.{gathered}
use Rattle.zone_matchings.proofs.matching.is_matching.Goals as goal

pub returns : goal.returns
returns g c =
    let arcs = arcs_of (g.N.NetStore.net c.args.store.now) c.args.transition Output in
    let slots = c.of.result.arcs.items in
    let tokens = c.of.result.tokens.now in
    counted_fit slots tokens c.args.matching c.count_fitting.result (subst (λ ds. Fitting slots tokens ds c.count_fitting.result) c.digits.ensures c.count_fitting.ensures)
    ∙ gathered arcs slots tokens c.of.ensures.are c.of.ensures.few c.args.matching
    ∙ ap (λ ps. is_matching ps arcs c.args.matching) c.of.ensures.tokens
