use Rattle.std.proofs.Common.{◌∙◌, ap, subst}
use mathlib.Core.Path.{fun_ext}
use Rattle.zone_matchings.specs.Next.{Next}
use Rattle.nets.specs.Nets.{arcs_of}
use Rattle.nets.specs.declared.side.Side.TheVariants.{Output}
use Rattle.zones.specs.Predecessors.{is_matching}
use Rattle.zone_matchings.proofs.Steps.{gathered}
use Rattle.zone_matchings.proofs.matching.next_matching.Goals as goal

pub returns : goal.returns
returns g c =
    let arcs = arcs_of (g.N.NetStore.net c.args.store.now) c.args.transition Output in
    subst (λ test. Next test c.args.after c.next.result) (fun_ext (λ n. gathered arcs c.of.result.arcs.items c.of.result.tokens.now c.of.ensures.are c.of.ensures.few n ∙ ap (λ ps. is_matching ps arcs n) c.of.ensures.tokens)) c.next.ensures
