use Rattle.std.proofs.Common.{◌≡◌, ◌+◌, ◌-◌, length, ap, ◌∙◌, rules, arith}
use Rattle.nets.specs.Nets.{arcs_of}
use Rattle.nets.specs.declared.side.Side.TheVariants.{Output}
use Rattle.zone_drafts.proofs.Backwards.{after_arcs, one_narrows, all_narrowed}
use Rattle.zone_drafts.proofs.firing.Firing.narrow_matched.Given.{Over}
use Rattle.zone_drafts.proofs.firing.Firing.narrow_matched.Goals as goal
use Rattle.zone_drafts.proofs.firing.Firing.narrow_matched.Goals.{After-narrow_by}

narrows : (g : Over) (c : After-narrow_by g) → c.narrow_by.new.cells ≡ after_arcs g.B.Bound.kind (arcs_of (g.N.NetStore.net c.args.self.now.store.now) c.args.self.now.transition Output) c.args.self.now.matching.now c.args.cells.now (c.loop-arc.arc + 1 - 1)
narrows g c = one_narrows g.B.Bound.kind _ c.args.self.now.matching.now c.args.cells.now c.loop-arc.arc c.loop-arc.cells c.narrow_by.new.cells c.loop-arc.auto.arc c.loop-arc.invariant.1 c.narrow_by.ensures

pub loop-arc-preserved : goal.loop-arc-preserved
loop-arc-preserved g c =
    (λ none. absurd (omega (arith, none, c.loop-arc-test.true, c.loop-arc.auto.arc)), narrows g (goal.at.loop-arc-preserved g c).After-narrow_by)

pub returns : goal.returns
returns g c =
    all_narrowed g.B.Bound.kind _ c.args.self.now.matching.now c.args.cells.now c.loop-arc.arc c.arc_count-arc-end.result c.loop-arc.cells c.loop-arc.invariant.1 c.arc_count-arc-end.ensures.is c.loop-arc-test.false c.loop-arc.auto.arc-end c.loop-arc.invariant.0

pub returns-2 : goal.returns-2
returns-2 g c =
    let arcs = arcs_of (g.N.NetStore.net c.args.self.now.store.now) c.args.self.now.transition Output in
    let last : c.loop-arc.arc ≡ c.arc_count-arc-end.result = search rules in
    let all : c.loop-arc.arc + 1 - 1 ≡ length arcs = omega (arith, last, c.arc_count-arc-end.ensures.is) in
    narrows g (goal.at.returns-2 g c).After-narrow_by ∙ ap (after_arcs g.B.Bound.kind arcs c.args.self.now.matching.now c.args.cells.now) all
