use Rattle.std.proofs.Common.{length, sym, ap, ◌∙◌, arith}
use Rattle.nets.specs.Nets.{numbered, transition_of}
use Rattle.zones.proofs.Arcs.{transition_limits}
use Rattle.zone_drafts.proofs.Backwards.{replaced_all, behind_clock, few_behind}
use Rattle.zone_drafts.proofs.firing.Firing.replace.Goals as goal

pub add_inputs-requires : goal.add_inputs-requires
add_inputs-requires g c =
    omega (arith, c.args.self.now.few, few_behind _ c.args.self.now.matching.now c.sift-kept.result.items c.deref-2.result.now c.some_tokens-tokens.result.items _ c.sift-kept.ensures c.deref-2.ensures.0 c.some_tokens-tokens.ensures)

pub returns : goal.returns
returns g c =
    let kind = g.B.Bound.kind in
    let net = g.N.NetStore.net c.args.self.now.store.now in
    let t = c.args.self.now.transition in
    let ms = c.args.self.now.matching.now in
    let staying = behind_clock (λ i. numbered c.args.self.now.places.now i 0) ms c.sift-kept.result.items c.deref-2.result.now c.some_tokens-tokens.result.items _ c.sift-kept.ensures c.deref-2.ensures.0 c.some_tokens-tokens.ensures in
    replaced_all kind (transition_of net t) net.places (transition_limits kind net t c.keeps_limits.ensures) ms c.args.self.now.places.now c.args.cells.now c.take_off.new.cells c.add_inputs.new.cells _ c.deref.result.now c.some_tokens-tokens.result.items c.add_inputs.new.tokens.items (c.deref.ensures.0 ∙ c.sift-kept.ensures) (c.len.ensures.value ∙ ap length (sym c.deref.ensures.0)) c.take_off.ensures c.add_inputs.ensures.cells staying c.add_inputs.ensures.tokens
