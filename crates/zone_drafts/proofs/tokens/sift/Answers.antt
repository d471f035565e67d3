use Rattle.std.proofs.Common.{◌+◌, ◌-◌, ◌<◌, ◌++◌, true, false, sym, ap, ◌∙◌, arith}
use Rattle.arrayvec.specs.ArrayVec.{array_vec_len}
use Rattle.zone_cells.specs.Sifted.{sifted, agrees}
use Rattle.zone_cells.proofs.Sifted.{sifted_step}
use Rattle.zone_drafts.proofs.Steps.{beq_agrees}
use Rattle.zone_drafts.proofs.tokens.sift.Goals as goal
use Rattle.zone_drafts.proofs.tokens.sift.Goals.{then-is_among-matched, else-is_among-matched}

pub loop-token-preserved : goal.loop-token-preserved
loop-token-preserved c =
    let token = c.loop-token.token in
    let ms = c.args.matching.now in
    let matched = c.args.matched in
    let rest = sifted matched ms (token + 1) (c.args.tokens + 1 - (token + 1)) in
    let here : token < c.args.tokens + 1 = omega (arith, c.loop-token-test.true) in
    let test = ap (λ b. agrees b matched) (sym c.is_among.ensures) ∙ sym (beq_agrees c.is_among.result matched) in
    let room : array_vec_len c.loop-token.points < 13 = omega (arith, c.loop-token.invariant.0, here, c.requires) in
    elim c.if-is_among-matched.branch [
      | then-is_among-matched w ↦
          (omega (arith, ap array_vec_len w.points-is, w.push-then-is_among-matched.ensures.len room, c.loop-token.invariant.0), ap (λ p. p.items ++ rest) w.points-is ∙ ap (λ xs. xs ++ rest) (w.push-then-is_among-matched.ensures.items room) ∙ sifted_step matched ms c.loop-token.points.items token (c.args.tokens + 1) here true (test ∙ w.if-is_among-matched.true) ∙ c.loop-token.invariant.1)
      | else-is_among-matched w ↦
          (omega (arith, ap array_vec_len w.points-is, c.loop-token.invariant.0), ap (λ p. p.items ++ rest) w.points-is ∙ sifted_step matched ms c.loop-token.points.items token (c.args.tokens + 1) here false (test ∙ w.if-is_among-matched.false) ∙ c.loop-token.invariant.1)
    ]
