use Rattle.std.proofs.Common.{◌+◌, ◌-◌, ◌<◌, ◌++◌, true, false, sym, ap, ◌∙◌, arith}
use Rattle.arrayvec.specs.ArrayVec.{array_vec_len}
use Rattle.zone_cells.specs.Sifted.{agrees, sifted}
use Rattle.zone_cells.proofs.Sifted.{sifted_step}
use Rattle.docket_vouching.proofs.points.staying.Goals as goal
use Rattle.docket_vouching.proofs.points.staying.Goals.{then-not-is_among, else-not-is_among}

pub loop-token-preserved : goal.loop-token-preserved
loop-token-preserved c =
    let token = c.loop-token.token in
    let ms = c.args.matching.now in
    let rest = sifted false ms (token + 1) (c.args.tokens + 1 - (token + 1)) in
    let here : token < c.args.tokens + 1 = omega (arith, c.loop-token-test.true) in
    elim c.if-not-is_among.branch [
      | then-not-is_among w ↦
          (omega (arith, ap array_vec_len w.points-is, w.push-then-not-is_among.ensures.len, c.loop-token.invariant.0), ap (λ p. p.items ++ rest) w.points-is ∙ ap (λ xs. xs ++ rest) w.push-then-not-is_among.ensures.items ∙ sifted_step false ms c.loop-token.points.items token (c.args.tokens + 1) here true (ap (λ b. agrees b false) (sym c.is_among.ensures ∙ w.if-not-is_among.true)) ∙ c.loop-token.invariant.1)
      | else-not-is_among w ↦
          (omega (arith, ap array_vec_len w.points-is, c.loop-token.invariant.0), ap (λ p. p.items ++ rest) w.points-is ∙ sifted_step false ms c.loop-token.points.items token (c.args.tokens + 1) here false (ap (λ b. agrees b false) (sym c.is_among.ensures ∙ w.if-not-is_among.false)) ∙ c.loop-token.invariant.1)
    ]
