use Rattle.std.proofs.Common.{[], ◌∙◌, ap, take, refl, arith}
use Rattle.std.proofs.lemmas.Result.{err_from_is_err_and}
use Rattle.docket_records.specs.DocketRecords.{token_of}
use Rattle.docket_records.specs.declared.token.InitialToken.{InitialToken}
use Rattle.file_check.proofs.Tokens.{given_more, past_tokens}
use Rattle.file_check.proofs.Walking.{passes_out, tokens_all, tokens_here, tokens_on}
use Rattle.file_check.proofs.file.DocketFile.told_tokens.Goals as goal

pub loop-at-preserved : goal.loop-at-preserved
loop-at-preserved g c =
    let step = c.in_ok-token.ensures in
    let so_far = c.loop-at.invariant in
    record {
      going = λ later. tokens_on g.W.Watcher.words g.B.Bound.kind c.args.count c.loop-at.at c.loop-at-test.true _ _ _ later _ _ (so_far.going later) _ _ (step.moved refl) step.told;
      given = given_more c.loop-at.at _ c.in_ok-token.token _ _ (omega (arith, c.requires, c.loop-at-test.true)) (step.token ∙ ap (λ u. token_of (take 3 u.rest)) so_far.left) so_far.given c.add.ensures.places.room c.add.ensures.ages.room;
      left = past_tokens c.loop-at.at _ _ _ so_far.left (step.moved refl);
      few = omega (arith, c.loop-at-test.true);
    }

pub returns-in_err-token-clause-told : goal.returns-in_err-token-clause-told
returns-in_err-token-clause-told g c =
    let words = g.W.Watcher.words in
    let kind = g.B.Bound.kind in
    let after = c.told_token.new.self in
    let p = err_from_is_err_and c.from_residual.result c.from_residual.ensures.1 in
    λ later. passes_out words kind InitialToken _ _ after _ _ [] later _ _ (g.W.Watcher.said c.told_token.new.watcher) c.in_err-token.field-0.0 p.0 c.from_residual.result
    (tokens_here words kind c.args.count c.loop-at.at c.loop-at-test.true _ _ _ later _ _ (c.loop-at.invariant.going later))
    (c.in_err-token.ensures.told _) p.1 p.2

pub returns-clause-told : goal.returns-clause-told
returns-clause-told g c =
    λ later. (tokens_all g.W.Watcher.words g.B.Bound.kind c.args.count c.loop-at.at _ _ _ _ later _ _ (omega (arith, c.loop-at.invariant.few)) (c.loop-at.invariant.going later)).goes
