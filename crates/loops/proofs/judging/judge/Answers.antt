use Rattle.std.proofs.Common.{◌≡◌, ◌+◌, ◌<◌, length, sym, refl, ap, ◌∙◌, subst, inl, inr, arith}
use Rattle.std.proofs.lemmas.Result.{err_from_is_err_and}
use Rattle.std.proofs.lemmas.Bool.{eqb-false, eqb-true}
use Rattle.loops.specs.Loops.{with_bound, loop_verdict}
use Rattle.loops.specs.Readings.{line_bound}
use Rattle.loops.proofs.Rounds.{Progress, progress_none, progress_added, named_sum, named_fault, faulty}
use Rattle.loops.proofs.Timings.{done}
use Rattle.loops.proofs.judging.judge.Goals as goal
use Rattle.loops.proofs.judging.judge.Goals.{else-loop-count-test, then-loop-count-test+then-is_empty}

pub loop-count-init : goal.loop-count-init
loop-count-init g c = progress_none g.B.Bound.kind c.args.text.now c.zero-sum.result c.zero-sum.ensures

pub returns-in_err-sum : goal.returns-in_err-sum
returns-in_err-sum g c =
    let kind = g.B.Bound.kind in
    let rest = c.loop-count.rest.now in
    let count = c.loop-count.count in
    let some : 0 < length rest = omega (arith, eqb-false (length rest) 0 (sym c.if-is_empty.ensures)) in
    let bad = named_fault count c.in_err-sum.field-0.0 _ (sym c.in_err-sum.was ∙ c.add_line.ensures) in
    let p = err_from_is_err_and c.from_residual.result c.from_residual.ensures.1 in
    rw (p.1, p.2) (faulty kind c.args.text.now rest c.loop-count.sum count some c.loop-count.invariant c.in_err-sum.field-0.0 bad.0 (inl (c.loop-count-test.true, bad.1 ∙ ap (λ l. with_bound kind c.loop-count.sum (line_bound kind l)) c.split_line.ensures.line)))

pub loop-count-preserved : goal.loop-count-preserved
loop-count-preserved g c =
    let kind = g.B.Bound.kind in
    let rest = c.loop-count.rest.now in
    let count = c.loop-count.count in
    let some : 0 < length rest = omega (arith, eqb-false (length rest) 0 (sym c.if-is_empty.ensures)) in
    let read = named_sum count c.in_ok-sum.sum _ (sym c.in_ok-sum.was ∙ c.add_line.ensures) ∙ ap (λ l. with_bound kind c.loop-count.sum (line_bound kind l)) c.split_line.ensures.line in
    let next = progress_added kind c.args.text.now rest c.loop-count.sum count some c.loop-count.invariant c.in_ok-sum.sum c.loop-count-test.true read in
    subst (λ r. Progress kind c.args.text.now r c.in_ok-sum.sum (count + 1)) (sym c.split_line.ensures.rest) next

pub returns-then-is_empty-2 : goal.returns-then-is_empty-2
returns-then-is_empty-2 g c =
    let rest = c.loop-count.rest.now in
    let end : length rest ≡ 0 = eqb-true (length rest) 0 (sym c.if-is_empty-2.ensures) in
    rw c.of.ensures (done g.B.Bound.kind c.args.text.now rest (loop_verdict g.B.Bound.kind c.loop-count.sum) c.loop-count.count end c.loop-count.invariant refl)

pub returns-else-is_empty-2 : goal.returns-else-is_empty-2
returns-else-is_empty-2 g c =
    let rest = c.loop-count.rest.now in
    let some : 0 < length rest = omega (arith, eqb-false (length rest) 0 (sym c.if-is_empty-2.ensures)) in
    let all : c.loop-count.count ≡ 4194304 = elim c.loop-count-test.branch [ else-loop-count-test w ↦ omega (arith, w.loop-count-test.false, c.loop-count.invariant.few) | then-loop-count-test+then-is_empty w ↦ absurd (omega (arith, some, eqb-true (length rest) 0 (sym w.if-is_empty.ensures))) ] in
    let bad = c.after.result in
    faulty g.B.Bound.kind c.args.text.now rest c.loop-count.sum c.loop-count.count some c.loop-count.invariant bad (ap (λ b. b.line) c.after.ensures ∙ ap (λ n. n + 1) (sym all)) (inr (all, ap (λ b. b.fault) c.after.ensures))
