use Rattle.std.proofs.Common.{◌≡◌, ℕ, ◌&&◌, eqb, List, ◌++◌, length, replicate, cond, true, refl, sym, ap, ◌∙◌, subst, inr, rules}
use Rattle.std.proofs.lemmas.Bool.{eq-eqb, false≢true}
use Rattle.docket_rules.specs.Tables.{Answers, Rule, given, initial_rules, is_blank, record_rules}
use Rattle.docket_rules.specs.declared.stage.Stage.TheVariants.{Blank}
use Rattle.zone_cells.specs.Sizes.{draft_cells}
use Rattle.docket.proofs.Rows.{late}
use Rattle.docket.proofs.docket.Docket.open.Goals as goal

pub returns-clause-answers : goal.returns-clause-answers
returns-clause-answers g c =
    let kind = g.B.Bound.kind in
    let initial = c.args.initial.now in
    let ages = c.args.ages.now in
    let rows : ℕ → List Rule = λ places. initial_rules places (given initial ages) ++ record_rules kind places c.args.target.now in
    let blank : c.args.self.now.stage ≡ Blank = search rules in
    let whole : c.is_whole.result ≡ true = search rules in
    let even : length initial ≡ length ages = search rules in
    inr (
      λ h. false≢true (sym h ∙ ap is_blank blank),
      inr (
        λ h. false≢true (sym h ∙ ap (λ b. b && eqb (length initial) (length ages)) (sym c.is_whole.ensures ∙ whole) ∙ eq-eqb (length initial) (length ages) even),
        subst (λ p. Answers (rows p) c.begin-result.result) c.places-net_places.ensures c.begin-result.ensures.tried.answers,
      ),
    )

pub returns-clause-scratch : goal.returns-clause-scratch
returns-clause-scratch g c =
    let kind = g.B.Bound.kind in
    let lent = c.args.scratch.now in
    let places = c.places-net_places.result in
    let rows = initial_rules places (given c.args.initial.now c.args.ages.now) ++ record_rules kind places c.args.target.now in
    let drafted : length lent ≡ draft_cells = search rules in
    c.wipe.ensures
    ∙ ap (λ n. replicate n kind.no_limit) (c.begin-result.ensures.kept ∙ drafted)
    ∙ sym (ap (λ early. cond early lent (replicate draft_cells kind.no_limit)) (late rows c.begin-result.result (refl, (refl, (refl, (refl, (refl, (refl, (refl, (refl, tt)))))))) c.begin-result.ensures.tried.answers))
