use Rattle.std.proofs.Common.{◌≡◌, length, replicate, cond, true, refl, sym, ap, ◌∙◌, subst, inr, rules, arith}
use Rattle.std.proofs.lemmas.Bool.{eq-eqb, false≢true}
use Rattle.docket.specs.Dockets.{zone_rules}
use Rattle.docket_rules.specs.Tables.{Answers, is_listing}
use Rattle.docket_rules.specs.declared.stage.Stage.TheVariants.{Listing}
use Rattle.zone_cells.specs.Sizes.{draft_cells}
use Rattle.docket.proofs.Rows.{late}
use Rattle.docket.proofs.docket.Docket.post.Goals as goal

pub returns : goal.returns
returns g c =
    let kind = g.B.Bound.kind in
    let self = c.args.self.now in
    let lent = c.args.scratch.now in
    let zone = c.args.zone.now in
    let tried = c.list-result.ensures.tried in
    let listing : self.stage ≡ Listing = search rules in
    let whole : c.is_whole.result ≡ true = search rules in
    let drafted : length lent ≡ draft_cells = search rules in
    let long = ap (λ s. length s.counts) c.self.view_is in
    record {
      answers =
          inr (
            λ h. false≢true (sym h ∙ ap is_listing listing),
            inr (
              λ h. false≢true (sym h ∙ sym c.is_whole.ensures ∙ whole),
              inr (
                λ h. false≢true (sym c.if-is_full.false ∙ c.is_full.ensures.value ∙ eq-eqb (length c.self.inside.counts.items) 64 (omega (arith, h, long))),
                subst (λ p. Answers (zone_rules kind p zone self) c.list-result.result) c.places.ensures tried.answers,
              ),
            ),
          );
      scratch =
          c.wipe.ensures
          ∙ ap (λ n. replicate n kind.no_limit) (c.list-result.ensures.kept ∙ drafted)
          ∙ sym (ap (λ early. cond early lent (replicate draft_cells kind.no_limit)) (late (zone_rules kind c.places.result zone self) c.list-result.result (refl, (refl, (refl, (refl, (refl, (refl, (refl, tt))))))) tried.answers));
      refused = tried.refused;
      taken = tried.taken;
    }
