use Rattle.std.proofs.Common.{◌++◌, ◌∷◌, [], length, Ok, Err, refl, sym, ap, ◌∙◌, subst, inl, inr}
use Rattle.std.proofs.lemmas.Bool.{false≢true}
use Rattle.zone_cells.specs.Drafts.{draft_zone}
use Rattle.docket_records.specs.ZoneRecords.{zone_of}
use Rattle.zone_markings.specs.Initial.{marking_of}
use Rattle.docket_refusals.specs.declared.refusal.CallRefusal.TheVariants.{Covered}
use Rattle.docket_rules.specs.Tables.{rule}
use Rattle.docket_rules.specs.declared.stage.Stage.TheVariants.{Listing}
use Rattle.zones.specs.Zones.{Satisfies}
use Rattle.docket.proofs.Records.{form_covers, page_written, recorded, zone_covers}
use Rattle.docket.proofs.Rows.{not_refused, not_taken}
use Rattle.docket.proofs.docket.Docket.list.Goals as goal

pub returns-then-satisfies-clause-tried : goal.returns-then-satisfies-clause-tried
returns-then-satisfies-clause-tried g c =
    let kind = g.B.Bound.kind in
    let zone = c.args.zone.now in
    let m = marking_of c.self.inside.initial.items in
    let tokens = c.in_ok-tokens.tokens in
    let draft = c.read_zone.new.cells in
    let h = recorded kind c.args.net_places zone (rule 26 (Satisfies kind 1 (zone_of kind zone) m) ∷ []) c.args.draft.now draft (Ok tokens) c.requires.drafted c.in_ok-tokens.ensures.answer in
    let s = subst (λ ps. Satisfies kind 1 (draft_zone kind ps draft) m) c.deref.ensures.0 (c.satisfies.ensures.0 c.if-satisfies.true) in
    rw (← c.self.view_is)
    (record {
      answers = h.passes (Err Covered) (inl (zone_covers kind zone draft tokens.items h.formed h.places m s, refl));
      refused = λ r e. refl;
      taken = λ e. not_taken Covered e;
    })

pub returns-clause-tried : goal.returns-clause-tried
returns-clause-tried g c =
    let kind = g.B.Bound.kind in
    let self = c.self.inside in
    let m = marking_of self.initial.items in
    let tokens = c.in_ok-tokens.tokens in
    let draft = c.read_zone.new.cells in
    let z = zone_of kind c.args.zone.now in
    let h = recorded kind c.args.net_places c.args.zone.now (rule 26 (Satisfies kind 1 z m) ∷ []) c.args.draft.now draft (Ok tokens) c.requires.drafted c.in_ok-tokens.ensures.answer in
    let apart = λ (s : Satisfies kind 1 z m).
    false≢true (sym c.if-satisfies.false ∙ c.satisfies.ensures.1 (subst (λ ps. Satisfies kind 1 (draft_zone kind ps draft) m) (sym c.deref.ensures.0) (form_covers kind z draft tokens.items h.formed h.places m s))) in
    let counted = c.push.ensures.items ∙ ap (λ n. self.counts.items ++ (n ∷ [])) (c.len.ensures.value ∙ ap length h.places) in
    rw (← c.self.view_is)
    (record {
      answers = h.passes (Ok tt) (inr (apart, refl));
      refused = λ r e. not_refused r e;
      taken = λ e.
          record {
            state =
                ap (λ stage. record { stage = stage; initial = self.initial.items; counts = c.push.new.self.items; taken = self.taken }) (ap (λ s. s.stage) c.self.view_is ∙ c.requires.listing)
                ∙ ap (λ counts. record { stage = Listing; initial = self.initial.items; counts = counts; taken = self.taken }) counted;
            page = page_written kind z draft tokens.items h.formed h.places (length self.counts.items) c.len-number.result _ _ _ c.len-number.ensures.value c.deref-2.ensures.0 c.write_page.ensures.cells c.write_page.ensures.places;
          };
    })
