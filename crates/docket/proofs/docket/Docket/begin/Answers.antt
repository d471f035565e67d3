use Rattle.std.proofs.Common.{◌≤◌, ◌++◌, ◌∷◌, [], length, Ok, Err, refl, sym, ap, ◌∙◌, subst}
use Rattle.docket_records.specs.ZoneRecords.{zone_of}
use Rattle.docket_rules.specs.Tables.{given, initial_tokens, record_rules}
use Rattle.docket_rules.specs.declared.stage.Stage.TheVariants.{Listing}
use Rattle.docket.proofs.Gathered.{GatheredBy, gathered_by}
use Rattle.std.proofs.lemmas.Result.{err_from_is_err_and}
use Rattle.docket_refusals.specs.declared.refusal.CallRefusal.TheVariants.{Entry}
use Rattle.docket.proofs.Records.{few_tokens, page_written, recorded}
use Rattle.docket.proofs.Rows.{not_refused, not_taken}
use Rattle.docket.proofs.docket.Docket.begin.Goals as goal

pub returns-clause-tried : goal.returns-clause-tried
returns-clause-tried g c =
    let kind = g.B.Bound.kind in
    let net_places = c.args.net_places in
    let target = c.args.target.now in
    let tokens = c.in_ok-tokens.tokens in
    let draft = c.read_zone.new.cells in
    let opening = given c.args.initial.now c.args.ages.now in
    let first = subst (GatheredBy net_places opening (record_rules kind net_places target)) (sym c.in_ok-initial.ensures) (gathered_by net_places opening (record_rules kind net_places target)) in
    let h = recorded kind net_places target [] c.args.draft.now draft (Ok tokens) c.requires.drafted c.in_ok-tokens.ensures.answer in
    let counted = c.push.ensures.items ∙ ap (λ xs. xs ++ (c.len.result ∷ [])) c.clear.ensures ∙ ap (λ n. n ∷ []) (c.len.ensures.value ∙ ap length h.places) in
    record {
      answers = first.1 (Ok tt) (h.passes (Ok tt) refl);
      refused = λ r e. not_refused r e;
      taken = λ e.
          record {
            state =
                ap (λ xs. record { stage = Listing; initial = xs; counts = c.push.new.self.items; taken = 0 }) first.0
                ∙ ap (λ counts. record { stage = Listing; initial = initial_tokens opening; counts = counts; taken = 0 }) counted;
            page = page_written kind (zone_of kind target) draft tokens.items h.formed h.places 0 0 _ _ _ refl c.deref.ensures.0 c.write_page.ensures.cells c.write_page.ensures.places;
          };
    }

pub returns-in_err-tokens-clause-tried : goal.returns-in_err-tokens-clause-tried
returns-in_err-tokens-clause-tried g c =
    let kind = g.B.Bound.kind in
    let net_places = c.args.net_places in
    let target = c.args.target.now in
    let e = c.in_err-tokens.field-0.0 in
    let opening = given c.args.initial.now c.args.ages.now in
    let first = subst (GatheredBy net_places opening (record_rules kind net_places target)) (sym c.in_ok-initial.ensures) (gathered_by net_places opening (record_rules kind net_places target)) in
    let h = recorded kind net_places target [] c.args.draft.now c.read_zone.new.cells (Err e) c.requires.drafted c.in_err-tokens.ensures.answer in
    let p = err_from_is_err_and c.from_residual-in_err-tokens.result c.from_residual-in_err-tokens.ensures.1 in
    rw (p.1, p.2) (record { answers = first.1 (Err (Entry e)) h; refused = λ r q. refl; taken = λ q. not_taken (Entry e) q })

pub write_page-requires-clause-few : goal.write_page-requires-clause-few
write_page-requires-clause-few g c =
    let kind = g.B.Bound.kind in
    let target = c.args.target.now in
    let draft = c.read_zone.new.cells in
    let tokens = c.in_ok-tokens.tokens in
    let h = recorded kind c.args.net_places target [] c.args.draft.now draft (Ok tokens) c.requires.drafted c.in_ok-tokens.ensures.answer in
    subst (λ ts. length ts ≤ 8) (sym c.deref.ensures.0) (few_tokens kind (zone_of kind target) draft tokens.items h.formed h.places)
