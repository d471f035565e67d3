use Rattle.std.proofs.Common.{◌≡◌, ap₂, take, sym, refl, ◌∙◌, subst}
use Rattle.std.proofs.lemmas.Bool.{true≢false}
use Rattle.zone_cells.specs.Drafts.{page_zone}
use Rattle.docket_dues.specs.Answered.{digits}
use Rattle.docket_vouching.specs.Asked.{ItemDigits, PageDigits}
use Rattle.docket_vouching.specs.Rows.{rows_in}
use Rattle.docket_vouching.proofs.Zones.{firing_worked}
use Rattle.docket_vouching.proofs.work.work_in.Goals as goal

pub returns-then-not-are_tokens-clause-zone : goal.returns-then-not-are_tokens-clause-zone
returns-then-not-are_tokens-clause-zone g c =
    let said : take c.from.result c.digits-all.result ≡ digits (g.N.NetStore.net c.args.store.now) c.args.item.transition c.args.item.matching = ap₂ take (c.from.ensures ∙ c.arc_count.ensures.is) c.digits-all.ensures in
    record {
      worked = λ small. absurd (true≢false (sym (c.are_tokens.ensures.1 (subst PageDigits (sym said) (small c.in_default.is-0.1 c.in_default.is-1.1))) ∙ c.if-not-are_tokens.true));
      past = λ h. refl;
    }

pub returns-else-not-are_tokens-clause-zone : goal.returns-else-not-are_tokens-clause-zone
returns-else-not-are_tokens-clause-zone g c =
    let kind = g.B.Bound.kind in
    let net = g.N.NetStore.net c.args.store.now in
    let said : take c.from.result c.digits-all.result ≡ digits net c.args.item.transition c.args.item.matching = ap₂ take (c.from.ensures ∙ c.arc_count.ensures.is) c.digits-all.ensures in
    let small : ItemDigits net c.args.item = λ listed firing. subst PageDigits said (c.are_tokens.ensures.0 c.if-not-are_tokens.false) in
    record {
      worked = λ h. firing_worked kind net (page_zone kind c.args.page.now.places.now c.args.page.now.cells.now) c.args.item c.in_default.is-0.1 c.in_default.is-1.1 (take c.from.result c.digits-all.result) (rows_in kind c.fired.new.up c.fired.new.low) c.fired.result said c.fired.ensures.zone;
      past = λ h. absurd (h small);
    }
