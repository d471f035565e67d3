use Rattle.std.proofs.Common.{◌≡◌, ◌+◌, ◌∷◌, length, map, ap, ◌∙◌, subst}
use Rattle.nets.specs.Nets.{arcs_of, numbered}
use Rattle.nets.specs.declared.side.Side.TheVariants.{Input}
use Rattle.zone_cells.specs.Drafts.{page_zone}
use Rattle.zone_cells.proofs.Sifted.{sifted-others}
use Rattle.zones.specs.Predecessors.{staying}
use Rattle.zone_closed_forms.specs.ClosedForms.{spread}
use Rattle.zone_closed_forms.specs.ClockRows.{Alike}
use Rattle.docket_vouching.specs.Rows.{rows_in}
use Rattle.docket_vouching.proofs.Zones.{behind, replaced_same}
use Rattle.docket_vouching.proofs.work.replace.Goals as goal

pub returns-clause-zone : goal.returns-clause-zone
returns-clause-zone g c =
    let kind = g.B.Bound.kind in
    let ms = c.args.matching.now in
    let arcs = arcs_of (g.N.NetStore.net c.args.store.now) c.args.transition Input in
    let z = page_zone kind c.args.page.now.places.now c.args.page.now.cells.now in
    let kept = c.staying-kept.result.items in
    let rows = rows_in kind c.args.page_up.now c.args.page_low.now in
    let own = rows_in kind c.spread_rows.new.up c.spread_rows.new.low in
    let listed : kept ≡ 0 ∷ staying ms z = c.staying-kept.ensures ∙ ap (λ xs. 0 ∷ xs) (sifted-others ms 1 (length c.args.page.now.places.now)) in
    let all = behind (λ i. numbered c.args.page.now.places.now i 0) kept c.deref-2.result.now (staying ms z) c.all_places-tokens.result.items (map (λ a. a.place) arcs) c.deref-2.ensures.0 listed c.all_places-tokens.ensures in
    replaced_same kind z ms arcs rows own kept c.all_places-tokens.result.items listed all (subst (λ xs. Alike (length xs + length arcs) (spread kind xs arcs rows) own) c.deref.ensures.0 c.spread_rows.ensures.rows)
