use Rattle.std.proofs.Common.{◌++◌, length, arith}
use Rattle.zone_cells.specs.Cells.{in_page}
use Rattle.zone_cells.specs.Drafts.{page_zone}
use Rattle.docket_vouching.specs.Asked.{WorksOut, zone_asked}
use Rattle.docket_vouching.proofs.Cells.{asked_few, length_four, same_behind, split_four, worked_at}
use Rattle.docket_vouching.proofs.Means.{means_item}
use Rattle.docket_vouching.proofs.work.work_out.Goals as goal

pub returns : goal.returns
returns g c =
    let kind = g.B.Bound.kind in
    let net = g.N.NetStore.net c.args.store.now in
    let z = page_zone kind c.args.page.now.places.now c.args.page.now.cells.now in
    let up = c.work_in.new.up in
    let low = c.work_in.new.low in
    let page_up = c.work_in.new.page_up in
    let page_low = c.work_in.new.page_low in
    let tail = c.split_at_mut-page_low.result.1.now in
    let rest = page_up ++ (page_low ++ tail) in
    let at_up = c.split_at_mut-up in
    let at_low = c.split_at_mut-low in
    let at_page_up = c.split_at_mut-page_up in
    let at_page_low = c.split_at_mut-page_low in
    let works : WorksOut kind net z c.args.item c.args.cells.now (up ++ (low ++ rest)) c.work_in.result =
    record {
      kept = length_four up low page_up page_low tail (length c.args.cells.now) (omega (arith, c.work_in.ensures.up, c.work_in.ensures.low, c.work_in.ensures.page_up, c.work_in.ensures.page_low, at_up.ensures.back_len, at_low.ensures.back_len, at_page_up.ensures.back_len, at_page_low.ensures.back_len));
      behind = same_behind c.args.cells.now up low page_up page_low tail c.work_in.ensures.up c.work_in.ensures.low c.work_in.ensures.page_up c.work_in.ensures.page_low
          (split_four c.args.cells.now at_up.result.0.now at_low.result.0.now at_page_up.result.0.now at_page_low.result.0.now tail at_up.result.1.now at_low.result.1.now at_page_up.result.1.now at_up.ensures.front_len at_low.ensures.front_len at_page_up.ensures.front_len at_page_low.ensures.front_len at_up.ensures.value at_low.ensures.value at_page_up.ensures.value at_page_low.ensures.value);
      worked = λ room few small. worked_at kind (in_page kind c.args.page.now.cells.now) up low rest c.work_in.ensures.up c.work_in.ensures.low (zone_asked kind net z c.args.item) c.work_in.result (asked_few kind z few net c.args.item c.keeps_limits.ensures) (c.work_in.ensures.zone.worked small);
      short = λ short. absurd (omega (arith, short, at_up.ensures.back_len));
      crowded = λ crowded. absurd (omega (arith, crowded));
      past = c.work_in.ensures.zone.past;
    } in
    record { works = works; means = means_item kind net c.keeps_limits.ensures c.args.page.now.places.now c.args.page.now.cells.now c.args.cells.now (up ++ (low ++ rest)) c.args.item.zone c.args.item.transition c.args.item.matching c.work_in.result works }
