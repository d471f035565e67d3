use Rattle.docket_rules.proofs.Kept.{promised}
use Rattle.docket_rules.proofs.OneStep.{close_sharp, discharge_sharp, next_sharp, open_sharp, post_sharp}
use Rattle.docket_rules.proofs.Reaching.{reached_blank, reached_kept, reached_step}
use Rattle.docket_rules.proofs.laws.calls_keep_laws.Goals as goal

pub returns : goal.returns
returns g c net limits =
    let kind = g.B.Bound.kind in
    let promise = promised kind net limits in
    record {
      start = reached_blank kind net;
      more = reached_step kind net;
      kept = λ log w reached. reached_kept kind net log w promise reached;
      opens = open_sharp kind net;
      posts = post_sharp kind net;
      closes = close_sharp kind net;
      discharges = discharge_sharp kind net promise;
      nexts = next_sharp kind net;
    }
