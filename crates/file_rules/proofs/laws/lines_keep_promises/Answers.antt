use Rattle.file_rules.proofs.One.{one}
use Rattle.file_rules.proofs.Truths.{counts, items, truth}
use Rattle.file_rules.proofs.laws.lines_keep_promises.Goals as goal

pub returns : goal.returns
returns c =
    let plain = c.calls_keep_laws.ensures in
    let marked = c.calls_keep_laws-2.ensures in
    λ bytes. record {
      truth = truth plain marked bytes;
      counts = counts plain marked bytes;
      items = items plain marked bytes;
      one = one plain marked bytes;
    }
