use Rattle.std.proofs.Common.{rules}
use Rattle.zone_pages.proofs.Means.{means}
use Rattle.docket_vouching.proofs.vouching.Vouching.check.Goals as goal

pub returns-then-lacks_partners-clause-means : goal.returns-then-lacks_partners-clause-means
returns-then-lacks_partners-clause-means g c = means _ _ _ _ _ (search rules)

pub returns-then-places_differ-clause-means : goal.returns-then-places_differ-clause-means
returns-then-places_differ-clause-means g c = means _ _ _ _ _ (search rules)

pub returns-then-some_exceeds-clause-means : goal.returns-then-some_exceeds-clause-means
returns-then-some_exceeds-clause-means g c = means _ _ _ _ _ (search rules)

pub returns-else-some_exceeds-clause-means : goal.returns-else-some_exceeds-clause-means
returns-else-some_exceeds-clause-means g c = means _ _ _ _ _ (search rules)
