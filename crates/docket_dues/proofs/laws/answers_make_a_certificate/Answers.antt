use Rattle.zones.specs.Safety.{starts_at}
use Rattle.docket_dues.proofs.Soundness.{certificate, safe}
use Rattle.docket_dues.proofs.laws.answers_make_a_certificate.Goals as goal

pub returns-clause-certificate : goal.returns-clause-certificate
returns-clause-certificate g c net limits = λ initial target listed all.
    certificate g.B.Bound.kind net limits (starts_at initial) target listed all

pub returns-clause-safe : goal.returns-clause-safe
returns-clause-safe g c net limits = λ initial target listed all.
    safe g.B.Bound.kind net limits (starts_at initial) target listed all
