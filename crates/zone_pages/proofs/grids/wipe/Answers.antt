use Rattle.std.proofs.Common.{rules, replicate, ap, ◌∙◌}
use Rattle.zone_pages.proofs.Steps.{all_alike}
use Rattle.zone_pages.proofs.grids.wipe.Goals as goal

pub returns : goal.returns
returns g c =
    all_alike _ g.B.Bound.kind.no_limit (λ f x h k. search rules) _ _ _ c.fill_with.ensures.ran.1 ∙ ap (λ n. replicate n g.B.Bound.kind.no_limit) c.fill_with.ensures.len
