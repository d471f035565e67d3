use Rattle.std.proofs.Common.{◌<◌, ◌∷◌, [], ◌++◌, length, ap, ◌∙◌, arith}
use Rattle.std.proofs.lemmas.Bool.{leb-true}
use Rattle.std.proofs.lemmas.List.{length-map}
use Rattle.zone_cells.specs.Drafts.{draft_zone}
use Rattle.zone_markings.specs.Initial.{as_token, marking_of}
use Rattle.zone_markings.specs.Pairings.{by_ages, extends}
use Rattle.zone_markings.proofs.Paired.{decided, enough}
use Rattle.zone_markings.proofs.search.satisfies.Goals as goal

pub returns-then-places-len : goal.returns-then-places-len
returns-then-places-len g c =
    let zone = draft_zone g.B.Bound.kind c.args.places.now c.args.cells.now in
    let m = marking_of c.args.initial.now.items in
    decided g.B.Bound.kind zone m c.extends.result (c.extends.ensures ∙ ap (λ ps. extends (by_ages g.B.Bound.kind zone.bound m) ps zone.places) (c.one_more.ensures ∙ ap (λ ps. ps ++ 0 ∷ []) c.new.ensures))

pub returns-else-places-len : goal.returns-else-places-len
returns-else-places-len g c =
    let many : c.len.result < length c.args.places.now = c.if-places-len.false in
    let same = c.len.ensures.value in (
      λ h. absurd (omega (arith, many, leb-true _ _ h)),
      λ s. absurd (omega (arith, many, same, enough g.B.Bound.kind (draft_zone g.B.Bound.kind c.args.places.now c.args.cells.now) (marking_of c.args.initial.now.items) s, length-map c.args.initial.now.items as_token)),
    )
