use Rattle.std.proofs.Common.{◌≡◌, [], ◌∷◌, Ok, codes, sym, ap, ◌∙◌}
use Rattle.std.proofs.lemmas.Slice.Eq.{slice_eq-Decides, strip_prefix_is}
use Rattle.std.proofs.lemmas.Option.{MatchOption-at_none}
use Rattle.std.proofs.lemmas.Bool.{both_ways}
use Rattle.loops.proofs.Scans.{bound_no_limit, bound_other, marked_plain}
use Rattle.loops.proofs.line.read_bound.Goals as goal
use Rattle.std.proofs.lemmas.Bool.Decides.{Decides-eqb}

pub returns-then-eq : goal.returns-then-eq
returns-then-eq g c =
    let same = (slice_eq-Decides Decides-eqb _ _ _ c.eq.ensures).0 c.if-eq.true ∙ c.as_bytes.ensures.value in
    ap Ok c.no_limit.ensures ∙ sym (bound_no_limit g.B.Bound.kind c.args.line.now same)

pub returns-in-None : goal.returns-in-None
returns-in-None g c =
    let line = c.args.line.now in
    let unlike : line ≡ codes "no limit" → ⊥ = λ e. both_ways c.eq.result c.if-eq.false ((slice_eq-Decides Decides-eqb _ _ _ c.eq.ensures).1 (e ∙ sym c.as_bytes.ensures.value)) in
    let other = MatchOption-at_none _ _ c.in-None.is (strip_prefix_is Decides-eqb line (60 ∷ []) c.strip_prefix.result c.strip_prefix.ensures.cases) in
    c.number_bound-in-None.ensures ∙ sym (marked_plain g.B.Bound.kind line other) ∙ sym (bound_other g.B.Bound.kind line unlike)
