use Rattle.std.proofs.Common.{◌≡◌, ◌≤◌, ℤ, pos, neg_ℤ, ◌-ℤ◌, nat_abs, false, leb, w32, FitsSigned, ap, ap₂, ◌∙◌, rules, arith}
use Rattle.std.proofs.lemmas.Bool.{cond-true, le-leb}
use Rattle.std.proofs.lemmas.Int.{ints, to_z-of_z}
use Rattle.bounds.specs.Kinds.{bound_of, largest_number}
use Rattle.bounds.specs.PlainKind.{plain_kind}
use Rattle.bounds.specs.declared.plain.PlainBound.{PlainBound}
use Rattle.net_handover.proofs.store.HandoverNetStorePlainBound.range.Goals as goal

-- an end is small, so its bound is made of it
made_end : (b : PlainBound) (n z : ℤ) → b ≡ bound_of plain_kind n false → n ≡ z → nat_abs z ≤ largest_number → b ≡ plain_kind.number z false
made_end b n z is same small =
    is ∙ ap (λ m. bound_of plain_kind m false) same ∙ cond-true (leb (nat_abs z) largest_number) _ _ (le-leb (nat_abs z) largest_number small)

pub returns-in-1-Input-eq1 : goal.returns-in-1-Input-eq1
returns-in-1-Input-eq1 c =
    let s = c.args.self.now in
    let f = c.from.ensures in
    let g = c.from-in-1-Input-eq1.ensures in
    let p : FitsSigned w32 c.from.result = omega (arith, ints, f, s.small) in
    let q : FitsSigned w32 c.from-in-1-Input-eq1.result = omega (arith, ints, g, s.small, s.ordered) in
    let r : FitsSigned w32 (pos 0 -ℤ c.from-in-1-Input-eq1.result) = omega (arith, ints, g, s.small, s.ordered) in
    let upper = made_end c.bound_of.result c.from.result (pos s.upper) (simp to_z-of_z at c.bound_of.ensures) f (omega (arith, s.small)) in
    let lower = made_end c.bound_of-in-1-Input-eq1.result (pos 0 -ℤ c.from-in-1-Input-eq1.result) (neg_ℤ (pos s.lower)) (simp to_z-of_z at c.bound_of-in-1-Input-eq1.ensures) (omega (arith, ints, g)) (omega (arith, ints, s.small, s.ordered)) in
    rw (c.in-1-Input-eq1.is-0, c.in-1-Input-eq1.is-1, c.in-1-Input-eq1.is-2) (ap₂ (λ u l. record { upper = u; lower = l }) upper lower)
