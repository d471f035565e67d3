-- The same places and bounds: a zone is as inconsistent, and has the same markings.
use Rattle.std.proofs.Common.{ℕ, suc, cond, eqb, List, length, sym, ap, ◌∙◌, ◌-ℤ◌}
use Rattle.bounds.specs.Kinds.{Kind}
use Rattle.nets.specs.Markings.{Marking}
use Rattle.zone_walks.specs.Walks.{Matrix, counted, lesser}
use Rattle.zone_walks.proofs.Closed.{Same}
use Rattle.zone_walks.proofs.NormalForms.{same_negative}
use Rattle.zones.specs.Zones.{Inconsistent, Satisfies, age_of}

module _ {B : Type 0} (kind : Kind B) (ps : List ℕ) (d e : Matrix B) (same : Same (suc (length ps)) d e) where
  counted_same : Same (suc (length ps)) (counted kind d) (counted kind e)
  counted_same j i p q = ap (λ b. cond (eqb j i) kind.zero (cond (eqb j 0) (lesser kind b kind.zero) b)) (same j i p q)

  pub inconsistent_same : Inconsistent kind (record { places = ps; bound = d }) → Inconsistent kind (record { places = ps; bound = e })
  inconsistent_same = same_negative kind (suc (length ps)) (counted kind d) (counted kind e) counted_same

  pub satisfies_same : (m : Marking) → Satisfies kind 1 (record { places = ps; bound = d }) m → Satisfies kind 1 (record { places = ps; bound = e }) m
  satisfies_same m s =
      record {
        chosen = s.chosen;
        rest = s.rest;
        pairing = s.pairing;
        places = s.places;
        allowed = λ j i p q. ap (λ b. kind.allows 1 b (age_of s.chosen j -ℤ age_of s.chosen i)) (sym (counted_same j i p q)) ∙ s.allowed j i p q;
      }
