-- The net of a line with two stops and one handover, and the proof that it keeps the limits of
-- every net.
use Rattle.std.specs.Prelude.{ℕ, ◌≤◌, false, [], ◌∷◌, pos, neg_ℤ}
use Rattle.std.proofs.Common.{arith, sym}
use Rattle.std.proofs.lemmas.Int.{ints}
use Rattle.bounds.specs.Kinds.{Kind}
use Rattle.bounds.specs.PlainKind.{plain_kind}
use Rattle.bounds.specs.declared.plain.PlainBound.{PlainBound}
use Rattle.bounds.specs.declared.range.Range.{Range}
use Rattle.nets.proofs.Ranges.{closed_range}
use Rattle.nets.specs.Nets.{Transition, Net, RangeLimits, Limits, largest_end}

-- the ages from lower to upper, both ends included
abbrev pub ages : {B : Type 0} → Kind B → ℕ → ℕ → Range B
ages kind lower upper =
    record {
      upper = kind.number (pos upper) false;
      lower = kind.number (neg_ℤ (pos lower)) false;
    }

-- takes from place 0 a token whose age is from lower to upper, and puts one of age 0 to place 1
abbrev pub handover : ℕ → ℕ → Transition PlainBound
handover lower upper =
    record {
      inputs = record { place = 0; range = ages plain_kind lower upper } ∷ [];
      outputs = record { place = 1; range = ages plain_kind 0 0 } ∷ [];
    }

abbrev pub handover_net : ℕ → ℕ → Net PlainBound
handover_net lower upper = record { places = 2; transitions = handover lower upper ∷ [] }

-- ---- the limits
pub ages_limits : {B : Type 0} (kind : Kind B) (lower upper : ℕ) → lower ≤ upper →
    upper ≤ largest_end → RangeLimits kind (ages kind lower upper)
ages_limits kind lower upper ordered small =
    closed_range kind lower false (omega arith) upper false small (sym (omega (arith, ints)))

pub handover_limits : (lower upper : ℕ) → lower ≤ upper → upper ≤ largest_end →
    Limits plain_kind (handover_net lower upper)
handover_limits lower upper ordered small =
    record {
      some_place = omega arith;
      few_places = omega arith;
      few_transitions = omega arith;
      transitions = (
        record {
          few_inputs = omega arith;
          few_outputs = omega arith;
          inputs = (
            record {
              place =
                  omega arith;
              range = ages_limits plain_kind lower upper ordered small;
            },
            tt,
          );
          outputs = (
            record {
              place =
                  omega arith;
              range = ages_limits plain_kind 0 0 (omega arith) (omega arith);
            },
            tt,
          );
        },
        tt,
      );
    }
