-- Which ages a range holds.
use Rattle.std.specs.Prelude.{ℕ, Bool, not, ◌&&◌, ℤ, neg_ℤ}
use Rattle.bounds.specs.Kinds.{Kind}
use Rattle.bounds.specs.declared.range.Range.{Range}

-- on grid k the range holds the age: the upper bound allows it, and the lower one allows it negated
abbrev pub holds : {B : Type 0} → Kind B → ℕ → Range B → ℤ → Bool
holds kind k range age = kind.allows k range.upper age && kind.allows k range.lower (neg_ℤ age)

-- the range from 0 without limit
abbrev pub from_zero : {B : Type 0} → Kind B → Range B
from_zero kind = record { upper = kind.no_limit; lower = kind.zero }

-- the two bounds sum below zero, so that no age on any grid lies in the range
abbrev pub below_zero : {B : Type 0} → Kind B → Range B → Bool
below_zero kind range = not (kind.at_most kind.zero (kind.sum range.upper range.lower))
