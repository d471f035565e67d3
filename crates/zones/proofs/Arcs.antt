-- The arcs of a transition: at most four on a side.
use Rattle.std.proofs.Common.{ℕ, zero, suc, ◌≤◌, List, [], ◌∷◌, length, get_or, arith}
use Rattle.bounds.specs.Kinds.{Kind}
use Rattle.nets.specs.Nets.{Transition, TransitionLimits, Net, Limits, Every, arcs_of, no_transition, transition_of}
use Rattle.nets.specs.declared.side.Side.TheVariants.{Output}

limits_at : {B : Type 0} (kind : Kind B) (places : ℕ) (ts : List (Transition B)) (i : ℕ) → Every (TransitionLimits kind places) ts → TransitionLimits kind places (get_or ts i no_transition)
limits_at kind places [] i h = record { few_inputs = omega arith; few_outputs = omega arith; inputs = tt; outputs = tt }
limits_at kind places (t ∷ ts) zero h = h.0
limits_at kind places (t ∷ ts) (suc i) h = limits_at kind places ts i h.1

-- a transition that does not exist has no arcs, so it keeps the limits too
pub transition_limits : {B : Type 0} (kind : Kind B) (net : Net B) (t : ℕ) → Limits kind net → TransitionLimits kind net.places (transition_of net t)
transition_limits kind net zero limits = record { few_inputs = omega arith; few_outputs = omega arith; inputs = tt; outputs = tt }
transition_limits kind net (suc t) limits = limits_at kind net.places net.transitions t limits.transitions

pub few_outputs : {B : Type 0} (kind : Kind B) (net : Net B) (t : ℕ) → Limits kind net → length (arcs_of net t Output) ≤ 4
few_outputs kind net t limits = (transition_limits kind net t limits).few_outputs
