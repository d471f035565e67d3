-- What a net is, and its limits.
--     arc           a place and a range of ages
--     transition    input and output arcs, both numbered from 1
--     net           places, numbered from 0, and transitions, numbered from 1
use Rattle.std.specs.Prelude.{◌≡◌, ℕ, zero, suc, ◌<◌, ◌≤◌, Bool, ◌⊎◌, List, [], ◌∷◌, length, ℤ, pos}
use Rattle.std.specs.Prelude.{neg_ℤ, slice_index_or, IsTrue}
use Rattle.bounds.specs.Kinds.{Kind}
use Rattle.bounds.specs.Ranges.{from_zero}
use Rattle.bounds.specs.declared.range.Range.{Range}
use Rattle.nets.specs.declared.side.Side.{Side}
use Rattle.nets.specs.declared.side.Side.TheVariants.{Input, Output}

pub record Arc (B : Type 0) : Type 0 where
  pub place : ℕ
  pub range : Range B

pub record Transition (B : Type 0) : Type 0 where
  pub inputs : List (Arc B)
  pub outputs : List (Arc B)

pub record Net (B : Type 0) : Type 0 where
  pub places : ℕ
  pub transitions : List (Transition B)

-- ---- the limits of every net
abbrev pub largest_end : ℕ
largest_end = 32767

-- a bound of a number that the kind takes with its mark
pub record Ended {B : Type 0} (kind : Kind B) (sign : ℕ → ℤ) (b : B) : Type 0 where
  pub end : ℕ
  pub strict : Bool
  pub small : end ≤ largest_end
  pub takes : IsTrue strict → IsTrue kind.marks
  pub is : b ≡ kind.number (sign end) strict

-- both ends lie from 0 to 32767, the upper one perhaps without limit, and some age on some grid may
-- lie between them
pub record RangeLimits {B : Type 0} (kind : Kind B) (range : Range B) : Type 0 where
  pub lower : Ended kind (λ n. neg_ℤ (pos n)) range.lower
  pub upper : (range.upper ≡ kind.no_limit) ⊎ Ended kind pos range.upper
  pub sum : IsTrue (kind.at_most kind.zero (kind.sum range.upper range.lower))

-- P of every element
abbrev pub Every : {X : Type 0} → (X → Type 0) → List X → Type 0
Every P [] = Unit {0}
Every P (x ∷ xs) = P x × Every P xs

pub record ArcLimits {B : Type 0} (kind : Kind B) (places : ℕ) (arc : Arc B) : Type 0 where
  pub place : arc.place < places
  pub range : RangeLimits kind arc.range

pub record TransitionLimits {B : Type 0} (kind : Kind B) (places : ℕ) (t : Transition B) : Type 0 where
  pub few_inputs : length t.inputs ≤ 4
  pub few_outputs : length t.outputs ≤ 4
  pub inputs : Every (ArcLimits kind places) t.inputs
  pub outputs : Every (ArcLimits kind places) t.outputs

pub record Limits {B : Type 0} (kind : Kind B) (net : Net B) : Type 0 where
  pub some_place : 1 ≤ net.places
  pub few_places : net.places ≤ 64
  pub few_transitions : length net.transitions ≤ 64
  pub transitions : Every (TransitionLimits kind net.places) net.transitions

-- ---- what is asked of a net
-- the element with this number, counted from 1, or the one given where there is none
abbrev pub numbered : {X : Type 0} → List X → ℕ → X → X
numbered xs zero none = none
numbered xs (suc n) none = slice_index_or xs n none

-- what stands for a transition that does not exist
abbrev pub no_transition : {B : Type 0} → Transition B
no_transition = record { inputs = []; outputs = [] }

abbrev pub transition_of : {B : Type 0} → Net B → ℕ → Transition B
transition_of net t = numbered net.transitions t no_transition

abbrev pub side_of : {B : Type 0} → Side → Transition B → List (Arc B)
side_of Input t = t.inputs
side_of Output t = t.outputs

abbrev pub arcs_of : {B : Type 0} → Net B → ℕ → Side → List (Arc B)
arcs_of net t side = side_of side (transition_of net t)

-- what stands for an arc that does not exist: any age at place 0
abbrev pub no_arc : {B : Type 0} → Kind B → Arc B
no_arc kind = record { place = 0; range = from_zero kind }

abbrev pub arc_of : {B : Type 0} → Kind B → Net B → ℕ → Side → ℕ → Arc B
arc_of kind net t side a = numbered (arcs_of net t side) a (no_arc kind)
