-- What both predecessors of a draft's zone answer and leave. Both are promised for a zone that a
-- page holds: in normal form, of at most 8 tokens, in whole cells.
use Rattle.std.specs.Prelude.{◌≡◌, ℕ, suc, Bool, true, false, List, length, Some, None, Option}
use Rattle.std.specs.Prelude.{◌-◌, if◌then◌else◌, nat_eq, slice_index}
use Rattle.bounds.specs.Kinds.{Kind}
use Rattle.zone_cells.specs.Cells.{in_draft, matched_cells, narrowed_cells}
use Rattle.zone_cells.specs.Sizes.{draft_cells}
use Rattle.zone_cells.specs.Settling.{Consistent}
use Rattle.zone_cells.specs.Drafts.{draft_zone, Workable, largest_listed, largest_predecessor}
use Rattle.nets.specs.Nets.{Net, Transition, arc_of, arcs_of, transition_of}
use Rattle.nets.specs.declared.side.Side.TheVariants.{Output}
use Rattle.zones.specs.Predecessors.{DelayPredecessor, FiringPredecessor, Void, digits_of, matches}
use Rattle.zones.specs.Zones.{Zone, SizedZone}
use Rattle.arrayvec.specs.ArrayVec.{ArrayVec}

-- the delay predecessor stands in the cells afterwards
pub record DelayedBack {B : Type 0} (kind : Kind B) (places : List ℕ)
    (before after : List B) : Type 0 where
  pub kept : length after ≡ length before
  pub is : Workable kind places before →
      DelayPredecessor kind (draft_zone kind places before) (draft_zone kind places after)
  pub small : Workable kind places before →
      SizedZone kind largest_listed (draft_zone kind places after)

-- these places of tokens and the cells are the firing predecessor
pub record Predecessor {B : Type 0} (kind : Kind B) (t : Transition B) (matching : List ℕ)
    (z : Zone B) (after : List B) (places : List ℕ) : Type 0 where
  pub is : FiringPredecessor kind t matching z (draft_zone kind places after)
  pub small : SizedZone kind largest_predecessor (draft_zone kind places after)

-- its tokens, or none where it is void
abbrev pub FiringAnswer : {B : Type 0} → Kind B → Transition B → List ℕ → Zone B → List B →
    Option (ArrayVec ℕ) → Type 0
FiringAnswer kind t matching z after None = Void kind t matching z
FiringAnswer kind t matching z after (Some tokens) =
    Predecessor kind t matching z after tokens.items

pub record FiredBack {B : Type 0} (kind : Kind B) (t : Transition B) (matching : List ℕ)
    (places : List ℕ) (before after : List B) (answer : Option (ArrayVec ℕ)) : Type 0 where
  pub kept : length after ≡ length before
  pub answered : Workable kind places before → matches places t.outputs matching ≡ true →
      FiringAnswer kind t matching (draft_zone kind places before) after answer

-- the firing of a net's transition, with the matching that a number says
abbrev pub FiringBack : {B : Type 0} → Kind B → Net B → (transition matching : ℕ) → List ℕ →
    List B → List B → Option (ArrayVec ℕ) → Type 0
FiringBack kind net t matching places before after answer =
    FiredBack kind (transition_of net t) (digits_of (arcs_of net t Output) matching) places
    before after answer

-- ---- the two halves of a firing predecessor
-- one output arc, numbered from 1, narrows the token that it is matched with
abbrev pub narrowed_once : {B : Type 0} → Kind B → Net B → ℕ → List ℕ → ℕ → List B → List B
narrowed_once kind net t matching arc cells =
    let token = slice_index matching (arc - 1) in
    if nat_eq token 0 then cells
    else narrowed_cells kind token (arc_of kind net t Output arc).range cells

-- true with the normal form of the narrowed zone, false where the predecessor is void
abbrev pub NarrowedAnswer : {B : Type 0} → Kind B → Transition B → List ℕ → List ℕ → List B →
    List B → Bool → Type 0
NarrowedAnswer kind t matching places before after true =
    Consistent kind (suc (length places))
    (in_draft kind (matched_cells kind t.outputs matching before)) (in_draft kind after)
NarrowedAnswer kind t matching places before after false =
    Void kind t matching (draft_zone kind places before)

pub record Narrowed {B : Type 0} (kind : Kind B) (t : Transition B) (matching : List ℕ)
    (places : List ℕ) (before after : List B) (answer : Bool) : Type 0 where
  pub kept : length after ≡ length before
  pub answered : Workable kind places before → matches places t.outputs matching ≡ true →
      NarrowedAnswer kind t matching places before after answer

-- the matched tokens are taken off that normal form, and the input arcs' tokens added
pub record Replaced {B : Type 0} (kind : Kind B) (t : Transition B) (matching : List ℕ)
    (places : List ℕ) (closed after : List B) (answer : List ℕ) : Type 0 where
  pub kept : length after ≡ length closed
  pub answered : (before : List B) → Workable kind places before →
      matches places t.outputs matching ≡ true → length closed ≡ draft_cells →
      Consistent kind (suc (length places))
      (in_draft kind (matched_cells kind t.outputs matching before)) (in_draft kind closed) →
      Predecessor kind t matching (draft_zone kind places before) after answer

-- ---- both halves for a net's transition
abbrev pub NarrowedFor : {B : Type 0} → Kind B → Net B → ℕ → List ℕ → List ℕ → List B → List B →
    Bool → Type 0
NarrowedFor kind net t matching places before after answer =
    Narrowed kind (transition_of net t) matching places before after answer

abbrev pub ReplacedFor : {B : Type 0} → Kind B → Net B → ℕ → List ℕ → List ℕ → List B → List B →
    List ℕ → Type 0
ReplacedFor kind net t matching places closed after answer =
    Replaced kind (transition_of net t) matching places closed after answer
