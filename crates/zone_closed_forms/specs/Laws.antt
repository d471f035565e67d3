-- What the closed forms are: the normal form of what is narrowed, and both predecessors.
use Rattle.std.specs.Prelude.{ℕ, ◌<◌, IsTrue, List, Some, None, Option}
use Rattle.bounds.specs.Kinds.{Kind}
use Rattle.nets.specs.Nets.{Arc, ArcLimits, Every, Transition, TransitionLimits}
use Rattle.zones.specs.Predecessors.{DelayPredecessor, FiringPredecessor, Void}
use Rattle.zones.specs.Predecessors.{matches, narrowed_by}
use Rattle.zones.specs.Zones.{Zone, Inconsistent, NormalOf, SizedZone, points}
use Rattle.zone_cells.specs.Drafts.{PageFormed, largest_listed, largest_predecessor}
use Rattle.zone_closed_forms.specs.ClosedForms.{ClockRows, closed, narrowed_from}
use Rattle.zone_closed_forms.specs.ClosedForms.{delayed_zone, fired_zone}

-- ---- narrowing
-- the zone with each matched token narrowed, before it is brought to normal form
abbrev pub narrowed_zone : {B : Type 0} → Kind B → List (Arc B) → List ℕ → Zone B → Zone B
narrowed_zone kind arcs matching z =
    record { places = z.places; bound = narrowed_by kind arcs matching z.bound }

pub record NarrowedForm {B : Type 0} (kind : Kind B) (arcs : List (Arc B)) (matching : List ℕ)
    (z : Zone B) (rows : ClockRows B) : Type 0 where
  pub consistent : Inconsistent kind (narrowed_zone kind arcs matching z) → ⊥
  pub normal : NormalOf kind (narrowed_zone kind arcs matching z)
      (record { places = z.places; bound = closed kind z.bound rows })

-- clock rows of the normal form, or none where the narrowed zone is inconsistent
abbrev pub NarrowedFormOr : {B : Type 0} →
    Kind B → List (Arc B) → List ℕ → Zone B → Option (ClockRows B) → Type 0
NarrowedFormOr kind arcs matching z None = Inconsistent kind (narrowed_zone kind arcs matching z)
NarrowedFormOr kind arcs matching z (Some rows) = NarrowedForm kind arcs matching z rows

-- ---- a delay
pub record DelayForm {B : Type 0} (kind : Kind B) (z p : Zone B) : Type 0 where
  pub is : DelayPredecessor kind z p
  pub small : SizedZone kind largest_listed p

-- ---- a firing
pub record FiringForm {B : Type 0} (kind : Kind B) (t : Transition B) (matching : List ℕ)
    (z p : Zone B) : Type 0 where
  pub is : FiringPredecessor kind t matching z p
  pub small : SizedZone kind largest_predecessor p

-- clock rows of the predecessor, or none where it is void
abbrev pub FiringFormOr : {B : Type 0} →
    Kind B → Transition B → List ℕ → Zone B → Option (ClockRows B) → Type 0
FiringFormOr kind t matching z None = Void kind t matching z
FiringFormOr kind t matching z (Some rows) = FiringForm kind t matching z (fired_zone kind t matching z rows)

-- ---- all of it, for zones as pages hold them and the arcs of nets
pub record ClosedFormLaws {B : Type 0} (kind : Kind B) : Type 0 where
  pub narrowing : (places : ℕ) (arcs : List (Arc B)) (matching : List ℕ) (z : Zone B) →
      PageFormed kind z → Every (ArcLimits kind places) arcs → Every (λ d. d < points z) matching →
      NarrowedFormOr kind arcs matching z (narrowed_from kind arcs matching z.bound)
  pub delay : (z : Zone B) → PageFormed kind z → DelayForm kind z (delayed_zone kind z)
  pub firing : (places : ℕ) (t : Transition B) (matching : List ℕ) (z : Zone B) →
      PageFormed kind z → TransitionLimits kind places t →
      IsTrue (matches z.places t.outputs matching) →
      FiringFormOr kind t matching z (narrowed_from kind t.outputs matching z.bound)
