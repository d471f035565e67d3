-- Why a full set of vouchers shows that no run covers the target, and what each step means for
-- markings.
--     starts     the markings that a run may begin from, on each grid
--     covering   a run from one of them to a marking of the target
--     apart      none of them is a marking of the zone
use Rattle.std.specs.Prelude.{◌≡◌, ℕ, ◌≤◌, true, ◌⊎◌, List, [], ◌∷◌, length, IsTrue}
use Rattle.bounds.specs.Kinds.{Kind, largest_size}
use Rattle.nets.specs.Markings.{Marking, refined}
use Rattle.nets.specs.Nets.{Net, Transition, Every, transition_of}
use Rattle.nets.specs.Runs.{Delayed, Fired, Run}
use Rattle.zones.specs.Predecessors.{DelayPredecessor, FiringPredecessor, Void, matches}
use Rattle.zones.specs.Vouching.{Vouches}
use Rattle.zones.specs.Zones.{Zone, Satisfies, Inconsistent, NormalOf, SizedZone}

-- ---- what is claimed
-- one marking of whole ages, counted on each grid
abbrev pub starts_at : Marking → ℕ → Marking → Type 0
starts_at initial k m = m ≡ refined k initial

-- a run on some grid, from a marking that it may start from to a marking of the target
pub record Covering {B : Type 0} (kind : Kind B) (net : Net B) (starts : ℕ → Marking → Type 0)
    (target : Zone B) : Type 0 where
  pub grid : ℕ
  pub some : 1 ≤ grid
  pub start : Marking
  pub begins : starts grid start
  pub last : Marking
  pub run : Run kind grid net start last
  pub satisfied : Satisfies kind grid target last

-- there is none
abbrev pub Safe : {B : Type 0} → Kind B → Net B → (ℕ → Marking → Type 0) → Zone B → Type 0
Safe kind net starts target = Covering kind net starts target → ⊥

-- ---- what is shown for it
-- P of some element
abbrev pub Some : {X : Type 0} → (X → Type 0) → List X → Type 0
Some P [] = ⊥
Some P (x ∷ xs) = P x ⊎ Some P xs

-- a listed zone vouches for w
abbrev pub Vouched : {B : Type 0} → Kind B → List (Zone B) → Zone B → Type 0
Vouched kind listed w = Some (λ v. (pairing : List ℕ) × Vouches kind v w pairing) listed

pub record DelayVouched {B : Type 0} (kind : Kind B) (listed : List (Zone B))
    (z : Zone B) : Type 0 where
  pub before : Zone B
  pub is : DelayPredecessor kind z before
  pub vouched : Vouched kind listed before

pub record FiringVouched {B : Type 0} (kind : Kind B) (listed : List (Zone B)) (z : Zone B)
    (t : Transition B) (matching : List ℕ) : Type 0 where
  pub before : Zone B
  pub is : FiringPredecessor kind t matching z before
  pub vouched : Vouched kind listed before

-- every step back from z is void, or leads into the list again
pub record StepsVouched {B : Type 0} (kind : Kind B) (net : Net B) (listed : List (Zone B))
    (z : Zone B) : Type 0 where
  pub small : SizedZone kind largest_size z
  pub delay : DelayVouched kind listed z
  pub firings : (t : ℕ) (matching : List ℕ) → 1 ≤ t → t ≤ length net.transitions →
      matches z.places (transition_of net t).outputs matching ≡ true →
      Void kind (transition_of net t) matching z ⊎
      FiringVouched kind listed z (transition_of net t) matching

-- no marking that a run may start from is one of z
abbrev pub Apart : {B : Type 0} → Kind B → (ℕ → Marking → Type 0) → Zone B → Type 0
Apart kind starts z = (k : ℕ) (m : Marking) → 1 ≤ k → starts k m → Satisfies kind k z m → ⊥

pub record Certificate {B : Type 0} (kind : Kind B) (net : Net B) (starts : ℕ → Marking → Type 0)
    (target : Zone B) (listed : List (Zone B)) : Type 0 where
  pub covered : Vouched kind listed target
  pub steps : Every (StepsVouched kind net listed) listed
  pub apart : Every (Apart kind starts) listed

-- ---- what each step means for markings, on every grid
-- the marking came about by the firing with this matching
pub record CameBy {B : Type 0} (kind : Kind B) (k : ℕ) (t : Transition B) (z : Zone B)
    (from : Marking) : Type 0 where
  pub matching : List ℕ
  pub is : IsTrue (matches z.places t.outputs matching)
  pub possible : Void kind t matching z → ⊥
  pub before : (p : Zone B) → FiringPredecessor kind t matching z p → Satisfies kind k p from

-- a certificate shows its target safe, of a marking of whole ages
abbrev pub CertificatesSound : {B : Type 0} → Kind B → Type 0
CertificatesSound kind =
    (net : Net _) (initial : Marking) (target : Zone _) (listed : List (Zone _)) →
    Certificate kind net (starts_at initial) target listed →
    Safe kind net (starts_at initial) target

-- and so it does where the listed zones are known to be without that marking on grid 1 alone
abbrev pub CertificatesSoundByUnits : {B : Type 0} → Kind B → Type 0
CertificatesSoundByUnits kind =
    (net : Net _) (initial : Marking) (target : Zone _) (listed : List (Zone _)) →
    Vouched kind listed target → Every (StepsVouched kind net listed) listed →
    Every (λ z. Satisfies kind 1 z initial → ⊥) listed → Safe kind net (starts_at initial) target

pub record ZoneLaws {B : Type 0} (kind : Kind B) : Type 0 where
  pub to_form : (k : ℕ) (z y : Zone B) (m : Marking) → 1 ≤ k → NormalOf kind z y →
      Satisfies kind k z m → Satisfies kind k y m
  pub from_form : (k : ℕ) (z y : Zone B) (m : Marking) → 1 ≤ k → SizedZone kind largest_size z →
      NormalOf kind z y → Satisfies kind k y m → Satisfies kind k z m
  pub none : (k : ℕ) (z : Zone B) (m : Marking) → 1 ≤ k → Inconsistent kind z →
      Satisfies kind k z m → ⊥
  pub vouching : (k : ℕ) (v w : Zone B) (pairing : List ℕ) (m : Marking) → 1 ≤ k →
      Vouches kind v w pairing → Satisfies kind k w m → Satisfies kind k v m
  pub delay : (k d : ℕ) (z p : Zone B) (m n : Marking) → 1 ≤ k → SizedZone kind largest_size z →
      DelayPredecessor kind z p → Delayed d m n → Satisfies kind k z n → Satisfies kind k p m
  pub firing : (k : ℕ) (t : Transition B) (z : Zone B) (m n : Marking) → 1 ≤ k →
      Fired kind k t m n → Satisfies kind k z n → CameBy kind k t z m
  -- a marking and the same one counted on grid k satisfy the same zones
  pub grids : (k : ℕ) (z : Zone B) (m : Marking) → 1 ≤ k → Satisfies kind k z (refined k m) →
      Satisfies kind 1 z m
