-- Items answered, and a list of zones with every item answered.
--     listed    the zones that are numbered from 1; 0 is the target
--     void      no marking of the zone can have come about by the item's firing
use Rattle.std.specs.Prelude.{◌≡◌, ℕ, zero, suc, ◌<◌, ◌≤◌, ◌⊎◌, List, map, length}
use Rattle.bounds.specs.Kinds.{Kind, largest_size}
use Rattle.nets.specs.Markings.{Marking}
use Rattle.nets.specs.Nets.{Net, Every, arcs_of, numbered, transition_of}
use Rattle.nets.specs.declared.side.Side.TheVariants.{Output}
use Rattle.zones.specs.Predecessors.{DelayPredecessor, FiringPredecessor, Void, digits_of}
use Rattle.zones.specs.Safety.{Apart, Certificate, Safe, Vouched, starts_at}
use Rattle.zones.specs.Zones.{Zone, SizedZone, points}
use Rattle.docket_dues.specs.Dues.{all_due}
use Rattle.docket_dues.specs.declared.item.Item.{Item}

-- the same places, and the same bounds between the points
pub record SameZone {B : Type 0} (z w : Zone B) : Type 0 where
  pub places : w.places ≡ z.places
  pub bounds : (j i : ℕ) → j < points z → i < points z → w.bound j i ≡ z.bound j i

-- the digits that a matching's number says for the output arcs of a transition
abbrev pub digits : {B : Type 0} → Net B → (transition matching : ℕ) → List ℕ
digits net t n = digits_of (arcs_of net t Output) n

abbrev pub zone_named : {B : Type 0} → (target : Zone B) → List (Zone B) → ℕ → Zone B
zone_named target listed z = numbered listed z target

-- ---- one item: a zone, a transition and a matching by their numbers
-- w is the zone that the item asks to vouch for
abbrev pub ItemZone : {B : Type 0} → Kind B → Net B → (target : Zone B) → List (Zone B) →
    (zone transition matching : ℕ) → Zone B → Type 0
ItemZone kind net target listed zero t n w = SameZone target w
ItemZone kind net target listed (suc z) zero n w =
    DelayPredecessor kind (zone_named target listed (suc z)) w
ItemZone kind net target listed (suc z) (suc t) n w =
    FiringPredecessor kind (transition_of net (suc t)) (digits net (suc t) n)
    (zone_named target listed (suc z)) w

-- the item is void, as only a firing can be
abbrev pub VoidItem : {B : Type 0} → Kind B → Net B → (target : Zone B) → List (Zone B) →
    (zone transition matching : ℕ) → Type 0
VoidItem kind net target listed zero t n = ⊥
VoidItem kind net target listed (suc z) zero n = ⊥
VoidItem kind net target listed (suc z) (suc t) n =
    Void kind (transition_of net (suc t)) (digits net (suc t) n) (zone_named target listed (suc z))

-- a listed zone vouches for what the item asks
pub record VouchedFor {B : Type 0} (kind : Kind B) (net : Net B) (target : Zone B)
    (listed : List (Zone B)) (d : Item) : Type 0 where
  pub asked : Zone B
  pub is : ItemZone kind net target listed d.zone d.transition d.matching asked
  pub vouched : Vouched kind listed asked

abbrev pub Answered : {B : Type 0} → Kind B → Net B → (target : Zone B) → List (Zone B) → Item →
    Type 0
Answered kind net target listed d =
    VoidItem kind net target listed d.zone d.transition d.matching
    ⊎ VouchedFor kind net target listed d

-- ---- a list of zones: each is small and without a marking that a run may start from, and every
-- item that is due is answered
abbrev pub places_of_all : {B : Type 0} → List (Zone B) → List (List ℕ)
places_of_all listed = map (λ z. z.places) listed

pub record AllAnswered {B : Type 0} (kind : Kind B) (net : Net B) (starts : ℕ → Marking → Type 0)
    (target : Zone B) (listed : List (Zone B)) : Type 0 where
  pub few_tokens : Every (λ z. length z.places ≤ 8) listed
  pub small : Every (SizedZone kind largest_size) listed
  pub apart : Every (Apart kind starts) listed
  pub answered : Every (Answered kind net target listed) (all_due net (places_of_all listed))

-- ---- what it is for: answers to all that is due are a certificate, and so show the target safe
abbrev pub AnswersCertify : {B : Type 0} → Kind B → Net B → Type 0
AnswersCertify kind net =
    (initial : Marking) (target : Zone _) (listed : List (Zone _)) →
    AllAnswered kind net (starts_at initial) target listed →
    Certificate kind net (starts_at initial) target listed

abbrev pub AnswersShowSafe : {B : Type 0} → Kind B → Net B → Type 0
AnswersShowSafe kind net =
    (initial : Marking) (target : Zone _) (listed : List (Zone _)) →
    AllAnswered kind net (starts_at initial) target listed →
    Safe kind net (starts_at initial) target
