-- When each call is refused, and by which number.
--     rule      the number of a refusal and the condition that brings it about
--     table     the rules of a call in the order in which they are tested: the first that holds is
--               the answer, and none is "taken"
--     sized     the lent book and scratch page have the stated lengths
--     zones     the zones by their numbers, the target's 0, as their pages hold them
use Rattle.std.specs.Prelude.{◌≡◌, ℕ, Bool, true, false, ◌&&◌, ◌||◌, ◌⊎◌, List, [], ◌∷◌, ◌++◌}
use Rattle.std.specs.Prelude.{length, map, take, Ok, Err, Result, Some, None, Option, ◌==◌, nat_le}
use Rattle.std.specs.Prelude.{nat_lt, slice_index, IsTrue, IsFalse, if◌then◌else◌}
use Rattle.std.specs.List.{list_any, zip}
use Rattle.zone_pages.specs.Objections.{objection_of}
use Rattle.zone_pages.specs.declared.objections.Objection.{Objection}
use Rattle.zone_pages.specs.declared.objections.Objection.TheVariants.{Partner, Place, Bound}
use Rattle.bounds.specs.Kinds.{Kind}
use Rattle.docket_dues.specs.Answered.{ItemZone, VoidItem}
use Rattle.docket_dues.specs.Dues.{target_item}
use Rattle.docket_dues.specs.declared.item.Item.{Item}
use Rattle.docket_records.specs.Records.{voucher_size}
use Rattle.docket_records.specs.Vouchers.{unused_set, voucher_of, voucher_spare}
use Rattle.docket_records.specs.ZoneRecords.{mark_under_plain, no_such_place, not_zero, too_many}
use Rattle.docket_records.specs.ZoneRecords.{wrong_length, zone_of}
use Rattle.docket_records.specs.declared.token.InitialToken.{InitialToken}
use Rattle.docket_records.specs.declared.voucher.Voucher.{Voucher}
use Rattle.zone_markings.specs.Initial.{marking_of}
use Rattle.nets.specs.Nets.{Net, largest_end}
use Rattle.zone_cells.specs.Drafts.{most_tokens}
use Rattle.docket_refusals.specs.CallRefusals.{call_refusal_number}
use Rattle.docket_refusals.specs.declared.refusal.CallRefusal.{CallRefusal}
use Rattle.docket_rules.specs.Worlds.{State, in_list, listed_count, listed_zones}
use Rattle.docket_rules.specs.declared.stage.Stage.{Stage}
use Rattle.docket_rules.specs.declared.stage.Stage.TheVariants.{Blank, Listing, Proving, Sealed}
use Rattle.zones.specs.Zones.{Zone, Inconsistent, Satisfies}

-- ---- tables
pub record Rule : Type 1 where
  pub number : ℕ
  pub when : Type 0

abbrev pub rule : ℕ → Type 0 → Rule
rule number when = record { number = number; when = when }

abbrev pub Answer : Type 0
Answer = Result (Unit {0}) CallRefusal

-- the number that an answer is refused by
abbrev pub number_of : Answer → Option ℕ
number_of (Ok u) = None
number_of (Err r) = Some (call_refusal_number r)

abbrev pub Answers : List Rule → Answer → Type 0
Answers [] answer = answer ≡ Ok tt
Answers (r ∷ later) answer =
    (r.when × (number_of answer ≡ Some r.number)) ⊎ ((r.when → ⊥) × Answers later answer)

-- one of these rules is the answer, or none of them holds
abbrev pub Begins : List Rule → Answer → Type 0
Begins [] answer = Unit {0}
Begins (r ∷ later) answer =
    (r.when × (number_of answer ≡ Some r.number)) ⊎ ((r.when → ⊥) × Begins later answer)

-- ---- stages
abbrev pub is_blank : Stage → Bool
is_blank Blank = true
is_blank Listing = false
is_blank (Proving d) = false
is_blank Sealed = false

abbrev pub is_listing : Stage → Bool
is_listing Blank = false
is_listing Listing = true
is_listing (Proving d) = false
is_listing Sealed = false

abbrev pub is_proving : Stage → Bool
is_proving Blank = false
is_proving Listing = false
is_proving (Proving d) = true
is_proving Sealed = false

abbrev pub is_sealed : Stage → Bool
is_sealed Blank = false
is_sealed Listing = false
is_sealed (Proving d) = false
is_sealed Sealed = true

-- the first item that is due; only asked for in proving
abbrev pub due_in : Stage → Item
due_in Blank = target_item
due_in Listing = target_item
due_in (Proving d) = d
due_in Sealed = target_item

-- ---- the record of a zone
abbrev pub record_rules : {B : Type 0} → Kind B → (net_places : ℕ) → (bytes : List ℕ) → List Rule
record_rules kind net_places bytes =
    rule 20 (IsTrue (wrong_length bytes))
    ∷ rule 21 (IsTrue (not_zero bytes))
    ∷ rule 22 (IsTrue (too_many bytes))
    ∷ rule 23 (IsTrue (no_such_place net_places bytes))
    ∷ rule 24 (IsTrue (mark_under_plain kind.marks bytes))
    ∷ rule 25 (Inconsistent kind (zone_of kind bytes))
    ∷ []

-- ---- open: a place and an age for each initial token, and the target's record
pub record Given : Type 0 where
  pub places : List ℕ
  pub ages : List ℕ

abbrev pub given : (places ages : List ℕ) → Given
given places ages = record { places = places; ages = ages }

-- an age for each place
abbrev pub equal_lists : Given → Bool
equal_lists g = length g.places == length g.ages

abbrev pub initial_tokens : Given → List InitialToken
initial_tokens g = map (λ both. record { place = both.0; age = both.1 }) (zip g.places g.ages)

-- an age has as many bits as an end of a range
abbrev pub too_old : ℕ → Bool
too_old age = nat_lt largest_end age

abbrev pub initial_rules : (net_places : ℕ) → Given → List Rule
initial_rules net_places g =
    rule 22 (IsTrue (nat_lt most_tokens (length g.places) || list_any too_old g.ages))
    ∷ rule 23 (IsTrue (list_any (nat_le net_places) g.places))
    ∷ []

abbrev pub open_table : {B : Type 0} → Kind B → Net B → State → (sized : Bool) → Given →
    (target : List ℕ) → List Rule
open_table kind net s sized g target =
    rule 40 (IsFalse (is_blank s.stage))
    ∷ rule 41 (IsFalse (sized && equal_lists g))
    ∷ initial_rules net.places g ++ record_rules kind net.places target

-- ---- post: a listed zone's record
abbrev pub most_listed : ℕ
most_listed = 63

abbrev pub post_table : {B : Type 0} → Kind B → Net B → State → (sized : Bool) →
    (zone : List ℕ) → List Rule
post_table kind net s sized zone =
    rule 40 (IsFalse (is_listing s.stage))
    ∷ rule 41 (IsFalse sized)
    ∷ rule 42 (listed_count s ≡ most_listed)
    ∷ record_rules kind net.places zone
    ++ rule 26 (Satisfies kind 1 (zone_of kind zone) (marking_of s.initial)) ∷ []

-- ---- close
abbrev pub close_table : State → List Rule
close_table s = rule 40 (IsFalse (is_listing s.stage)) ∷ []

-- ---- discharge: a voucher for the first item that is due
-- how many partners a voucher uses: one for each token of its listed zone; one outside the list
-- uses all eight
abbrev pub partners_used : State → Voucher → ℕ
partners_used s v = if in_list s v.zone then slice_index s.counts v.zone else most_tokens

abbrev pub pairing_of : State → Voucher → List ℕ
pairing_of s v = take (slice_index s.counts v.zone) v.partners

-- a spare bit or an unused partner is set
abbrev pub stray_set : State → (bytes : List ℕ) → Bool
stray_set s bytes =
    voucher_spare bytes || unused_set (voucher_of bytes) (partners_used s (voucher_of bytes))

abbrev pub voucher_rules : State → (bytes : List ℕ) → List Rule
voucher_rules s bytes =
    rule 20 (IsFalse (length bytes == voucher_size))
    ∷ rule 21 (IsTrue (stray_set s bytes))
    ∷ []

abbrev pub IsVoidItem : {B : Type 0} → Kind B → Net B → State → (zones : ℕ → Zone B) → Item →
    Type 0
IsVoidItem kind net s zones d =
    VoidItem kind net (zones 0) (listed_zones s zones) d.zone d.transition d.matching

abbrev pub Asks : {B : Type 0} → Kind B → Net B → State → (zones : ℕ → Zone B) → Item → Zone B →
    Type 0
Asks kind net s zones d asked =
    ItemZone kind net (zones 0) (listed_zones s zones) d.zone d.transition d.matching asked

-- this objection stands against the zone that the voucher names
pub record Against {B : Type 0} (kind : Kind B) (net : Net B) (s : State) (zones : ℕ → Zone B)
    (d : Item) (v : Voucher) (objection : Objection) : Type 0 where
  pub asked : Zone B
  pub asks : Asks kind net s zones d asked
  pub stands : objection_of kind (zones v.zone) asked (pairing_of s v) ≡ Err objection

abbrev pub item_rules : {B : Type 0} → Kind B → Net B → State → (zones : ℕ → Zone B) → Item →
    Voucher → List Rule
item_rules kind net s zones d v =
    rule 27 (IsTrue v.void × (IsVoidItem kind net s zones d → ⊥))
    ∷ rule 28 (IsFalse v.void × IsVoidItem kind net s zones d)
    ∷ rule 29 (IsFalse v.void × IsFalse (in_list s v.zone))
    ∷ rule 30 (IsFalse v.void × Against kind net s zones d v Partner)
    ∷ rule 31 (IsFalse v.void × Against kind net s zones d v Place)
    ∷ rule 32 (IsFalse v.void × Against kind net s zones d v Bound)
    ∷ []

abbrev pub discharge_rules : State → (sized : Bool) → (bytes : List ℕ) → List Rule
discharge_rules s sized bytes =
    rule 40 (IsFalse (is_proving s.stage))
    ∷ (rule 41 (IsFalse sized)
    ∷ voucher_rules s bytes)

abbrev pub discharge_table : {B : Type 0} → Kind B → Net B → State → (sized : Bool) →
    (zones : ℕ → Zone B) → (bytes : List ℕ) → List Rule
discharge_table kind net s sized zones bytes =
    discharge_rules s sized bytes
    ++ item_rules kind net s zones (due_in s.stage) (voucher_of bytes)
