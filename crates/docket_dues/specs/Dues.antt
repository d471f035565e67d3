-- What is due for a list of zones, in the order in which it is vouched for.
--     item      a zone, a transition and a matching, each by its number
--     target    (0, 0, 0): the target itself
--     delay     (z, 0, 0): the delay predecessor of listed zone z
--     firing    (z, t, n): the firing predecessor of listed zone z by transition t for matching n
-- Zones and transitions are numbered from 1. A listed zone is given by the places of its tokens:
-- nothing else of it tells what is due.
use Rattle.std.specs.Prelude.{◌≡◌, ℕ, zero, suc, ◌-◌, List, [], ◌∷◌, ◌++◌, map, length, drop, Some}
use Rattle.std.specs.Prelude.{None, Option}
use Rattle.std.specs.List.{filter, flat_map, range_with_len}
use Rattle.nets.specs.Nets.{Arc, Net, arcs_of, numbered}
use Rattle.nets.specs.declared.side.Side.TheVariants.{Output}
use Rattle.zones.specs.Predecessors.{is_matching}
use Rattle.docket_dues.specs.declared.item.Item.{Item}

-- ---- items
abbrev pub item : (zone transition matching : ℕ) → Item
item z t n = record { zone = z; transition = t; matching = n }

abbrev pub target_item : Item
target_item = item 0 0 0

abbrev pub delay_item : (zone : ℕ) → Item
delay_item z = item z 0 0

-- ---- what is due from some number on
-- the numbers from the first on that are below the limit
abbrev pub numbers : (first limit : ℕ) → List ℕ
numbers first limit = range_with_len first (limit - first)

-- matchings have numbers of 16 bits
abbrev pub matching_numbers : ℕ
matching_numbers = 65536

-- those of these places and arcs; not to be computed
unfoldable pub matchings_from : {B : Type 0} → (places : List ℕ) → List (Arc B) → ℕ → List ℕ
matchings_from places arcs n = filter (is_matching places arcs) (numbers n matching_numbers)

-- by one transition
abbrev pub firings_from : {B : Type 0} → Net B → (places : List ℕ) →
    (zone transition matching : ℕ) → List Item
firings_from net places z t n = map (item z t) (matchings_from places (arcs_of net t Output) n)

abbrev pub transitions_from : {B : Type 0} → Net B → (places : List ℕ) → (zone transition : ℕ) →
    List Item
transitions_from net places z t =
    flat_map (λ u. firings_from net places z u 0) (numbers t (suc (length net.transitions)))

-- of one zone
abbrev pub steps_due : {B : Type 0} → Net B → (listed : List (List ℕ)) → (zone : ℕ) → List Item
steps_due net listed z = delay_item z ∷ transitions_from net (numbered listed z []) z 1

abbrev pub zones_from : {B : Type 0} → Net B → (listed : List (List ℕ)) → (zone : ℕ) → List Item
zones_from net listed z = flat_map (steps_due net listed) (numbers z (suc (length listed)))

-- ---- all that is due
unfoldable pub all_due : {B : Type 0} → Net B → (listed : List (List ℕ)) → List Item
all_due net listed = target_item ∷ zones_from net listed 1

-- ---- what is due after an item
abbrev pub behind : {B : Type 0} → Net B → (listed : List (List ℕ)) →
    (zone transition matching : ℕ) → List Item
behind net listed zero t n = zones_from net listed 1
behind net listed (suc z) zero n =
    transitions_from net (numbered listed (suc z) []) (suc z) 1
    ++ zones_from net listed (suc (suc z))
behind net listed (suc z) (suc t) n =
    firings_from net (numbered listed (suc z) []) (suc z) (suc t) (suc n)
    ++ (transitions_from net (numbered listed (suc z) []) (suc z) (suc (suc t))
    ++ zones_from net listed (suc (suc z)))

unfoldable pub due_after : {B : Type 0} → Net B → (listed : List (List ℕ)) → Item → List Item
due_after net listed d = behind net listed d.zone d.transition d.matching

-- this item comes next, or none does
abbrev pub Leads : {B : Type 0} → Net B → (listed : List (List ℕ)) → Item → Option Item → Type 0
Leads net listed d None = due_after net listed d ≡ []
Leads net listed d (Some next) = due_after net listed d ≡ next ∷ due_after net listed next

-- ---- with so many items answered from the first on, this one is to be answered next, or none is
-- left
abbrev pub Awaits : {B : Type 0} → Net B → (listed : List (List ℕ)) → ℕ → Option Item → Type 0
Awaits net listed n None = drop n (all_due net listed) ≡ []
Awaits net listed n (Some next) = drop n (all_due net listed) ≡ next ∷ due_after net listed next
