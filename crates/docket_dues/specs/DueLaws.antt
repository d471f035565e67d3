-- What any account of what is due must keep.
use Rattle.std.specs.Prelude.{◌≡◌, ℕ, zero, suc, ◌+◌, ◌*◌, ◌<◌, ◌≤◌, List, [], ◌∷◌, ◌++◌, length}
use Rattle.std.specs.Prelude.{IsTrue}
use Rattle.nets.specs.Nets.{Net, Every, arcs_of, numbered}
use Rattle.nets.specs.declared.side.Side.TheVariants.{Output}
use Rattle.zones.specs.Predecessors.{is_matching}
use Rattle.docket_dues.specs.Dues.{target_item, all_due, due_after, matching_numbers}
use Rattle.docket_dues.specs.declared.item.Item.{Item}

-- ---- which items there can be
pub record FiringIsDue {B : Type 0} (net : Net B) (listed : List (List ℕ))
    (zone transition matching : ℕ) : Type 0 where
  pub listed_zone : zone ≤ length listed
  pub of_net : transition ≤ length net.transitions
  pub small : matching < matching_numbers
  pub matches : IsTrue
      (is_matching (numbered listed zone []) (arcs_of net transition Output) matching)

abbrev pub CanBeDue : {B : Type 0} → Net B → (listed : List (List ℕ)) →
    (zone transition matching : ℕ) → Type 0
CanBeDue net listed zero t n = (t ≡ 0) × (n ≡ 0)
CanBeDue net listed (suc z) zero n = (suc z ≤ length listed) × (n ≡ 0)
CanBeDue net listed (suc z) (suc t) n = FiringIsDue net listed (suc z) (suc t) n

abbrev pub IsDue : {B : Type 0} → Net B → (listed : List (List ℕ)) → Item → Type 0
IsDue net listed d = CanBeDue net listed d.zone d.transition d.matching

-- the list has the item, and what is due after it is the rest of the list
pub record Stands {B : Type 0} (net : Net B) (listed : List (List ℕ)) (d : Item) : Type 0 where
  pub before : List Item
  pub is : all_due net listed ≡ before ++ (d ∷ due_after net listed d)

pub record DueLaws {B : Type 0} (net : Net B) (listed : List (List ℕ)) : Type 0 where
  -- the target comes first
  pub first : all_due net listed ≡ target_item ∷ due_after net listed target_item
  -- each item that there can be is due, and no other
  pub each : (d : Item) → IsDue net listed d → Stands net listed d
  pub only : Every (IsDue net listed) (all_due net listed)
  -- none twice: wherever an item stands, the same follows it
  pub rest : (before rest : List Item) (d : Item) → all_due net listed ≡ before ++ (d ∷ rest) →
      rest ≡ due_after net listed d
  pub few : length (all_due net listed) ≤
      1 + length listed * (1 + length net.transitions * matching_numbers)
