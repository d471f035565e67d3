-- What the item that is due at the end of a file asks for, written for people: so whoever wrote
-- the voucher that was refused, or writes the next one, sees what it has to answer.
--     zones    the zones by their numbers, the target's 0, as their pages hold them
use Rattle.std.specs.Prelude.{◌≡◌, ℕ, ◌+◌, ◌⊎◌, List, [], ◌∷◌, ◌++◌, codes, length, Some, None}
use Rattle.std.specs.Prelude.{Option}
use Rattle.bounds.specs.Kinds.{Kind}
use Rattle.docket_dues.specs.declared.item.Item.{Item}
use Rattle.docket_rules.specs.Calls.{next_due_of}
use Rattle.docket_rules.specs.Tables.{Asks, IsVoidItem}
use Rattle.docket_rules.specs.Worlds.{State, World, page_of}
use Rattle.file_words.specs.Items.{item_text}
use Rattle.file_words.specs.Tables.{table_text}
use Rattle.file_words.specs.Zones.{places_text}
use Rattle.net_words.specs.Summaries.{counted_text}
use Rattle.nets.specs.Nets.{Net}
use Rattle.zones.specs.Zones.{Zone}

-- the item, and the places of the tokens of its zone
abbrev pub asked_head : Item → List ℕ → List ℕ
asked_head d places =
    item_text d
    ++ (codes " asks for: "
    ++ (counted_text (length places) (codes "token") ++ (10 ∷ places_text places)))

-- the zone that an item asks for: its tokens with their places, and its bounds as a table
abbrev pub asked_text : {B : Type 0} → (B → List ℕ) → Item → Zone B → List ℕ
asked_text words d z =
    asked_head d z.places ++ table_text words z.bound (length z.places + 1)

abbrev pub void_line : Item → List ℕ
void_line d = item_text d ++ (codes " is void" ++ (10 ∷ []))

-- the item is void and is called so, or it asks for a zone, and that one is shown
abbrev pub ItemTold : {B : Type 0} → Kind B → (B → List ℕ) → Net B → State →
    (zones : ℕ → Zone B) → Item → List ℕ → Type 0
ItemTold kind words net s zones d text =
    (IsVoidItem kind net s zones d × (text ≡ void_line d))
    ⊎ ((asked : Zone _) × Asks kind net s zones d asked × (text ≡ asked_text words d asked))

-- where nothing is due, nothing is said
abbrev pub DueTold : {B : Type 0} → Kind B → (B → List ℕ) → Net B → World B → Option Item →
    List ℕ → Type 0
DueTold kind words net w None text = text ≡ []
DueTold kind words net w (Some d) text =
    ItemTold kind words net w.state (page_of kind w) d text

-- a text grows by what is said of the item that is due
pub record DueAdded {B : Type 0} (kind : Kind B) (words : B → List ℕ) (net : Net B) (w : World B)
    (before after : List ℕ) : Type 0 where
  pub said : List ℕ
  pub told : DueTold kind words net w (next_due_of w.state.stage) said
  pub text : after ≡ before ++ said
