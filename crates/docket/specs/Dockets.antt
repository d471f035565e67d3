-- The book that a docket's calls are lent, and what the parts of open and post answer, which come
-- after the tests of the stage and of lent memory.
use Rattle.std.specs.Prelude.{◌≡◌, ℕ, ◌+◌, List, [], ◌∷◌, ◌++◌, take, drop, Ok, Err}
use Rattle.bounds.specs.Kinds.{Kind}
use Rattle.nets.specs.Nets.{Net}
use Rattle.docket_records.specs.ZoneRecords.{zone_of}
use Rattle.docket_refusals.specs.declared.refusal.CallRefusal.{CallRefusal}
use Rattle.docket_rules.specs.Calls.{Opened, Posted}
use Rattle.docket_rules.specs.Tables.{
  Answer,
  Answers,
  Given,
  Rule,
  initial_rules,
  open_table,
  record_rules,
  rule,
}
use Rattle.docket_rules.specs.Worlds.{Lent, State, World, whole, with_book}
use Rattle.zone_markings.specs.Initial.{marking_of}
use Rattle.zone_pages.specs.declared.book.Book.{Book}
use Rattle.zones.specs.Zones.{Satisfies}

-- a docket's state, with the book
abbrev pub world_over : {B : Type 0} → State → Book B → World B
world_over s book = with_book s book.cells.now book.places.now

-- so many items of a list, from a start on, are these
abbrev pub with_part : {X : Type 0} → (start size : ℕ) → (items old : List X) → List X
with_part start size items old = take start old ++ (items ++ drop (start + size) old)

-- ---- open and post
-- the answer to an open, with the lent memory before it
abbrev pub OpenAnswers : {B : Type 0} → Kind B → Net B → Given → (target : List ℕ) → Lent B →
    Answer → Type 0
OpenAnswers kind net g target before answer =
    Answers (open_table kind net before.world.state (whole before) g target) answer

-- what then stands where it is taken
abbrev pub OpenTakes : {B : Type 0} → Kind B → Given → (target : List ℕ) → World B → World B →
    Answer → Type 0
OpenTakes kind g target before after answer =
    answer ≡ Ok tt → Opened kind g (zone_of kind target) before after

-- the rules of a table in their order, what then stands, and that a refusal changes nothing
pub record Tried {X : Type 0} (rows : List Rule) (Taken : Type 0) (before after : X)
    (answer : Answer) : Type 0 where
  pub answers : Answers rows answer
  pub refused : (r : CallRefusal) → answer ≡ Err r → after ≡ before
  pub taken : answer ≡ Ok tt → Taken

abbrev pub Begun : {B : Type 0} → Kind B → (net_places : ℕ) → Given → (target : List ℕ) →
    World B → World B → Answer → Type 0
Begun kind net_places g target before after answer =
    Tried (initial_rules net_places g ++ record_rules kind net_places target)
    (Opened kind g (zone_of kind target) before after) before after answer

-- the rules of a listed zone, the last where the initial marking satisfies it
abbrev pub zone_rules : {B : Type 0} → Kind B → (net_places : ℕ) → (zone : List ℕ) → State →
    List Rule
zone_rules kind net_places zone s =
    record_rules kind net_places zone
    ++ rule 26 (Satisfies kind 1 (zone_of kind zone) (marking_of s.initial)) ∷ []

abbrev pub Listed : {B : Type 0} → Kind B → (net_places : ℕ) → (zone : List ℕ) → World B →
    World B → Answer → Type 0
Listed kind net_places zone before after answer =
    Tried (zone_rules kind net_places zone before.state)
    (Posted kind (zone_of kind zone) before after) before after answer
