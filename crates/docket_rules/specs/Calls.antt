-- What each call answers, and what then stands in the docket, the book and the scratch page.
use Rattle.std.specs.Prelude.{◌≡◌, ℕ, ◌+◌, ◌-◌, ◌*◌, ◌^◌, ◌/◌, ◌%◌, ◌<◌, ◌≤◌, Bool, true, false}
use Rattle.std.specs.Prelude.{◌&&◌, List, [], ◌∷◌, ◌++◌, map, length, take, drop, replicate, Ok}
use Rattle.std.specs.Prelude.{Err, None, Some, Option, ◌==◌, nat_le, min, IsTrue, if◌then◌else◌}
use Rattle.std.specs.List.{range_with_len}
use Rattle.bounds.specs.Kinds.{Kind}
pub use Rattle.zone_cells.specs.Drafts.{PageFormed}
use Rattle.zone_cells.specs.Sizes.{draft_cells, page_cells, page_places, page_row}
use Rattle.docket_dues.specs.Answered.{Answered, places_of_all}
use Rattle.docket_dues.specs.DueLaws.{IsDue}
use Rattle.docket_dues.specs.Dues.{Leads, target_item}
use Rattle.docket_dues.specs.declared.item.Item.{Item}
use Rattle.docket_records.specs.ZoneRecords.{zone_of}
use Rattle.nets.specs.Nets.{Net}
use Rattle.docket_refusals.specs.declared.refusal.CallRefusal.{CallRefusal}
use Rattle.docket_refusals.specs.declared.refusal.CallRefusal.TheVariants.{WrongStage, WrongMemory}
use Rattle.docket_refusals.specs.declared.refusal.CallRefusal.TheVariants.{FullList, Entry, Covered}
use Rattle.docket_refusals.specs.declared.refusal.CallRefusal.TheVariants.{NotVoid}
use Rattle.docket_refusals.specs.declared.refusal.CallRefusal.TheVariants.{VoidItem as IsVoid}
use Rattle.docket_refusals.specs.declared.refusal.CallRefusal.TheVariants.{NoSuchZone, Objected}
use Rattle.docket_rules.specs.Tables.{Answer, Answers, Given, initial_tokens, open_table}
use Rattle.docket_rules.specs.Tables.{post_table, close_table, discharge_table, discharge_rules}
use Rattle.docket_rules.specs.Tables.{Begins, due_in, is_proving}
use Rattle.docket_rules.specs.Worlds.{Lent, State, World, listed_pages, page_of, whole}
use Rattle.docket_rules.specs.Worlds.{with_scratch}
use Rattle.docket_rules.specs.declared.stage.Stage.{Stage}
use Rattle.docket_rules.specs.declared.stage.Stage.TheVariants.{Blank, Listing, Proving, Sealed}
use Rattle.zone_walks.specs.Walks.{Matrix}
use Rattle.zones.specs.Zones.{Zone, NormalOf}

-- ---- the scratch page
-- after a call in the wrong stage, with memory of another length or with a full list it is
-- untouched, else all its cells are no limit
abbrev pub is_early : Answer → Bool
is_early (Ok u) = false
is_early (Err WrongStage) = true
is_early (Err WrongMemory) = true
is_early (Err FullList) = true
is_early (Err (Entry e)) = false
is_early (Err Covered) = false
is_early (Err NotVoid) = false
is_early (Err IsVoid) = false
is_early (Err NoSuchZone) = false
is_early (Err (Objected o)) = false

abbrev pub Left : {B : Type 0} → Kind B → Answer → (before after : List B) → Type 0
Left kind answer before after =
    after ≡ (if is_early answer then before else replicate draft_cells kind.no_limit)

-- ---- a page written
-- the cells of a zone with so many tokens, row by row: the zone's own bounds between its points;
-- else zero from a point to itself, and no limit
abbrev pub cell_of : {B : Type 0} → Kind B → (tokens : ℕ) → Matrix B → ℕ → ℕ → B
cell_of kind tokens x j i =
    if nat_le j tokens && nat_le i tokens then x j i
    else if j == i then kind.zero
    else kind.no_limit

abbrev pub cells_of : {B : Type 0} → Kind B → Zone B → List B
cells_of kind z =
    map (λ at. cell_of kind (length z.places) z.bound (at / page_row) (at % page_row))
    (range_with_len 0 page_cells)

-- the places of its tokens, 0 for absent ones
abbrev pub page_places_of : {B : Type 0} → Zone B → List ℕ
page_places_of z = z.places ++ replicate (page_places - length z.places) 0

-- the page with this number has these items, and every other page what it had
abbrev pub with_page : {X : Type 0} → (size p : ℕ) → (items book : List X) → List X
with_page size p items book = take (size * p) book ++ (items ++ drop (size * p + size) book)

-- page p holds the normal form of z
pub record PageWritten {B : Type 0} (kind : Kind B) (p : ℕ) (z : Zone B)
    (before after : World B) : Type 0 where
  pub form : Zone B
  pub normal : NormalOf kind z form
  pub formed : PageFormed kind form
  pub cells : after.cells ≡ with_page page_cells p (cells_of kind form) before.cells
  pub places : after.places ≡ with_page page_places p (page_places_of form) before.places

-- ---- open: the state then, and page 0
abbrev pub opened_state : {B : Type 0} → Given → (target : Zone B) → State
opened_state g target =
    record {
      stage = Listing;
      initial = initial_tokens g;
      counts = length target.places ∷ [];
      taken = 0;
    }

pub record Opened {B : Type 0} (kind : Kind B) (g : Given) (target : Zone B)
    (before after : World B) : Type 0 where
  pub state : after.state ≡ opened_state g target
  pub page : PageWritten kind 0 target before after

pub record Opens {B : Type 0} (kind : Kind B) (net : Net B) (g : Given) (target : List ℕ)
    (before after : Lent B) (answer : Answer) : Type 0 where
  pub answers : Answers (open_table kind net before.world.state (whole before) g target) answer
  pub scratch : Left kind answer before.scratch after.scratch
  pub refused : (r : CallRefusal) → answer ≡ Err r → after.world ≡ before.world
  pub taken : answer ≡ Ok tt → Opened kind g (zone_of kind target) before.world after.world

-- ---- post: the state then, and the next page
abbrev pub posted_state : {B : Type 0} → State → (zone : Zone B) → State
posted_state s zone =
    record s { stage = Listing; counts = s.counts ++ (length zone.places ∷ []) }

pub record Posted {B : Type 0} (kind : Kind B) (zone : Zone B)
    (before after : World B) : Type 0 where
  pub state : after.state ≡ posted_state before.state zone
  pub page : PageWritten kind (length before.state.counts) zone before after

pub record Posts {B : Type 0} (kind : Kind B) (net : Net B) (zone : List ℕ)
    (before after : Lent B) (answer : Answer) : Type 0 where
  pub answers : Answers (post_table kind net before.world.state (whole before) zone) answer
  pub scratch : Left kind answer before.scratch after.scratch
  pub refused : (r : CallRefusal) → answer ≡ Err r → after.world ≡ before.world
  pub taken : answer ≡ Ok tt → Posted kind (zone_of kind zone) before.world after.world

-- ---- close
pub record Closes (before after : State) (answer : Answer) : Type 0 where
  pub answers : Answers (close_table before) answer
  pub refused : (r : CallRefusal) → answer ≡ Err r → after ≡ before
  pub taken : answer ≡ Ok tt → after ≡ record before { stage = Proving target_item; taken = 0 }

-- ---- discharge
-- the item that follows among those that are due, or the seal
abbrev pub stage_of : Option Item → Stage
stage_of None = Sealed
stage_of (Some d) = Proving d

-- no docket has as many items due as this number
abbrev pub most_taken : ℕ
most_taken = 2 ^ 64 - 1

-- the pages are as open and post left them, the target's among them where items are due, and the
-- item that is due is one of those that there are for them
pub record Sound {B : Type 0} (kind : Kind B) (net : Net B) (w : World B) : Type 0 where
  pub opened : IsTrue (is_proving w.state.stage) → 1 ≤ length w.state.counts
  pub pages : (p : ℕ) → p < length w.state.counts → PageFormed kind (page_of kind w p)
  pub due : IsDue net (places_of_all (listed_pages kind w)) (due_in w.state.stage)

abbrev pub advanced_state : State → (next : Option Item) → State
advanced_state s next = record s { stage = stage_of next; taken = min (s.taken + 1) most_taken }

pub record Discharged {B : Type 0} (kind : Kind B) (net : Net B) (before : World B)
    (after : State) : Type 0 where
  pub next : Option Item
  pub leads : Leads net (places_of_all (listed_pages kind before)) (due_in before.state.stage) next
  pub state : after ≡ advanced_state before.state next
  -- the item is void, or a listed zone vouches for what it asks
  pub answered : Sound kind net before →
      Answered kind net (page_of kind before 0) (listed_pages kind before)
      (due_in before.state.stage)

-- What the voucher itself can be refused for is promised whatever the pages hold; the rest for
-- pages as open and post left them. Nothing is written to the book.
pub record Discharges {B : Type 0} (kind : Kind B) (net : Net B) (bytes : List ℕ)
    (before : Lent B) (after : State) (left : List B) (answer : Answer) : Type 0 where
  pub begins : Begins (discharge_rules before.world.state (whole before) bytes) answer
  pub answers : Sound kind net before.world →
      Answers
      (discharge_table kind net before.world.state (whole before) (page_of kind before.world) bytes)
      answer
  pub scratch : Left kind answer before.scratch left
  pub refused : (r : CallRefusal) → answer ≡ Err r → after ≡ before.world.state
  pub taken : answer ≡ Ok tt → Discharged kind net before.world after

-- ---- next-due
-- the first item that is due; none outside proving
abbrev pub next_due_of : Stage → Option Item
next_due_of Blank = None
next_due_of Listing = None
next_due_of (Proving d) = Some d
next_due_of Sealed = None

-- ---- a call with what it was given and what it answered
pub data Call (B : Type 0) : Type 0 where
  Open : (g : Given) (target : List ℕ) (scratch : List B) (answer : Answer) → Call B
  Post : (zone : List ℕ) (scratch : List B) (answer : Answer) → Call B
  Close : (answer : Answer) → Call B
  Discharge : (voucher : List ℕ) (scratch : List B) (answer : Answer) → Call B
  NextDue : (answer : Option Item) → Call B

-- a call that is lent no book to write to
pub record BookKept {B : Type 0} (before after : World B) : Type 0 where
  pub cells : after.cells ≡ before.cells
  pub places : after.places ≡ before.places

-- the scratch page may be another one at each call; left is what then stands in it
abbrev pub Step : {B : Type 0} → Kind B → Net B → World B → Call B → World B → Type 0
Step kind net before (Open g target scratch answer) after =
    (left : List _)
    × Opens kind net g target (with_scratch before scratch) (with_scratch after left) answer
Step kind net before (Post zone scratch answer) after =
    (left : List _)
    × Posts kind net zone (with_scratch before scratch) (with_scratch after left) answer
Step kind net before (Close answer) after =
    Closes before.state after.state answer × BookKept before after
Step kind net before (Discharge voucher scratch answer) after =
    (left : List _)
    × Discharges kind net voucher (with_scratch before scratch) after.state left answer
    × BookKept before after
Step kind net before (NextDue answer) after =
    (answer ≡ next_due_of before.state.stage) × (after ≡ before)

-- calls one after the other, on one docket, over one store and one book that nothing else writes to
-- between them
abbrev pub Played : {B : Type 0} → Kind B → Net B → World B → List (Call B) → World B → Type 0
Played kind net w [] u = u ≡ w
Played kind net w (c ∷ calls) u =
    (v : World _) × Step kind net w c v × Played kind net v calls u
