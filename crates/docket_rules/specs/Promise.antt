-- What is promised of every list of calls from a blank docket, over one lawful store and one book,
-- whatever the arguments.
--     truth     a seal is true, for runs of every length on every grid
--     state     the docket keeps what the calls that were taken say, and nothing else
--     pages     the pages hold the normal forms of the zones that were taken
--     exact     each call answers by its table, told of what the calls that were taken gave
--     reach     a voucher for each item that is still due, in due order, is taken, and then the
--               docket is sealed, whatever refused calls come between
--     closes    where a close comes after an open that was taken, the list is closed, and the
--               docket is sealed exactly when nothing is still due
-- A step is what the contracts of the five calls say: that a call answers at all, what it leaves in
-- the scratch page, and that a refusal changes nothing stand there, and not here.
use Rattle.std.specs.Prelude.{◌≡◌, ℕ, Bool, true, false, ◌⊎◌, ◌↔◌, List, [], ◌∷◌, length, Ok}
use Rattle.std.specs.Prelude.{Err, Some, None, Option, IsTrue, IsFalse}
use Rattle.bounds.specs.Kinds.{Kind}
use Rattle.docket_dues.specs.declared.item.Item.{Item}
use Rattle.docket_records.specs.Records.{voucher_size}
use Rattle.docket_records.specs.Vouchers.{voucher_of}
use Rattle.docket_records.specs.declared.voucher.Voucher.{Voucher}
use Rattle.zone_markings.specs.Initial.{marking_of}
use Rattle.nets.specs.Nets.{Net, Every}
use Rattle.docket_refusals.specs.declared.refusal.CallRefusal.{CallRefusal}
use Rattle.docket_rules.specs.Calls.{Call, Open, Post, Close, Discharge, NextDue, Played, Step}
use Rattle.docket_rules.specs.Logs.{Forms, Log, Opening, no_log, state_said, still_due, with_calls}
use Rattle.docket_rules.specs.Tables.{Answer, Answers, Asks, IsVoidItem, close_table}
use Rattle.docket_rules.specs.Tables.{discharge_table, open_table, pairing_of, post_table}
use Rattle.docket_rules.specs.Tables.{stray_set}
use Rattle.docket_rules.specs.Worlds.{State, World, blank, in_list, page_of, sized, with_book}
use Rattle.docket_rules.specs.declared.stage.Stage.TheVariants.{Sealed}
use Rattle.zone_cells.specs.Sizes.{draft_cells}
use Rattle.zones.specs.Safety.{Safe, Some as SomeOf, starts_at}
use Rattle.zones.specs.Vouching.{Vouches}
use Rattle.zones.specs.Zones.{Zone}

-- ---- truth
-- an open was taken, and no run on any grid from its initial marking covers the target that its
-- record says
abbrev pub SealHolds : {B : Type 0} → Kind B → Net B → Option (Opening B) → Type 0
SealHolds kind net None = ⊥
SealHolds kind net (Some opening) =
    Safe kind net (starts_at (marking_of opening.initial)) opening.target

-- ---- exactness
abbrev pub first_due : List Item → Option Item
first_due [] = None
first_due (d ∷ later) = Some d

abbrev pub due_said : {B : Type 0} → Net B → Log B → Bool → Option Item
due_said net log false = None
due_said net log true = first_due (still_due net log)

-- the answer is that of the call's table; of the book nothing is asked but its lengths, and what is
-- due is asked of any normal forms
abbrev pub ByRules : {B : Type 0} → Kind B → Net B → Log B → (book : World B) → Call B → Type 0
ByRules kind net log book (Open g target scratch answer) =
    Answers (open_table kind net (state_said net log) (sized book scratch) g target) answer
ByRules kind net log book (Post zone scratch answer) =
    Answers (post_table kind net (state_said net log) (sized book scratch) zone) answer
ByRules kind net log book (Close answer) = Answers (close_table (state_said net log)) answer
ByRules kind net log book (Discharge voucher scratch answer) =
    (zones : ℕ → Zone _) →
    Forms kind log zones →
    Answers (discharge_table kind net (state_said net log) (sized book scratch) zones voucher)
    answer
ByRules kind net log book (NextDue answer) = answer ≡ due_said net log log.closed

-- ---- reach
-- the voucher answers the item: where the item is void it says so, and where it is not, the page of
-- the zone in its list vouches, with the partners that it gives, for what is asked
abbrev pub VoucherFits : {B : Type 0} → Kind B → Net B → State → (zones : ℕ → Zone B) → Item →
    Voucher → Bool → Type 0
VoucherFits kind net s zones d v true = IsVoidItem kind net s zones d
VoucherFits kind net s zones d v false =
    (IsVoidItem kind net s zones d → ⊥)
    × IsTrue (in_list s v.zone)
    × ((asked : Zone _)
    × Asks kind net s zones d asked
    × Vouches kind (zones v.zone) asked (pairing_of s v))

pub record VoucherAllowed {B : Type 0} (kind : Kind B) (net : Net B) (s : State)
    (zones : ℕ → Zone B) (d : Item) (bytes : List ℕ) : Type 0 where
  pub size : length bytes ≡ voucher_size
  pub clean : IsFalse (stray_set s bytes)
  pub vouches : VoucherFits kind net s zones d (voucher_of bytes) (voucher_of bytes).void

-- refused, or next-due
abbrev pub NotTaken : {B : Type 0} → Call B → Type 0
NotTaken (Open g target scratch answer) = (r : CallRefusal) × (answer ≡ Err r)
NotTaken (Post zone scratch answer) = (r : CallRefusal) × (answer ≡ Err r)
NotTaken (Close answer) = (r : CallRefusal) × (answer ≡ Err r)
NotTaken (Discharge voucher scratch answer) = (r : CallRefusal) × (answer ≡ Err r)
NotTaken (NextDue answer) = Unit {0}

-- an allowed voucher for each of these items, one after the other, with these answers, and calls
-- between that are not taken; vouchers are allowed in the state before the first, since what they
-- read of it, the token counts, stays
pub data Vouching {B : Type 0} (kind : Kind B) (net : Net B) (s : State) (zones : ℕ → Zone B) :
    List Item → List (Call B) → List Answer → Type 0 where
  done : Vouching kind net s zones [] [] []
  vouch : {d : Item} {later : List Item} {calls : List (Call B)} {answers : List Answer}
      (voucher : List ℕ) (scratch : List B) (answer : Answer) →
      VoucherAllowed kind net s zones d voucher →
      length scratch ≡ draft_cells →
      Vouching kind net s zones later calls answers →
      Vouching kind net s zones (d ∷ later) (Discharge voucher scratch answer ∷ calls)
      (answer ∷ answers)
  between : {items : List Item} {calls : List (Call B)} {answers : List Answer} (c : Call B) →
      NotTaken c →
      Vouching kind net s zones items calls answers →
      Vouching kind net s zones items (c ∷ calls) answers

pub record AllVouched {B : Type 0} (answers : List Answer) (after : World B) : Type 0 where
  pub taken : Every (λ answer. answer ≡ Ok tt) answers
  pub sealed : after.state.stage ≡ Sealed

-- ---- what a docket keeps after calls with this log
pub record Kept {B : Type 0} (kind : Kind B) (net : Net B) (log : Log B)
    (w : World B) : Type 0 where
  pub truth : w.state.stage ≡ Sealed → SealHolds kind net log.opening
  pub state : w.state ≡ state_said net log
  pub pages : Forms kind log (page_of kind w)
  pub exact : (c : Call B) (after : World B) → Step kind net w c after → ByRules kind net log w c
  pub reach : (zones : ℕ → Zone B) (calls : List (Call B)) (answers : List Answer)
      (after : World B) →
      IsTrue log.closed →
      Forms kind log zones →
      Vouching kind net (state_said net log) zones (still_due net log) calls answers →
      Played kind net w calls after →
      AllVouched answers after

-- ---- a close that comes later
abbrev pub IsTakenOpen : {B : Type 0} → Call B → Type 0
IsTakenOpen (Open g target scratch (Ok u)) = Unit {0}
IsTakenOpen (Open g target scratch (Err r)) = ⊥
IsTakenOpen (Post zone scratch answer) = ⊥
IsTakenOpen (Close answer) = ⊥
IsTakenOpen (Discharge voucher scratch answer) = ⊥
IsTakenOpen (NextDue answer) = ⊥

-- whatever it answers
abbrev pub IsClose : {B : Type 0} → Call B → Type 0
IsClose (Open g target scratch answer) = ⊥
IsClose (Post zone scratch answer) = ⊥
IsClose (Close answer) = Unit {0}
IsClose (Discharge voucher scratch answer) = ⊥
IsClose (NextDue answer) = ⊥

-- an open is taken, and a close call comes somewhere after it
abbrev pub CloseFollows : {B : Type 0} → List (Call B) → Type 0
CloseFollows [] = ⊥
CloseFollows (c ∷ calls) = (IsTakenOpen c × SomeOf IsClose calls) ⊎ CloseFollows calls

pub record Closed {B : Type 0} (net : Net B) (log : Log B) (w : World B) : Type 0 where
  pub closed : IsTrue log.closed
  pub sealed : (w.state.stage ≡ Sealed) ↔ (still_due net log ≡ [])

-- ---- the whole promise
pub record Promised {B : Type 0} (kind : Kind B) (net : Net B) (calls : List (Call B))
    (w : World B) : Type 0 where
  pub kept : Kept kind net (with_calls kind no_log calls) w
  pub closes : CloseFollows calls → Closed net (with_calls kind no_log calls) w

abbrev pub Promise : {B : Type 0} → Kind B → Net B → Type 0
Promise {B} kind net =
    (cells : List B) (places : List ℕ) (calls : List (Call B)) (w : World B) →
    Played kind net (with_book blank cells places) calls w →
    Promised kind net calls w
