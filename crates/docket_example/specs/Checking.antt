-- What the check of a certificate answers: what the rules of a docket make of its entries, with one
-- call for each.
--     entry     the opening, a listed zone, the end of the list, or a voucher
--     log       what the calls that were taken have given
use Rattle.std.specs.Prelude.{◌≡◌, ℕ, ◌<◌, true, List, [], ◌∷◌, map, length, take, replicate, Ok}
use Rattle.std.specs.Prelude.{Err, Some, Result, slice_index_or}
use Rattle.net_handover.specs.HandoverNet.{handover_net}
use Rattle.net_handover.specs.declared.Handover.{Handover}
use Rattle.nets.specs.Markings.{Marking}
use Rattle.bounds.specs.PlainKind.{plain_kind}
use Rattle.bounds.specs.declared.plain.PlainBound.{PlainBound}
use Rattle.docket_dues.specs.declared.item.Item.{Item}
use Rattle.docket_records.specs.ZoneRecords.{zone_of}
use Rattle.docket_example.specs.declared.certificate.Certificate.{Certificate}
use Rattle.docket_example.specs.declared.checking.Entry.{Entry}
use Rattle.docket_example.specs.declared.checking.Entry.TheVariants.{Opening as InOpening}
use Rattle.docket_example.specs.declared.checking.Entry.TheVariants.{Zone as InZone, ListEnd}
use Rattle.docket_example.specs.declared.checking.Entry.TheVariants.{Voucher}
use Rattle.docket_example.specs.declared.checking.Refused.{Refused}
use Rattle.docket_example.specs.declared.checking.Verdict.{Verdict}
use Rattle.docket_example.specs.declared.checking.Verdict.TheVariants.{Sealed, StillDue}
use Rattle.zone_markings.specs.Initial.{marking_of}
use Rattle.nets.specs.Nets.{Net}
use Rattle.docket_rules.specs.Calls.{Call, Open, Post, Close, Discharge}
use Rattle.docket_rules.specs.Logs.{Log, Opening, no_log, still_due}
use Rattle.docket_rules.specs.Promise.{ByRules}
use Rattle.docket_rules.specs.Reached.{ReachedByCalls}
use Rattle.docket_rules.specs.Tables.{Answer, Given, given, initial_tokens}
use Rattle.docket_rules.specs.Worlds.{World, book_cells, book_places}
use Rattle.zone_cells.specs.Sizes.{draft_cells}
use Rattle.zones.specs.Zones.{Zone}

-- ---- the line and the certificate
abbrev pub line_net : Handover → Net PlainBound
line_net line = handover_net line.lower line.upper

abbrev pub given_by : Certificate → Given
given_by c = given c.places.now c.ages.now

abbrev pub target_given : Certificate → Zone PlainBound
target_given c = zone_of plain_kind c.target.now

abbrev pub opening_of : Certificate → Opening PlainBound
opening_of c = record { initial = initial_tokens (given_by c); target = target_given c }

-- where the runs start that are to miss the target
abbrev pub initial_marking : Certificate → Marking
initial_marking c = marking_of (initial_tokens (given_by c))

-- ---- what the entries before one have given
-- the opening and so many zones
abbrev pub listing : Certificate → ℕ → Log PlainBound
listing c n =
    record no_log {
      opening = Some (opening_of c);
      listed = map (zone_of plain_kind) (take n c.zones.now);
    }

-- the opening, all zones, the end of the list and so many vouchers
abbrev pub proving : Certificate → ℕ → Log PlainBound
proving c n =
    record {
      opening = Some (opening_of c);
      listed = map (zone_of plain_kind) c.zones.now;
      closed = true;
      taken = n;
    }

abbrev pub log_before : Certificate → Entry → Log PlainBound
log_before c InOpening = no_log
log_before c (InZone n) = listing c n
log_before c ListEnd = listing c (length c.zones.now)
log_before c (Voucher n) = proving c n

-- the entries that there are; the end of the list is never refused
abbrev pub MayBeRefused : Certificate → Entry → Type 0
MayBeRefused c InOpening = Unit {0}
MayBeRefused c (InZone n) = n < length c.zones.now
MayBeRefused c ListEnd = ⊥
MayBeRefused c (Voucher n) = n < length c.vouchers.now

-- ---- the call for an entry, with its answer; it is lent a scratch page of no limits
abbrev pub blank_page : List PlainBound
blank_page = replicate draft_cells plain_kind.no_limit

abbrev pub call_for : Certificate → Entry → Answer → Call PlainBound
call_for c InOpening answer = Open (given_by c) c.target.now blank_page answer
call_for c (InZone n) answer = Post (slice_index_or c.zones.now n []) blank_page answer
call_for c ListEnd answer = Close answer
call_for c (Voucher n) answer = Discharge (slice_index_or c.vouchers.now n []) blank_page answer

abbrev pub at_entry : Entry → Answer → Result (Unit {0}) Refused
at_entry entry (Ok u) = Ok u
at_entry entry (Err refusal) = Err (record { entry = entry; refusal = refusal })

-- ---- the answer
-- calls from the blank docket lead here, over a book of the stated lengths, and this is the log of
-- them
pub record EntryStands (net : Net PlainBound) (log : Log PlainBound)
    (w : World PlainBound) : Type 0 where
  pub reached : ReachedByCalls plain_kind net log w
  pub cells : length w.cells ≡ book_cells
  pub places : length w.places ≡ book_places

abbrev pub check_verdict : List Item → Verdict
check_verdict [] = Sealed
check_verdict (d ∷ later) = StillDue d

-- every entry is taken, and the verdict is what is then still due
pub record CallsEnded (net : Net PlainBound) (c : Certificate) (verdict : Verdict) : Type 0 where
  pub world : World PlainBound
  pub stands : EntryStands net (proving c (length c.vouchers.now)) world
  pub said : verdict ≡ check_verdict (still_due net (proving c (length c.vouchers.now)))

-- every entry before this one is taken, and this refusal is the first in the table of its call
pub record Stopped (net : Net PlainBound) (c : Certificate) (refused : Refused) : Type 0 where
  pub may : MayBeRefused c refused.entry
  pub world : World PlainBound
  pub stands : EntryStands net (log_before c refused.entry) world
  pub rule : ByRules plain_kind net (log_before c refused.entry) world
      (call_for c refused.entry (Err refused.refusal))

abbrev pub Checked : Net PlainBound → Certificate → Result Verdict Refused → Type 0
Checked net c (Ok verdict) = CallsEnded net c verdict
Checked net c (Err refused) = Stopped net c refused
