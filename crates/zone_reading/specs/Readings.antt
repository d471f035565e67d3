-- What reading a zone record into a draft answers, and what the draft then holds.
--     before, after    the cells of the draft
-- A draft is whole where it has 169 cells: then what is left is the zone's normal form, or the zone
-- is inconsistent. Of any cells, more or fewer, the answer and what each then holds are those of
-- the elimination over the cells as they are.
use Rattle.std.specs.Prelude.{◌≡◌, ℕ, List, Bool, true, false, length, Some, None, Ok, Err, Result}
use Rattle.bounds.specs.Kinds.{Kind}
use Rattle.zones.specs.Zones.{Zone, Inconsistent}
use Rattle.zone_cells.specs.Loading.{DraftFormed, zone_eliminated}
use Rattle.zone_cells.specs.Sizes.{draft_cells}
use Rattle.docket_records.specs.ZoneRecords.{zone_fault, zone_of}
use Rattle.arrayvec.specs.ArrayVec.{ArrayVec}
use Rattle.docket_records.specs.declared.fault.EntryRefusal.{EntryRefusal}
use Rattle.docket_records.specs.declared.fault.EntryRefusal.TheVariants.{Inconsistent as Refused25}

-- refused for the bytes alone: the cells stay as they were
pub record Refused {B : Type 0} (refusal : EntryRefusal) (before after : List B)
    (result : Result (ArrayVec ℕ) EntryRefusal) : Type 0 where
  pub answer : result ≡ Err refusal
  pub cells : after ≡ before

-- without a fault the answer is the zone's places, or that the zone is inconsistent
abbrev pub RecordTaken : {B : Type 0} → Zone B → Result (ArrayVec ℕ) EntryRefusal → Type 0
RecordTaken z (Ok tokens) = tokens.items ≡ z.places
RecordTaken z (Err refusal) = refusal ≡ Refused25

-- the places come with the zone's normal form
abbrev pub RecordSettled : {B : Type 0} → Kind B → Zone B → List B →
    Result (ArrayVec ℕ) EntryRefusal → Type 0
RecordSettled kind z after (Ok tokens) = DraftFormed kind z after
RecordSettled kind z after (Err refusal) = Inconsistent kind z

-- the answer that goes with what the elimination said
abbrev pub RecordAnswer : {B : Type 0} → Zone B → Bool → Result (ArrayVec ℕ) EntryRefusal → Type 0
RecordAnswer z true (Ok tokens) = tokens.items ≡ z.places
RecordAnswer z true (Err refusal) = ⊥
RecordAnswer z false (Ok tokens) = ⊥
RecordAnswer z false (Err refusal) = refusal ≡ Refused25

-- the bounds of z are written over the cells, however many there are, and brought to normal form
-- round by round
pub record RecordRun {B : Type 0} (kind : Kind B) (z : Zone B) (before after : List B)
    (result : Result (ArrayVec ℕ) EntryRefusal) : Type 0 where
  pub cells : after ≡ (zone_eliminated kind z before).0
  pub answer : RecordAnswer z (zone_eliminated kind z before).1 result

pub record Read {B : Type 0} (kind : Kind B) (net_places : ℕ) (bytes : List ℕ)
    (before after : List B) (result : Result (ArrayVec ℕ) EntryRefusal) : Type 0 where
  pub refused : (refusal : EntryRefusal) → zone_fault kind.marks net_places bytes ≡ Some refusal →
      Refused refusal before after result
  pub run : zone_fault kind.marks net_places bytes ≡ None →
      RecordRun kind (zone_of kind bytes) before after result
  pub taken : zone_fault kind.marks net_places bytes ≡ None →
      RecordTaken (zone_of kind bytes) result
  pub settled : zone_fault kind.marks net_places bytes ≡ None → length before ≡ draft_cells →
      RecordSettled kind (zone_of kind bytes) after result
