-- A record that was read: what it is refused for, and the page that its zone is written into.
use Rattle.std.proofs.Common.{◌≡◌, ℕ, Bool, true, false, cond, List, ◌∷◌, ◌++◌, length, Ok, Err, Result, Some, None, Option, refl, sym, ap, ◌≤◌, ◌∙◌, subst, inl, inr, arith}
use Rattle.std.proofs.lemmas.Bool.{false≢true}
use Rattle.arrayvec.specs.ArrayVec.{ArrayVec}
use Rattle.bounds.specs.Kinds.{Kind}
use Rattle.zone_cells.specs.Drafts.{draft_zone}
use Rattle.zone_cells.specs.Loading.{DraftFormed}
use Rattle.zone_cells.specs.Sizes.{draft_cells, page_cells, page_places}
use Rattle.docket_records.specs.ZoneRecords.{mark_under_plain, no_such_place, not_zero, too_many, wrong_length, zone_fault, zone_of}
use Rattle.docket_records.specs.declared.fault.EntryRefusal.{EntryRefusal}
use Rattle.docket_records.specs.declared.fault.EntryRefusal.TheVariants.{WrongLength, NotZero, TooMany, NoSuchPlace, MarkUnderPlain}
use Rattle.docket_records.proofs.Sizes.{zone_small}
use Rattle.nets.specs.Markings.{Marking}
use Rattle.zone_reading.specs.Readings.{Read}
use Rattle.docket_refusals.specs.declared.refusal.CallRefusal.TheVariants.{Entry}
use Rattle.docket_rules.specs.Calls.{PageFormed, PageWritten, cells_of, page_places_of, with_page}
use Rattle.docket_rules.specs.Tables.{Answer, Answers, Rule, number_of, record_rules, rule}
use Rattle.docket_rules.specs.Worlds.{World}
use Rattle.zones.proofs.ZoneLaws.{zones_keep_laws}
use Rattle.zones.specs.Zones.{Zone, Inconsistent, NormalOf, Satisfies}

-- ---- the rows of a record, by the five tests of its bytes
abbrev tests : (a b c d e : Bool) → Option EntryRefusal
tests a b c d e = cond a (Some WrongLength) (cond b (Some NotZero) (cond c (Some TooMany) (cond d (Some NoSuchPlace) (cond e (Some MarkUnderPlain) None))))

abbrev tested_rules : (a b c d e : Bool) (last : List Rule) → List Rule
tested_rules a b c d e last =
    rule 20 (a ≡ true)
    ∷ rule 21 (b ≡ true)
    ∷ rule 22 (c ≡ true)
    ∷ rule 23 (d ≡ true)
    ∷ rule 24 (e ≡ true)
    ∷ last

-- a fault is the answer; with none, the last rows answer
abbrev Found : (rows last : List Rule) → Option EntryRefusal → Type 0
Found rows last (Some r) = Answers rows (Err (Entry r))
Found rows last None = (answer : Answer) → Answers last answer → Answers rows answer

no : false ≡ true → ⊥
no h = false≢true h

found : (a b c d e : Bool) (last : List Rule) → Found (tested_rules a b c d e last) last (tests a b c d e)
found true b c d e last = inl (refl, refl)
found false true c d e last = inr (no, inl (refl, refl))
found false false true d e last = inr (no, inr (no, inl (refl, refl)))
found false false false true e last = inr (no, inr (no, inr (no, inl (refl, refl))))
found false false false false true last = inr (no, inr (no, inr (no, inr (no, inl (refl, refl)))))
found false false false false false last = λ answer h. inr (no, inr (no, inr (no, inr (no, inr (no, h)))))

module _ {B : Type 0} (kind : Kind B) (net_places : ℕ) (bytes : List ℕ) (rest : List Rule) where
  abbrev z : Zone B
  z = zone_of kind bytes

  abbrev pub rows : List Rule
  rows = record_rules kind net_places bytes ++ rest

  -- a record that was taken: the rest of the rows answer, and the draft holds its normal form
  pub record RecordTaken (draft : List B) (tokens : List ℕ) : Type 0 where
    pub passes : (answer : Answer) → Answers rest answer → Answers rows answer
    pub formed : DraftFormed kind z draft
    pub places : tokens ≡ z.places

  abbrev pub Recorded : List B → Result (ArrayVec ℕ) EntryRefusal → Type 0
  Recorded draft (Err r) = Answers rows (Err (Entry r))
  Recorded draft (Ok tokens) = RecordTaken draft tokens.items

  abbrev last : List Rule
  last = rule 25 (Inconsistent kind z) ∷ rest

  recorded_as : (before after : List B) (result : Result (ArrayVec ℕ) EntryRefusal) → length before ≡ draft_cells → Read kind net_places bytes before after result → (fault : Option EntryRefusal) → zone_fault kind.marks net_places bytes ≡ fault → Found rows last fault → Recorded after result
  recorded_as before after result full read (Some r) is h = subst (Recorded after) (sym (read.refused r is).answer) h
  recorded_as before after (Err r) full read None is h = h (Err (Entry r)) (inl (read.settled is full, ap (λ e. number_of (Err (Entry e))) (read.taken is)))
  recorded_as before after (Ok tokens) full read None is h =
      let formed = read.settled is full in
      record {
        passes = λ answer k. h answer (inr (formed.consistent, k));
        formed = formed;
        places = read.taken is;
      }

  pub recorded : (before after : List B) (result : Result (ArrayVec ℕ) EntryRefusal) → length before ≡ draft_cells → Read kind net_places bytes before after result → Recorded after result
  recorded before after result full read =
      recorded_as before after result full read (zone_fault kind.marks net_places bytes) refl
      (found (wrong_length bytes) (not_zero bytes) (too_many bytes) (no_such_place net_places bytes) (mark_under_plain kind.marks bytes) last)

-- ---- a zone in a draft
module _ {B : Type 0} (kind : Kind B) (z : Zone B) (draft : List B) (tokens : List ℕ) (formed : DraftFormed kind z draft) (places : tokens ≡ z.places) where
  abbrev form : Zone B
  form = draft_zone kind tokens draft

  normal : NormalOf kind z form
  normal = subst (λ ps. NormalOf kind z (draft_zone kind ps draft)) (sym places) formed.normal

  page_formed : PageFormed kind form
  page_formed =
      subst (λ ps. PageFormed kind (draft_zone kind ps draft)) (sym places)
      formed.workable.formed

  pub few_tokens : length tokens ≤ 8
  few_tokens = page_formed.few

  -- by the number and the tokens that the page was written with
  pub page_written : (p n : ℕ) (ps : List ℕ) (before after : World B) → n ≡ p → ps ≡ tokens → after.cells ≡ with_page page_cells n (cells_of kind (draft_zone kind ps draft)) before.cells → after.places ≡ with_page page_places n (page_places_of (draft_zone kind ps draft)) before.places → PageWritten kind p z before after
  page_written p n ps before after number copied cells_are places_are =
      let as_form = ap (λ qs. draft_zone kind qs draft) copied in
      record {
        form = form;
        normal = normal;
        formed = page_formed;
        cells = cells_are ∙ ap (λ y. with_page page_cells n (cells_of kind y) before.cells) as_form ∙ ap (λ q. with_page page_cells q (cells_of kind form) before.cells) number;
        places = places_are ∙ ap (λ y. with_page page_places n (page_places_of y) before.places) as_form ∙ ap (λ q. with_page page_places q (page_places_of form) before.places) number;
      }

  pub form_covers : (m : Marking) → Satisfies kind 1 z m → Satisfies kind 1 form m
  form_covers m s = (zones_keep_laws kind).to_form 1 z form m (omega arith) normal s

-- the initial marking satisfies a record's zone where it satisfies its normal form
pub zone_covers : {B : Type 0} (kind : Kind B) (bytes : List ℕ) (draft : List B) (tokens : List ℕ) → DraftFormed kind (zone_of kind bytes) draft → tokens ≡ (zone_of kind bytes).places → (m : Marking) → Satisfies kind 1 (draft_zone kind tokens draft) m → Satisfies kind 1 (zone_of kind bytes) m
zone_covers kind bytes draft tokens formed places m s =
    let normal = subst (λ ps. NormalOf kind (zone_of kind bytes) (draft_zone kind ps draft)) (sym places) formed.normal in
    (zones_keep_laws kind).from_form 1 (zone_of kind bytes) (draft_zone kind tokens draft) m (omega arith) (λ j i p q. omega (arith, zone_small kind bytes j i p q)) normal s
