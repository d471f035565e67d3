-- That the answer to a voucher is its table's, and that an item is answered by one that is taken.
use Rattle.std.proofs.Common.{◌≡◌, ℕ, zero, suc, Bool, true, false, cond, leb, List, [], ◌∷◌, is_err, Ok, Err, Some, None, Option, sym, refl, ap, ◌∙◌, subst, inl, inr, arith}
use Rattle.std.proofs.lemmas.Bool.{and_parts, both_ways, leb-true, true≢false}
use Rattle.zone_pages.specs.Objections.{objection_number, objection_of}
use Rattle.zone_pages.specs.declared.objections.Objection.{Objection}
use Rattle.zone_pages.specs.declared.objections.Objection.TheVariants.{Partner, Place, Bound}
use Rattle.bounds.specs.Kinds.{Kind}
use Rattle.zone_cells.specs.Cells.{in_page}
use Rattle.docket.specs.Discharging.{judged, objected, zone_worked}
use Rattle.docket.proofs.Named.{as_many, itself, page_named}
use Rattle.docket_rules.proofs.Objected.{Tried, same_objection, unobjected}
use Rattle.docket_dues.specs.Answered.{Answered, ItemZone, SameZone, VoidItem, zone_named}
use Rattle.docket_dues.specs.declared.item.Item.{Item}
use Rattle.docket_dues.proofs.Answered.{void_answered, vouched_answered}
use Rattle.docket_records.specs.declared.voucher.Voucher.{Voucher}
use Rattle.docket_vouching.specs.Asked.{own_zone, rows_within}
use Rattle.docket_vouching.specs.Means.{PartsAnswer}
use Rattle.docket_vouching.specs.declared.work.Parts.{Parts}
use Rattle.nets.specs.Nets.{Net}
use Rattle.docket_refusals.specs.declared.refusal.CallRefusal.TheVariants.{NotVoid, VoidItem as IsVoid, NoSuchZone}
use Rattle.docket_rules.specs.Calls.{is_early}
use Rattle.docket_rules.specs.Tables.{Against, Answer, Answers, Asks, IsVoidItem, Rule, item_rules, pairing_of, rule}
use Rattle.docket_rules.specs.Worlds.{World, in_list, listed_count, listed_pages, page_of}
use Rattle.docket_rules.proofs.KeptAsked.{one_asked}
use Rattle.zones.specs.Zones.{Zone}

-- ---- answers
abbrev number_of : Tried → ℕ
number_of (Ok u) = 0
number_of (Err o) = objection_number o

not_objected : (r : Tried) → objected r ≡ Ok tt → r ≡ Ok tt
not_objected (Ok u) e = refl
not_objected (Err o) e = absurd (true≢false (ap is_err e))

objected_late : (r : Tried) → is_early (objected r) ≡ false
objected_late (Ok u) = refl
objected_late (Err o) = refl

pub judged_late : {B : Type 0} (kind : Kind B) (w : World B) (v : Voucher) (asked : Option (Zone B)) → is_early (judged kind w v asked) ≡ false
judged_late kind w v None = by v.void
  where
    by : (void : Bool) → is_early (cond void (Ok tt) (Err IsVoid)) ≡ false
    by true = refl
    by false = refl
judged_late kind w v (Some asked) = by v.void (in_list w.state v.zone)
  where
    stands : Tried
    stands = objection_of kind (page_of kind w v.zone) asked (pairing_of w.state v)

    by : (void listed : Bool) → is_early (cond void (Err NotVoid) (cond listed (objected stands) (Err NoSuchZone))) ≡ false
    by true listed = refl
    by false true = objected_late stands
    by false false = refl

-- what an item asks for, it asks for only where it is not void
not_void : {B : Type 0} (kind : Kind B) (net : Net B) (target : Zone B) (listed : List (Zone B)) (z t n : ℕ) (asked : Zone B) → ItemZone kind net target listed z t n asked → VoidItem kind net target listed z t n → ⊥
not_void kind net target listed zero t n asked asks void = void
not_void kind net target listed (suc z) zero n asked asks void = void
not_void kind net target listed (suc z) (suc t) n asked asks void = asks.possible void

module _ {B : Type 0} (kind : Kind B) (net : Net B) (w : World B) (d : Item) (v : Voucher) where
  -- ---- a void item
  void_answers : IsVoidItem kind net w.state (page_of kind w) d → (void : Bool) → v.void ≡ void → Answers (item_rules kind net w.state (page_of kind w) d v) (cond void (Ok tt) (Err IsVoid))
  void_answers is_void true is =
      inr (λ h. h.1 is_void, inr (λ h. both_ways v.void h.0 is, inr (λ h. both_ways v.void h.0 is, inr (λ h. both_ways v.void h.0 is, inr (λ h. both_ways v.void h.0 is, inr (λ h. both_ways v.void h.0 is, refl))))))
  void_answers is_void false is = inr (λ h. both_ways v.void is h.0, inl ((is, is_void), refl))

  -- ---- an item that asks for a zone
  module _ (asked : Zone B) (asks : Asks kind net w.state (page_of kind w) d asked) where
    abbrev page : Zone B
    page = page_of kind w v.zone

    abbrev stands : Tried
    stands = objection_of kind page asked (pairing_of w.state v)

    is_not_void : IsVoidItem kind net w.state (page_of kind w) d → ⊥
    is_not_void = not_void kind net (page_of kind w 0) (listed_pages kind w) d.zone d.transition d.matching asked asks

    -- what stands against one zone that the item asks for stands against each
    against_it : (o : Objection) → Against kind net w.state (page_of kind w) d v o → stands ≡ Err o
    against_it o h =
        same_objection kind page (pairing_of w.state v) asked h.asked (one_asked kind net (page_of kind w 0) (listed_pages kind w) d.zone d.transition d.matching asked h.asked asks h.asks) ∙ h.stands

    other : (r : Tried) (o : Objection) → stands ≡ r → (number_of r ≡ objection_number o → ⊥) → (v.void ≡ false) × Against kind net w.state (page_of kind w) d v o → ⊥
    other r o is apart h = apart (ap number_of (sym is ∙ against_it o h.1))

    abbrev objection_row : Objection → Rule
    objection_row o = rule (objection_number o) ((v.void ≡ false) × Against kind net w.state (page_of kind w) d v o)

    objection_answers : v.void ≡ false → (r : Tried) → stands ≡ r → Answers (objection_row Partner ∷ (objection_row Place ∷ (objection_row Bound ∷ []))) (objected r)
    objection_answers named (Err Partner) is = inl ((named, record { asked = asked; asks = asks; stands = is }), refl)
    objection_answers named (Err Place) is =
        inr (other (Err Place) Partner is (λ e. omega (arith, e)), inl ((named, record { asked = asked; asks = asks; stands = is }), refl))
    objection_answers named (Err Bound) is =
        inr (other (Err Bound) Partner is (λ e. omega (arith, e)), inr (other (Err Bound) Place is (λ e. omega (arith, e)), inl ((named, record { asked = asked; asks = asks; stands = is }), refl)))
    objection_answers named (Ok u) is =
        inr (other (Ok u) Partner is (λ e. omega (arith, e)), inr (other (Ok u) Place is (λ e. omega (arith, e)), inr (other (Ok u) Bound is (λ e. omega (arith, e)), refl)))

    abbrev answer_of : Bool → Bool → Answer
    answer_of void listed = cond void (Err NotVoid) (cond listed (objected stands) (Err NoSuchZone))

    asked_answers : (void listed : Bool) → v.void ≡ void → in_list w.state v.zone ≡ listed → Answers (item_rules kind net w.state (page_of kind w) d v) (answer_of void listed)
    asked_answers true listed is among = inl ((is, is_not_void), refl)
    asked_answers false false is among = inr (λ h. both_ways v.void is h.0, inr (λ h. is_not_void h.1, inl ((is, among), refl)))
    asked_answers false true is among =
        inr (λ h. both_ways v.void is h.0, inr (λ h. is_not_void h.1, inr (λ h. both_ways (in_list w.state v.zone) h.1 among, objection_answers is stands refl)))

    by_listed : in_list w.state v.zone ≡ true → stands ≡ Ok tt → Answered kind net (page_of kind w 0) (listed_pages kind w) d
    by_listed among is =
        let parts = and_parts (leb 1 v.zone) (leb v.zone (listed_count w.state)) among in
        let few = leb-true v.zone (listed_count w.state) parts.1 in
        let same = subst (λ y. SameZone (zone_named (page_of kind w 0) (listed_pages kind w) v.zone) y) (page_named kind w v.zone few) (itself (zone_named (page_of kind w 0) (listed_pages kind w) v.zone)) in
        vouched_answered kind net (page_of kind w 0) (listed_pages kind w) d v.zone page asked (pairing_of w.state v) (leb-true 1 v.zone parts.0) (omega (arith, few, as_many kind w)) same asks (unobjected kind page (pairing_of w.state v) asked is)

    asked_answered : (void listed : Bool) → in_list w.state v.zone ≡ listed → answer_of void listed ≡ Ok tt → Answered kind net (page_of kind w 0) (listed_pages kind w) d
    asked_answered true listed among e = absurd (true≢false (ap is_err e))
    asked_answered false false among e = absurd (true≢false (ap is_err e))
    asked_answered false true among e = by_listed among (not_objected stands e)

  -- ---- either
  module _ (page rows : List B) where
    pub judged_answers : (parts : Option Parts) → PartsAnswer kind net (page_of kind w 0) (listed_pages kind w) d page rows parts → Answers (item_rules kind net w.state (page_of kind w) d v) (judged kind w v (zone_worked kind page rows parts))
    judged_answers None made = void_answers made v.void refl
    judged_answers (Some parts) made = asked_answers (own_zone kind (in_page kind page) (rows_within kind rows) parts) made v.void (in_list w.state v.zone) refl refl

    pub judged_answered : (parts : Option Parts) → PartsAnswer kind net (page_of kind w 0) (listed_pages kind w) d page rows parts → judged kind w v (zone_worked kind page rows parts) ≡ Ok tt → Answered kind net (page_of kind w 0) (listed_pages kind w) d
    judged_answered None made e = void_answered kind net (page_of kind w 0) (listed_pages kind w) d made
    judged_answered (Some parts) made e = asked_answered (own_zone kind (in_page kind page) (rows_within kind rows) parts) made v.void (in_list w.state v.zone) refl e
