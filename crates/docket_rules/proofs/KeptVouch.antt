-- A voucher that is allowed for the item that is due is taken: no rule of its table holds.
use Rattle.std.proofs.Common.{◌≡◌, ℕ, Bool, true, false, eqb, ◌⊎◌, List, length, is_err, Ok, sym, refl, ap, ◌∙◌, subst, ⊎_elim}
use Rattle.std.proofs.lemmas.Bool.{and_from, eq-eqb, true≢false}
use Rattle.zone_cells.specs.Sizes.{draft_cells}
use Rattle.zone_pages.proofs.Means.{nothing}
use Rattle.zone_pages.specs.declared.objections.Objection.{Objection}
use Rattle.zone_pages.specs.declared.objections.Objection.TheVariants.{Partner, Place, Bound}
use Rattle.bounds.specs.Kinds.{Kind}
use Rattle.docket_dues.specs.declared.item.Item.{Item}
use Rattle.docket_dues.proofs.Same.{vouches_same}
use Rattle.docket_records.specs.Vouchers.{voucher_of}
use Rattle.docket_records.specs.declared.voucher.Voucher.{Voucher}
use Rattle.nets.specs.Nets.{Net}
use Rattle.zones.specs.Vouching.{Vouches}
use Rattle.zones.specs.Zones.{Zone}
use Rattle.docket_rules.specs.Promise.{VoucherAllowed, VoucherFits}
use Rattle.docket_rules.specs.Tables.{Against, Answer, Answers, Asks, discharge_table, due_in, is_proving, item_rules, pairing_of}
use Rattle.docket_rules.specs.Worlds.{State, World, book_cells, book_places, book_whole, listed_zones, whole, with_scratch}
use Rattle.docket_rules.specs.declared.stage.Stage.TheVariants.{Proving}
use Rattle.docket_rules.proofs.KeptAsked.{one_asked}

-- the first rule does not hold
past : {P E Later : Type 0} → (P → ⊥) → (P × E) ⊎ ((P → ⊥) × Later) → Later
past none h = ⊎_elim (λ held. absurd (none held.0)) (λ later. later.1) h

both_not : {b : Bool} → b ≡ true → b ≡ false → ⊥
both_not is is_not = true≢false (sym is ∙ is_not)

module _ {B : Type 0} (kind : Kind B) (net : Net B) (s : State) (zones : ℕ → Zone B) (d : Item) where
  unopposed : (v : Voucher) (asked : Zone B) → Asks kind net s zones d asked → Vouches kind (zones v.zone) asked (pairing_of s v) → (objection : Objection) → Against kind net s zones d v objection → ⊥
  unopposed v asked asks vouches objection against =
      let same = one_asked kind net (zones 0) (listed_zones s zones) d.zone d.transition d.matching against.asked asked against.asks asks in
      let stands = vouches_same kind against.asked asked (zones v.zone) (pairing_of s v) same vouches in
      let none = nothing kind (zones v.zone) against.asked (pairing_of s v) stands in
      true≢false (ap is_err (sym against.stands ∙ none))

  item_taken : (v : Voucher) (answer : Answer) (void : Bool) → v.void ≡ void → VoucherFits kind net s zones d v void → Answers (item_rules kind net s zones d v) answer → answer ≡ Ok tt
  item_taken v answer true is vouches rows =
      past (λ h. both_not is h.0) (past (λ h. both_not is h.0) (past (λ h. both_not is h.0) (past (λ h. both_not is h.0) (past (λ h. both_not is h.0) (past (λ h. h.1 vouches) rows)))))
  item_taken v answer false is vouches rows =
      let against = unopposed v vouches.2.0 vouches.2.1 vouches.2.2 in
      past (λ h. against Bound h.1) (past (λ h. against Place h.1) (past (λ h. against Partner h.1) (past (λ h. both_not vouches.1 h.1) (past (λ h. vouches.0 h.1) (past (λ h. both_not h.0 is) rows)))))

  pub allowed_taken : (bytes : List ℕ) (sized : Bool) (answer : Answer) → s.stage ≡ Proving d → sized ≡ true → VoucherAllowed kind net s zones d bytes → Answers (discharge_table kind net s sized zones bytes) answer → answer ≡ Ok tt
  allowed_taken bytes sized answer stage whole allowed rows =
      let of_item = past (λ h. both_not h allowed.clean) (past (λ h. both_not (eq-eqb (length bytes) 6 allowed.size) h) (past (both_not whole) (past (both_not (ap is_proving stage)) rows))) in
      let v = voucher_of bytes in
      item_taken v answer v.void refl allowed.vouches (subst (λ e. Answers (item_rules kind net s zones e v) answer) (ap due_in stage) of_item)

-- lent memory of the stated lengths
pub whole_known : {B : Type 0} (w : World B) (scratch : List B) → length w.cells ≡ book_cells → length w.places ≡ book_places → length scratch ≡ draft_cells → whole (with_scratch w scratch) ≡ true
whole_known w scratch cells places long =
    let book : book_whole w ≡ true = and_from (eqb (length w.cells) book_cells) (eqb (length w.places) book_places) (eq-eqb (length w.cells) book_cells cells) (eq-eqb (length w.places) book_places places) in
    and_from (book_whole w) (eqb (length scratch) draft_cells) book (eq-eqb (length scratch) draft_cells long)
