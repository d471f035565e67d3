-- What weighing a voucher comes to, from what was read and what was made of the item; and a docket's call from that.
use Rattle.std.proofs.Common.{◌≡◌, ℕ, Bool, true, false, cond, not, eqb, List, ◌++◌, length, replicate, is_err, Ok, Err, Option, Result, sym, refl, ap, ◌∙◌, subst, inr, arith}
use Rattle.std.proofs.lemmas.Bool.{and_parts, both_ways, cond-false, eqb-true, true≢false}
use Rattle.bounds.specs.Kinds.{Kind}
use Rattle.zone_cells.specs.Drafts.{page_zone}
use Rattle.zone_cells.specs.Sizes.{draft_cells}
use Rattle.docket.specs.Discharging.{Advanced, Weighed, Worked, Works, judged, voucher_read, zone_worked}
use Rattle.docket.proofs.Judged.{judged_answered, judged_answers, judged_late}
use Rattle.docket.proofs.Named.{item_due, item_held}
use Rattle.docket_dues.specs.Answered.{Answered, places_of_all, zone_named}
use Rattle.docket_dues.specs.Dues.{Leads}
use Rattle.docket_dues.specs.declared.item.Item.{Item}
use Rattle.docket_records.specs.Records.{voucher_size}
use Rattle.docket_records.specs.Vouchers.{voucher_of}
use Rattle.docket_records.specs.declared.fault.EntryRefusal.TheVariants.{WrongLength, NotZero}
use Rattle.docket_records.specs.declared.voucher.Voucher.{Voucher}
use Rattle.docket_items.specs.Made.{PageHolds}
use Rattle.docket_vouching.specs.Asked.{WorksOut}
use Rattle.docket_vouching.specs.Means.{MeansItem, PartsAnswer}
use Rattle.docket_vouching.specs.declared.work.Parts.{Parts}
use Rattle.nets.specs.Nets.{Net}
use Rattle.docket_refusals.specs.declared.refusal.CallRefusal.{CallRefusal}
use Rattle.docket_rules.specs.Calls.{Discharges, Left, Sound, is_early}
use Rattle.docket_rules.specs.Tables.{Answer, Answers, Begins, discharge_rules, discharge_table, due_in, is_proving, item_rules, stray_set, voucher_rules}
use Rattle.docket_rules.specs.Worlds.{Lent, State, World, book_whole, listed_pages, page_cells_at, page_of, page_places_at, whole, with_scratch}
use Rattle.docket_rules.specs.declared.stage.Stage.TheVariants.{Proving}

-- ---- the voucher
abbrev or_else : {X E : Type 0} → X → Result X E → X
or_else x (Ok y) = y
or_else x (Err e) = x

pub record Read (s : State) (bytes : List ℕ) (v : Voucher) : Type 0 where
  pub long : (eqb (length bytes) voucher_size) ≡ true
  pub clean : stray_set s bytes ≡ false
  pub is : voucher_of bytes ≡ v

pub read_is : (s : State) (bytes : List ℕ) (v : Voucher) → voucher_read s bytes ≡ Ok v → Read s bytes v
read_is s bytes v = by (eqb (length bytes) voucher_size) _ refl refl
  where
    by : (long set : Bool) → eqb (length bytes) voucher_size ≡ long → stray_set s bytes ≡ set → cond (not long) (Err WrongLength) (cond set (Err NotZero) (Ok (voucher_of bytes))) ≡ Ok v → Read s bytes v
    by false set l c e = absurd (true≢false (ap is_err e))
    by true true l c e = absurd (true≢false (ap is_err e))
    by true false l c e = record { long = l; clean = c; is = ap (or_else v) e }

-- ---- weighed
module _ {B : Type 0} (kind : Kind B) (net : Net B) (w : World B) (bytes : List ℕ) (d : Item) where
  module _ (places : List ℕ) (cells : List B) (places_are : places ≡ page_places_at w d.zone) (cells_are : cells ≡ page_cells_at w d.zone) (before after : List B) (parts : Option Parts) (works : WorksOut kind net (page_zone kind places cells) d before after parts) (means : MeansItem kind net places cells d before after parts) where
    item_made : w.state.stage ≡ Proving d → length before ≡ draft_cells → Sound kind net w → PartsAnswer kind net (page_of kind w 0) (listed_pages kind w) d cells after parts
    item_made proving full sound =
        let named = zone_named (page_of kind w 0) (listed_pages kind w) d.zone in
        let held = subst (λ c. PageHolds kind named places c) (sym cells_are) (subst (λ p. PageHolds kind named p (page_cells_at w d.zone)) (sym places_are) (item_held kind w net d sound proving)) in
        means (page_of kind w 0) (listed_pages kind w) (omega (arith, full)) (item_due kind w net d sound proving) held

    pub weighed : (v : Voucher) (answer : Answer) → voucher_read w.state bytes ≡ Ok v → answer ≡ judged kind w v (zone_worked kind cells after parts) → Weighed kind net w bytes d before after answer
    weighed v answer read judges =
        let said = read_is w.state bytes v read in
        record {
          kept = works.kept;
          late = ap is_early judges ∙ judged_late kind w v (zone_worked kind cells after parts);
          worked = subst (λ said. Worked kind net w d before said answer) (sym read) (record {
            rows = after;
            parts = parts;
            works = subst (λ c. WorksOut kind net (page_zone kind (page_places_at w d.zone) c) d before after parts) cells_are (subst (λ p. WorksOut kind net (page_zone kind p cells) d before after parts) places_are works);
            answer_is = judges ∙ ap (λ c. judged kind w v (zone_worked kind c after parts)) cells_are;
          });
          begins = inr (λ h. both_ways (eqb (length bytes) voucher_size) h said.long, inr (λ h. both_ways _ said.clean h, tt));
          answers = λ proving full sound.
              inr (
                λ h. both_ways (eqb (length bytes) voucher_size) h said.long,
                inr (
                  λ h. both_ways _ said.clean h,
                  subst (λ u. Answers (item_rules kind net w.state (page_of kind w) d u) answer) (sym said.is) (subst (Answers (item_rules kind net w.state (page_of kind w) d v)) (sym judges) (judged_answers kind net w d v cells after parts (item_made proving full sound))),
                ),
              );
          answered = λ proving full sound e. judged_answered kind net w d v cells after parts (item_made proving full sound) (sym judges ∙ e);
        }

  -- ---- the call
  module _ (lent worked left : List B) (proving : w.state.stage ≡ Proving d) (is_whole : whole (with_scratch w lent) ≡ true) (wiped : left ≡ replicate (length worked) kind.no_limit) where
    abbrev before : Lent B
    before = with_scratch w lent

    full : length lent ≡ draft_cells
    full = eqb-true (length lent) draft_cells (and_parts (book_whole w) _ is_whole).1

    pub call_works : (answer : Answer) → Weighed kind net w bytes d lent worked answer → Works kind net bytes before answer
    call_works answer by e stage sized =
        subst (λ i. Worked kind net w i lent (voucher_read w.state bytes) answer) (ap due_in (sym proving ∙ stage)) by.worked

    module _ (answer : Answer) (by : Weighed kind net w bytes d lent worked answer) where
      call_begins : Begins (discharge_rules w.state (whole before) bytes) answer
      call_begins = inr (λ h. both_ways (is_proving w.state.stage) h (ap is_proving proving), inr (λ h. both_ways (whole before) h is_whole, by.begins))

      call_answers : Sound kind net w → Answers (discharge_table kind net w.state (whole before) (page_of kind w) bytes) answer
      call_answers sound =
          inr (
            λ h. both_ways (is_proving w.state.stage) h (ap is_proving proving),
            inr (
              λ h. both_ways (whole before) h is_whole,
              subst (λ e. Answers (voucher_rules w.state bytes ++ item_rules kind net w.state (page_of kind w) e (voucher_of bytes)) answer) (sym (ap due_in proving)) (by.answers proving full sound),
            ),
          )

      call_left : Left kind answer lent left
      call_left =
          wiped
          ∙ ap (λ n. replicate n kind.no_limit) (by.kept ∙ full)
          ∙ sym (cond-false (is_early answer) lent (replicate draft_cells kind.no_limit) by.late)

    pub call_refused : (r : CallRefusal) (vouched answer : Answer) → vouched ≡ Err r → answer ≡ Err r → Weighed kind net w bytes d lent worked vouched → Discharges kind net bytes before w.state left answer
    call_refused r vouched answer vouched_is is said =
        let by = subst (Weighed kind net w bytes d lent worked) (vouched_is ∙ sym is) said in
        record {
          begins = call_begins answer by;
          answers = call_answers answer by;
          scratch = call_left answer by;
          refused = λ q e. refl;
          taken = λ e. absurd (true≢false (ap is_err (sym is ∙ e)));
        }

    pub call_taken : (vouched : Answer) → vouched ≡ Ok tt → Weighed kind net w bytes d lent worked vouched → (after : State) → Advanced kind net w d after → Discharges kind net bytes before after left (Ok tt)
    call_taken vouched is said after next =
        let by = subst (Weighed kind net w bytes d lent worked) is said in
        record {
          begins = call_begins (Ok tt) by;
          answers = call_answers (Ok tt) by;
          scratch = call_left (Ok tt) by;
          refused = λ r e. absurd (true≢false (ap is_err (sym e)));
          taken = λ e.
              record {
                next = next.next;
                leads = subst (λ s. Leads net (places_of_all (listed_pages kind w)) (due_in s) next.next) (sym proving) next.leads;
                state = next.state;
                answered = λ sound. subst (λ s. Answered kind net (page_of kind w 0) (listed_pages kind w) (due_in s)) (sym proving) (by.answered proving full sound refl);
              };
        }
