-- A call that a record asks for is made.
use Rattle.std.specs.Prelude.{Bool, true, false, cond, nat_lt}
use Rattle.std.proofs.Common.{◌≡◌, ℕ, ◌≤◌, List, length, take, Ok, Err, Result, refl, sym, ap, ◌∙◌, subst}
use Rattle.std.proofs.lemmas.Bool.{cond-false, le-ltb}
use Rattle.bounds.specs.Kinds.{Kind}
use Rattle.docket_rules.specs.Calls.{Call, Left, Step, is_early}
use Rattle.docket_rules.specs.Tables.{Answer}
use Rattle.file_check.specs.Files.{AskMade, Called, Filed, filed}
use Rattle.file_rules.specs.Asks.{Make, scratch_page, with_record}
use Rattle.file_rules.specs.declared.fault.FileFault.{FileFault}

module _ {B : Type 0} (kind : Kind B) where
  clear_by : (early : Bool) (lent left : List B) → left ≡ cond early lent (scratch_page kind) → lent ≡ scratch_page kind → left ≡ scratch_page kind
  clear_by true lent left is clear = is ∙ clear
  clear_by false lent left is clear = is

  -- the scratch page is lent clear, and so it is left
  pub clear_left : (answer : Answer) (lent left : List B) → Left kind answer lent left → lent ≡ scratch_page kind → left ≡ scratch_page kind
  clear_left answer lent left is clear = clear_by (is_early answer) lent left is clear

  module _ (before after : Filed B) (answer : Answer) (same : after.net ≡ before.net) where
    made_at : (at : ℕ) (call : Answer → Call B) (answer : Answer) → Step kind before.net before.world (call answer) after.world → AskMade kind before.net before.world (Make at call) after.world (filed at answer)
    made_at at call (Ok tt) step = step
    made_at at call (Err r) step = (r, step, refl)

    pub called : (at : ℕ) (call : Answer → Call B) (result : Result (Unit {0}) FileFault) → result ≡ filed at answer → Step kind before.net before.world (call answer) after.world → Called kind (Make at call) before result after
    called at call result is step = record {
      made = subst (AskMade kind before.net before.world (Make at call) after.world) (sym is) (made_at at call answer step);
      net = same;
    }

    -- with the next record, which is there in its length
    pub called_with : (size at : ℕ) (bytes : List ℕ) (call : List ℕ → Answer → Call B) (result : Result (Unit {0}) FileFault) → size ≤ length before.unread.rest → bytes ≡ take size before.unread.rest → at ≡ before.unread.next → result ≡ filed at answer → Step kind before.net before.world (call bytes answer) after.world → Called kind (with_record size before.unread.next before.unread.rest call) before result after
    called_with size at bytes call result there is here filed_is step =
        let rest = before.unread.rest in
        let next = before.unread.next in
        let told = subst (λ b. Step kind before.net before.world (call b answer) after.world) is step in
        let one = called next (call (take size rest)) result (filed_is ∙ ap (λ n. filed n answer) here) told in
        record {
          made = subst (λ ask. AskMade kind before.net before.world ask after.world result) (sym (cond-false (nat_lt (length rest) size) _ _ (le-ltb (length rest) size there))) one.made;
          net = same;
        }
