-- A call on a docket that calls have led to from the blank one answers in one way alone, and leaves one
-- docket and one book alone.
use Rattle.std.proofs.Common.{◌≡◌, ℕ, ◌+◌, List, Ok, Err, Option, refl, sym, ap, ◌∙◌, subst, min}
use Rattle.bounds.specs.Kinds.{Kind}
use Rattle.docket_dues.specs.Answered.{places_of_all}
use Rattle.docket_dues.specs.declared.item.Item.{Item}
use Rattle.docket_records.specs.ZoneRecords.{zone_of}
use Rattle.nets.specs.Nets.{Net}
use Rattle.docket_rules.specs.Calls.{BookKept, Call, Open, Post, Close, Discharge, NextDue, Discharged, Opened, Posted, Step, most_taken, stage_of}
use Rattle.docket_rules.specs.Logs.{state_said}
use Rattle.docket_rules.specs.Promise.{Promise}
use Rattle.docket_rules.specs.Reached.{Sharp}
use Rattle.docket_rules.specs.Tables.{Answer, Given, close_table, discharge_table, due_in, open_table, post_table}
use Rattle.docket_rules.specs.Worlds.{State, World, listed_pages, page_of, whole, with_scratch}
use Rattle.zones.specs.Zones.{Zone}
use Rattle.docket_rules.proofs.Moved.{world_is}
use Rattle.docket_rules.proofs.OneAnswer.{one_answer, one_next}
use Rattle.docket_rules.proofs.OnePage.{page_cells_one, page_places_one}
use Rattle.docket_rules.proofs.Reaching.{reached_kept}

module _ {B : Type 0} (kind : Kind B) (net : Net B) (w : World B) where
  -- ---- what a call that was taken leaves
  opened_one : (g : Given) (target : Zone B) (v u : World B) → Opened kind g target w v → Opened kind g target w u → v ≡ u
  opened_one g target v u h k =
      world_is v (h.state ∙ sym k.state) (page_cells_one kind 0 target w v u h.page k.page) (page_places_one kind 0 target w v u h.page k.page)

  posted_one : (zone : Zone B) (v u : World B) → Posted kind zone w v → Posted kind zone w u → v ≡ u
  posted_one zone v u h k =
      world_is v (h.state ∙ sym k.state) (page_cells_one kind _ zone w v u h.page k.page) (page_places_one kind _ zone w v u h.page k.page)

  kept_one : (v u : World B) → v.state ≡ u.state → BookKept w v → BookKept w u → v ≡ u
  kept_one v u state h k = world_is v state (h.cells ∙ sym k.cells) (h.places ∙ sym k.places)

  abbrev state_then : Option Item → State
  state_then next = record w.state { stage = stage_of next; taken = min (w.state.taken + 1) most_taken }

  discharged_one : (s t : State) → Discharged kind net w s → Discharged kind net w t → s ≡ t
  discharged_one s t h k =
      let next = one_next net (places_of_all (listed_pages kind w)) (due_in w.state.stage) h.next k.next h.leads k.leads in
      h.state ∙ ap state_then next ∙ sym k.state

  -- ---- what a call leaves that answers so
  open_after : (g : Given) (target : List ℕ) (scratch : List B) (a : Answer) (v u : World B) → Step kind net w (Open g target scratch a) v → Step kind net w (Open g target scratch a) u → v ≡ u
  open_after g target scratch (Ok t) v u h k = opened_one g (zone_of kind target) v u (h.1.taken refl) (k.1.taken refl)
  open_after g target scratch (Err r) v u h k = h.1.refused r refl ∙ sym (k.1.refused r refl)

  post_after : (zone : List ℕ) (scratch : List B) (a : Answer) (v u : World B) → Step kind net w (Post zone scratch a) v → Step kind net w (Post zone scratch a) u → v ≡ u
  post_after zone scratch (Ok t) v u h k = posted_one (zone_of kind zone) v u (h.1.taken refl) (k.1.taken refl)
  post_after zone scratch (Err r) v u h k = h.1.refused r refl ∙ sym (k.1.refused r refl)

  close_after : (a : Answer) (v u : World B) → Step kind net w (Close a) v → Step kind net w (Close a) u → v ≡ u
  close_after (Ok t) v u h k = kept_one v u (h.0.taken refl ∙ sym (k.0.taken refl)) h.1 k.1
  close_after (Err r) v u h k = kept_one v u (h.0.refused r refl ∙ sym (k.0.refused r refl)) h.1 k.1

  discharge_after : (voucher : List ℕ) (scratch : List B) (a : Answer) (v u : World B) → Step kind net w (Discharge voucher scratch a) v → Step kind net w (Discharge voucher scratch a) u → v ≡ u
  discharge_after voucher scratch (Ok t) v u h k =
      kept_one v u (discharged_one v.state u.state (h.1.taken refl) (k.1.taken refl)) h.2 k.2
  discharge_after voucher scratch (Err r) v u h k = kept_one v u (h.1.refused r refl ∙ sym (k.1.refused r refl)) h.2 k.2

  -- the same answer, and so the same world
  both_one : (call : Answer → Call B) (a b : Answer) (v u : World B) → a ≡ b → ((x : Answer) (y z : World B) → Step kind net w (call x) y → Step kind net w (call x) z → y ≡ z) → Step kind net w (call a) v → Step kind net w (call b) u → (a ≡ b) × (v ≡ u)
  both_one call a b v u same after h k = (same, after a v u h (subst (λ x. Step kind net w (call x) u) (sym same) k))

-- ---- each call, with any answer
module _ {B : Type 0} (kind : Kind B) (net : Net B) where
  pub open_sharp : (g : Given) (target : List ℕ) (scratch : List B) → Sharp kind net (Open g target scratch)
  open_sharp g target scratch log w v u a b reached h k =
      both_one kind net w (Open g target scratch) a b v u (one_answer (open_table kind net w.state (whole (with_scratch w scratch)) g target) a b h.1.answers k.1.answers) (open_after kind net w g target scratch) h k

  pub post_sharp : (zone : List ℕ) (scratch : List B) → Sharp kind net (Post zone scratch)
  post_sharp zone scratch log w v u a b reached h k =
      both_one kind net w (Post zone scratch) a b v u (one_answer (post_table kind net w.state (whole (with_scratch w scratch)) zone) a b h.1.answers k.1.answers) (post_after kind net w zone scratch) h k

  pub close_sharp : Sharp kind net Close
  close_sharp log w v u a b reached h k =
      both_one kind net w Close a b v u (one_answer (close_table w.state) a b h.0.answers k.0.answers) (close_after kind net w) h k

  pub next_sharp : Sharp kind net NextDue
  next_sharp log w v u a b reached h k = (h.0 ∙ sym k.0, h.1 ∙ sym k.1)

  -- by the promise its whole table stands, over the pages
  pub discharge_sharp : Promise kind net → (voucher : List ℕ) (scratch : List B) → Sharp kind net (Discharge voucher scratch)
  discharge_sharp promise voucher scratch log w v u a b reached h k =
      let kept = reached_kept kind net log w promise reached in
      let call = Discharge voucher scratch in
      let zones = page_of kind w in
      let table = discharge_table kind net (state_said net log) (whole (with_scratch w scratch)) zones voucher in
      both_one kind net w call a b v u (one_answer table a b (kept.exact (call a) v h zones kept.pages) (kept.exact (call b) u k zones kept.pages)) (discharge_after kind net w voucher scratch) h k
