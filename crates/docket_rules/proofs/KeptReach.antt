-- Allowed vouchers for all that is still due are taken and seal, whatever calls come between that are
-- not taken.
use Rattle.std.proofs.Common.{◌≡◌, ℕ, ◌+◌, Bool, true, false, ◌||◌, List, [], ◌∷◌, drop, drop-drop, Option, Some, None, Ok, sym, ap, ◌∙◌, subst}
use Rattle.std.proofs.lemmas.Bool.{true≢false}
use Rattle.bounds.specs.Kinds.{Kind}
use Rattle.docket_dues.specs.Answered.{places_of_all}
use Rattle.docket_dues.specs.Dues.{all_due}
use Rattle.docket_dues.specs.declared.item.Item.{Item}
use Rattle.docket_records.specs.Vouchers.{unused_set, voucher_of, voucher_spare}
use Rattle.docket_records.specs.declared.voucher.Voucher.{Voucher}
use Rattle.nets.specs.Nets.{Limits, Net}
use Rattle.docket_rules.specs.Calls.{Call, Open, Post, Close, Discharge, NextDue, Played, Step}
use Rattle.docket_rules.specs.Logs.{Forms, Log, Opening, proving_stage, stage_said, still_due, with_call}
use Rattle.docket_rules.specs.Promise.{AllVouched, NotTaken, VoucherAllowed, VoucherFits, Vouching}
use Rattle.docket_rules.specs.Promise.Vouching.{done, vouch, between}
use Rattle.docket_rules.specs.Tables.{Answer, partners_used}
use Rattle.docket_rules.specs.Worlds.{State, World, whole, with_scratch}
use Rattle.docket_rules.specs.declared.stage.Stage.TheVariants.{Blank}
use Rattle.zones.specs.Zones.{Zone}
use Rattle.docket_rules.proofs.Agrees.{Agrees, AgreesAs, AgreesOpened}
use Rattle.docket_rules.proofs.Keeps.{keeps}
use Rattle.docket_rules.proofs.KeptExact.{any_forms}
use Rattle.docket_rules.proofs.KeptVouch.{allowed_taken, whole_known}
use Rattle.docket_rules.proofs.Moved.{world_is}
use Rattle.docket_rules.proofs.Sounds.{agrees_sound}

-- what a voucher reads of a state: how many tokens the pages have
abbrev read_as : List ℕ → State
read_as counts = record { stage = Blank; initial = []; counts = counts; taken = 0 }

module _ {B : Type 0} (kind : Kind B) (net : Net B) where
  -- ---- a voucher that was allowed still is
  module _ (zones : ℕ → Zone B) where
    vouches_read : (s t : State) (d : Item) (said : Voucher) (void : Bool) → t.counts ≡ s.counts → VoucherFits kind net s zones d said void → VoucherFits kind net t zones d said void
    vouches_read s t d said true same h = subst (λ c. VoucherFits kind net (read_as c) zones d said true) (sym same) h
    vouches_read s t d said false same h = subst (λ c. VoucherFits kind net (read_as c) zones d said false) (sym same) h

    allowed_read : (s t : State) (d : Item) (bytes : List ℕ) → t.counts ≡ s.counts → VoucherAllowed kind net s zones d bytes → VoucherAllowed kind net t zones d bytes
    allowed_read s t d bytes same h =
        record {
          size = h.size;
          clean = ap (λ c. voucher_spare bytes || unused_set (voucher_of bytes) (partners_used (read_as c) (voucher_of bytes))) same ∙ h.clean;
          vouches = vouches_read s t d (voucher_of bytes) (voucher_of bytes).void same h.vouches;
        }

  -- ---- calls that are not taken
  pub unchanged : (w u : World B) (c : Call B) → NotTaken c → Step kind net w c u → u ≡ w
  unchanged w u (Open g target scratch answer) none s = s.1.refused none.0 none.1
  unchanged w u (Post zone scratch answer) none s = s.1.refused none.0 none.1
  unchanged w u (Close answer) none s = world_is u (s.0.refused none.0 none.1) s.1.cells s.1.places
  unchanged w u (Discharge voucher scratch answer) none s =
      world_is u (s.1.refused none.0 none.1) s.2.cells s.2.places
  unchanged w u (NextDue answer) none s = s.1

  -- ---- an opened and closed docket
  opened : (log : Log B) (w : World B) (o : Option (Opening B)) → AgreesAs kind net log w o → log.closed ≡ true → (given : Opening B) × AgreesOpened kind net log given w
  opened log w None a closed = absurd (true≢false (sym closed ∙ ap (λ l. l.closed) a.0))
  opened log w (Some o) a closed = (o, a.1)

  stage_at : (log : Log B) (w : World B) (items : List Item) → Agrees kind net log w → log.closed ≡ true → still_due net log ≡ items → w.state.stage ≡ proving_stage items
  stage_at log w items a closed here =
      let o = opened log w log.opening a closed in
      o.1.stage ∙ (ap (stage_said net log (Some o.0)) closed ∙ ap proving_stage here)

  module _ (limits : Limits kind net) (s : State) (zones : ℕ → Zone B) where
    pub all_vouched : {items : List Item} {calls : List (Call B)} {answers : List Answer} → Vouching kind net s zones items calls answers → (log : Log B) (v after : World B) → v.state.counts ≡ s.counts → log.closed ≡ true → Forms kind log zones → Agrees kind net log v → still_due net log ≡ items → Played kind net v calls after → AllVouched answers after
    all_vouched done log v after same closed forms a here played =
        record { taken = tt; sealed = ap (λ u. u.state.stage) played ∙ stage_at log v [] a closed here }
    all_vouched (vouch {d} {later} {calls} {answers} bytes scratch answer allowed long rest) log v after same closed forms a here played =
        let u = played.0 in
        let o = opened log v log.opening a closed in
        let sized = whole (with_scratch v scratch) in
        let table = any_forms kind net log v log.opening a zones forms sized bytes answer (played.1.1.answers (agrees_sound kind net log v log.opening a)) in
        let given = whole_known v scratch o.1.cells o.1.places long in
        let taken = allowed_taken kind net v.state zones d bytes sized answer (stage_at log v (d ∷ later) a closed here) given (allowed_read zones s v.state d bytes same allowed) table in
        let step = subst (λ x. Step kind net v (Discharge bytes scratch x) u) taken played.1 in
        let left : drop (log.taken + 1) (all_due net (places_of_all log.listed)) ≡ later = sym (drop-drop 1 log.taken (all_due net (places_of_all log.listed))) ∙ ap (drop 1) here in
        let later_vouched = all_vouched rest (with_call kind log (Discharge bytes scratch (Ok tt))) u after (ap (λ x. x.counts) (played.1.1.taken taken).state ∙ same) closed forms (keeps kind net limits log v u (Discharge bytes scratch (Ok tt)) a step) left played.2 in
        record { taken = (taken, later_vouched.taken); sealed = later_vouched.sealed }
    all_vouched (between {items} {calls} {answers} c none rest) log v after same closed forms a here played =
        all_vouched rest log v after same closed forms a here (subst (λ u. Played kind net u calls after) (unchanged v played.0 c none played.1) played.2)
