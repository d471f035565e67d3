-- A docket that agrees with its calls keeps what they say, and each answer is its table's, told of them.
use Rattle.std.proofs.Common.{◌≡◌, ℕ, ◌≤◌, Bool, true, false, List, [], ◌∷◌, length, Option, Some, None, inl, refl, sym, ap, ◌∙◌, subst, ⊎_elim, arith}
use Rattle.std.proofs.lemmas.Bool.{false≢true}
use Rattle.bounds.specs.Kinds.{Kind}
use Rattle.docket_dues.specs.declared.item.Item.{Item}
use Rattle.docket_records.specs.declared.token.InitialToken.{InitialToken}
use Rattle.nets.specs.Nets.{Limits, Net}
use Rattle.zones.specs.Zones.{Zone}
use Rattle.docket_rules.specs.Calls.{Call, Open, Post, Close, Discharge, NextDue, Step, next_due_of}
use Rattle.docket_rules.specs.Logs.{FormsOf, Log, Opening, counts_said, initial_said, proving_stage, stage_said, state_said, still_due}
use Rattle.docket_rules.specs.Promise.{ByRules, SealHolds, due_said, first_due}
use Rattle.docket_rules.specs.Tables.{Answer, Answers, close_table, discharge_table, is_sealed, open_table, post_table}
use Rattle.docket_rules.specs.Worlds.{State, World, blank, page_of, whole, with_scratch}
use Rattle.docket_rules.specs.declared.stage.Stage.{Stage}
use Rattle.docket_rules.specs.declared.stage.Stage.TheVariants.{Blank, Sealed}
use Rattle.docket_rules.proofs.Agrees.{Agrees, AgreesAs, zone_said}
use Rattle.docket_rules.proofs.KeptTruth.{sealed_true}
use Rattle.docket_rules.proofs.Listed.{listed_as_many}
use Rattle.docket_rules.proofs.OneForm.{discharge_alike, forms_same}
use Rattle.docket_rules.proofs.Sounds.{agrees_sound}

-- a state by its parts
abbrev state_with : Stage → List InitialToken → List ℕ → ℕ → State
state_with stage initial counts taken = record { stage = stage; initial = initial; counts = counts; taken = taken }

state_is : (s : State) {stage : Stage} {initial : List InitialToken} {counts : List ℕ} {taken : ℕ} → s.stage ≡ stage → s.initial ≡ initial → s.counts ≡ counts → s.taken ≡ taken → s ≡ state_with stage initial counts taken
state_is s {stage} {initial} {counts} {taken} e f g h =
    ap (λ x. state_with x s.initial s.counts s.taken) e
    ∙ ap (λ x. state_with stage x s.counts s.taken) f
    ∙ ap (λ x. state_with stage initial x s.taken) g
    ∙ ap (λ x. state_with stage initial counts x) h

module _ {B : Type 0} (kind : Kind B) (net : Net B) (log : Log B) where
  -- ---- the first item that is due is what next-due answers
  proving_next : (items : List Item) → next_due_of (proving_stage items) ≡ first_due items
  proving_next [] = refl
  proving_next (d ∷ later) = refl

  said_next : (o : Opening B) (closed : Bool) → next_due_of (stage_said net log (Some o) closed) ≡ due_said net log closed
  said_next o false = refl
  said_next o true = proving_next (still_due net log)

  module _ (w : World B) where
    -- ---- the parts of the promise that speak of one moment
    pub true_seal : Limits kind net → (o : Option (Opening B)) → AgreesAs kind net log w o → w.state.stage ≡ Sealed → SealHolds kind net o
    true_seal limits None a sealed = absurd (false≢true (ap (λ s. is_sealed s.stage) (sym a.1) ∙ ap is_sealed sealed))
    true_seal limits (Some o) a sealed = sealed_true kind net log o w a.1 limits sealed

    state_as : (o : Option (Opening B)) → AgreesAs kind net log w o → w.state ≡ state_with (stage_said net log o log.closed) (initial_said o) (counts_said log.listed o) log.taken
    state_as None a = a.1 ∙ sym (ap (λ l. state_with Blank [] [] l.taken) a.0)
    state_as (Some o) a = state_is w.state a.1.stage a.1.initial a.1.counts a.1.taken

    pub state_known : Agrees kind net log w → w.state ≡ state_said net log
    state_known a = state_as log.opening a

    pub forms_known : (o : Option (Opening B)) → AgreesAs kind net log w o → FormsOf kind log.listed o (page_of kind w)
    forms_known None a = tt
    forms_known (Some o) a = λ p few. (a.1.pages p few).normal

    -- ---- each answer
    next_known : (o : Option (Opening B)) → AgreesAs kind net log w o → next_due_of w.state.stage ≡ due_said net log log.closed
    next_known None a = ap (λ s. next_due_of s.stage) a.1 ∙ sym (ap (λ l. due_said net log l.closed) a.0)
    next_known (Some o) a = ap next_due_of a.1.stage ∙ said_next o log.closed

    -- a blank docket reads no zone
    blank_alike : (s : State) → s ≡ blank → (zones other : ℕ → Zone B) (sized : Bool) (bytes : List ℕ) (answer : Answer) → Answers (discharge_table kind net s sized zones bytes) answer → Answers (discharge_table kind net s sized other bytes) answer
    blank_alike s is zones other sized bytes answer h =
        let there = subst (λ x. Answers (discharge_table kind net x sized zones bytes) answer) is h in
        let here : Answers (discharge_table kind net blank sized other bytes) answer = ⊎_elim (λ x. inl x) (λ x. absurd (x.0 refl)) there in
        subst (λ x. Answers (discharge_table kind net x sized other bytes) answer) (sym is) here

    -- the pages are normal forms, and so it is alike for any
    pub any_forms : (o : Option (Opening B)) → AgreesAs kind net log w o → (zones : ℕ → Zone B) → FormsOf kind log.listed o zones → (sized : Bool) (bytes : List ℕ) (answer : Answer) → Answers (discharge_table kind net w.state sized (page_of kind w) bytes) answer → Answers (discharge_table kind net w.state sized zones bytes) answer
    any_forms None a zones forms sized bytes answer h = blank_alike w.state a.1 (page_of kind w) zones sized bytes answer h
    any_forms (Some o) a zones forms sized bytes answer h =
        let many = listed_as_many kind net log o w a.1 in
        discharge_alike kind net w.state (page_of kind w) zones
        (λ p few. let inside : p ≤ length log.listed = omega (arith, few, many) in forms_same kind (zone_said o log p) (page_of kind w p) (zones p) (a.1.pages p inside).normal (forms p inside))
        sized bytes answer h

    module _ (a : Agrees kind net log w) where
      pub answers_by_rules : (c : Call B) (after : World B) → Step kind net w c after → ByRules kind net log w c
      answers_by_rules (Open g target scratch answer) after s =
          subst (λ x. Answers (open_table kind net x (whole (with_scratch w scratch)) g target) answer) (state_known a) s.1.answers
      answers_by_rules (Post zone scratch answer) after s =
          subst (λ x. Answers (post_table kind net x (whole (with_scratch w scratch)) zone) answer) (state_known a) s.1.answers
      answers_by_rules (Close answer) after s = subst (λ x. Answers (close_table x) answer) (state_known a) s.0.answers
      answers_by_rules (Discharge voucher scratch answer) after s = λ zones forms.
          let of_pages = s.1.answers (agrees_sound kind net log w log.opening a) in
          subst (λ x. Answers (discharge_table kind net x (whole (with_scratch w scratch)) zones voucher) answer) (state_known a)
          (any_forms log.opening a zones forms (whole (with_scratch w scratch)) voucher answer of_pages)
      answers_by_rules (NextDue answer) after s = s.0 ∙ next_known log.opening a
