-- What answers by a table are.
use Rattle.std.proofs.Common.{◌≡◌, false, List, [], ◌∷◌, Ok, Err, Some, is_err, ap, sym, ◌∙◌, ⊎_elim}
use Rattle.std.proofs.lemmas.Bool.{true≢false}
use Rattle.docket_refusals.specs.declared.refusal.CallRefusal.{CallRefusal}
use Rattle.docket_rules.specs.Calls.{is_early}
use Rattle.docket_rules.specs.Tables.{Answer, Answers, Rule}
use Rattle.docket_rules.proofs.Numbers.{early_by_number, is_early_number}

-- no refusal of these rows comes so early that the scratch page is left
abbrev pub AllLate : List Rule → Type 0
AllLate [] = Unit {0}
AllLate (r ∷ rows) = (is_early_number (Some r.number) ≡ false) × AllLate rows

pub late : (rows : List Rule) (answer : Answer) → AllLate rows → Answers rows answer → is_early answer ≡ false
late [] answer all h = ap is_early h
late (r ∷ rows) answer all h = ⊎_elim (λ p. early_by_number answer ∙ ap is_early_number p.1 ∙ all.0) (λ p. late rows answer all.1 p.1) h

abbrev same : Answer → Answer → Type 0
same a b = a ≡ b

pub not_taken : {X : Type 0} (r : CallRefusal) → same (Err r) (Ok tt) → X
not_taken r e = absurd (true≢false (ap is_err e))

pub not_refused : {X : Type 0} (r : CallRefusal) → same (Ok tt) (Err r) → X
not_refused r e = absurd (true≢false (sym (ap is_err e)))
