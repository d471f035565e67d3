-- A refusal and its number: no two refusals have one number.
use Rattle.std.proofs.Common.{◌≡◌, ℕ, cond, ◌||◌, eqb, Bool, false, Ok, Err, Some, None, Option, refl, sym, ap, ◌∙◌}
use Rattle.zone_pages.specs.declared.objections.Objection.{Objection}
use Rattle.zone_pages.specs.declared.objections.Objection.TheVariants.{Partner, Place, Bound}
use Rattle.docket_records.specs.declared.fault.EntryRefusal.{EntryRefusal}
use Rattle.docket_records.specs.declared.fault.EntryRefusal.TheVariants.{WrongLength, NotZero, TooMany, NoSuchPlace, MarkUnderPlain, Inconsistent}
use Rattle.docket_refusals.specs.CallRefusals.{call_refusal_number}
use Rattle.docket_refusals.specs.declared.refusal.CallRefusal.{CallRefusal}
use Rattle.docket_refusals.specs.declared.refusal.CallRefusal.TheVariants.{WrongStage, WrongMemory, FullList, Entry, Covered, NotVoid, VoidItem, NoSuchZone, Objected}
use Rattle.docket_rules.specs.Calls.{is_early}
use Rattle.docket_rules.specs.Tables.{Answer, number_of}

-- the refusal that has the number
abbrev refusal_with : ℕ → CallRefusal
refusal_with n =
    cond (eqb n 20) (Entry WrongLength)
    (cond (eqb n 21) (Entry NotZero)
    (cond (eqb n 22) (Entry TooMany)
    (cond (eqb n 23) (Entry NoSuchPlace)
    (cond (eqb n 24) (Entry MarkUnderPlain)
    (cond (eqb n 25) (Entry Inconsistent)
    (cond (eqb n 26) Covered
    (cond (eqb n 27) NotVoid
    (cond (eqb n 28) VoidItem
    (cond (eqb n 29) NoSuchZone
    (cond (eqb n 30) (Objected Partner)
    (cond (eqb n 31) (Objected Place)
    (cond (eqb n 32) (Objected Bound)
    (cond (eqb n 40) WrongStage
    (cond (eqb n 41) WrongMemory FullList))))))))))))))

of_entry : (e : EntryRefusal) → refusal_with (call_refusal_number (Entry e)) ≡ Entry e
of_entry WrongLength = refl
of_entry NotZero = refl
of_entry TooMany = refl
of_entry NoSuchPlace = refl
of_entry MarkUnderPlain = refl
of_entry Inconsistent = refl

of_objection : (o : Objection) → refusal_with (call_refusal_number (Objected o)) ≡ Objected o
of_objection Partner = refl
of_objection Place = refl
of_objection Bound = refl

of_refusal : (r : CallRefusal) → refusal_with (call_refusal_number r) ≡ r
of_refusal (Entry e) = of_entry e
of_refusal Covered = refl
of_refusal NotVoid = refl
of_refusal VoidItem = refl
of_refusal NoSuchZone = refl
of_refusal (Objected o) = of_objection o
of_refusal WrongStage = refl
of_refusal WrongMemory = refl
of_refusal FullList = refl

-- the answer that has the number, none being taken
abbrev answer_with : Option ℕ → Answer
answer_with None = Ok tt
answer_with (Some n) = Err (refusal_with n)

of_answer : (a : Answer) → answer_with (number_of a) ≡ a
of_answer (Ok tt) = refl
of_answer (Err r) = ap Err (of_refusal r)

pub same_number : (a b : Answer) → number_of a ≡ number_of b → a ≡ b
same_number a b e = sym (of_answer a) ∙ ap answer_with e ∙ of_answer b

-- ---- how early a refusal comes, by its number
abbrev pub is_early_number : Option ℕ → Bool
is_early_number None = false
is_early_number (Some n) = eqb n 40 || (eqb n 41 || eqb n 42)

early_entry : (e : EntryRefusal) → false ≡ is_early_number (number_of (Err (Entry e)))
early_entry WrongLength = refl
early_entry NotZero = refl
early_entry TooMany = refl
early_entry NoSuchPlace = refl
early_entry MarkUnderPlain = refl
early_entry Inconsistent = refl

early_objection : (o : Objection) → false ≡ is_early_number (number_of (Err (Objected o)))
early_objection Partner = refl
early_objection Place = refl
early_objection Bound = refl

pub early_by_number : (a : Answer) → is_early a ≡ is_early_number (number_of a)
early_by_number (Ok u) = refl
early_by_number (Err (Entry e)) = early_entry e
early_by_number (Err Covered) = refl
early_by_number (Err NotVoid) = refl
early_by_number (Err VoidItem) = refl
early_by_number (Err NoSuchZone) = refl
early_by_number (Err (Objected o)) = early_objection o
early_by_number (Err WrongStage) = refl
early_by_number (Err WrongMemory) = refl
early_by_number (Err FullList) = refl
