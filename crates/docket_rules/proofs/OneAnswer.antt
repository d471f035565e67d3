-- A table gives one answer alone, and one item alone follows an item.
use Rattle.std.proofs.Common.{◌≡◌, ℕ, List, [], ◌∷◌, Some, None, Option, sym, ap, ◌∙◌, ⊎_elim}
use Rattle.docket_dues.specs.Dues.{Leads, due_after}
use Rattle.docket_dues.specs.declared.item.Item.{Item}
use Rattle.nets.specs.Nets.{Net}
use Rattle.docket_rules.specs.Promise.{first_due}
use Rattle.docket_rules.specs.Tables.{Answer, Answers, Rule}
use Rattle.docket_rules.proofs.Numbers.{same_number}

-- the first rule that holds is the same for both, and so is its number
pub one_answer : (rows : List Rule) (a b : Answer) → Answers rows a → Answers rows b → a ≡ b
one_answer [] a b h k = h ∙ sym k
one_answer (r ∷ rows) a b h k =
    ⊎_elim
    (λ x. ⊎_elim (λ y. same_number a b (x.1 ∙ sym y.1)) (λ y. absurd (y.0 x.0)) k)
    (λ x. ⊎_elim (λ y. absurd (x.0 y.0)) (λ y. one_answer rows a b x.1 y.1) k)
    h

module _ {B : Type 0} (net : Net B) (listed : List (List ℕ)) (d : Item) where
  next_is : (next : Option Item) → Leads net listed d next → first_due (due_after net listed d) ≡ next
  next_is None leads = ap first_due leads
  next_is (Some next) leads = ap first_due leads

  pub one_next : (next other : Option Item) → Leads net listed d next → Leads net listed d other → next ≡ other
  one_next next other h k = sym (next_is next h) ∙ next_is other k
