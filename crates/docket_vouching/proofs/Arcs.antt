-- One arc after the other, with the rows in cells.
use Rattle.std.proofs.Common.{◌≡◌, ℕ, zero, suc, ◌+◌, ◌<◌, Bool, true, false, cond, eqb, List, [], ◌∷◌, length, get_or, drop, Some, None, Option, sym, refl, ap, ◌∙◌, subst, arith}
use Rattle.std.proofs.lemmas.Bool.{cond-true, cond-false, ne_eqb}
use Rattle.bounds.specs.Kinds.{Kind}
use Rattle.bounds.specs.declared.range.Range.{Range}
use Rattle.nets.specs.Nets.{Arc, Every, no_arc, numbered}
use Rattle.zone_walks.specs.Walks.{Matrix}
use Rattle.zone_cells.specs.Cells.{arc_at}
use Rattle.zone_closed_forms.specs.ClosedForms.{ClockRows, begun, crossed, narrowed_from, narrowed_rows, all_narrowed}
use Rattle.zone_closed_forms.specs.ClockRows.{Alike, AlikeOr, narrowed_on}
use Rattle.zone_closed_forms.proofs.Alike.{all_alike, next_narrowed}

pub alike_same : {B : Type 0} (n : ℕ) (o : Option (ClockRows B)) → AlikeOr n o o
alike_same n None = tt
alike_same n (Some rows) = record { up = λ j l. refl; low = λ k l. refl }

pub alike_on : {B : Type 0} (n : ℕ) (a b c : Option (ClockRows B)) → AlikeOr n a b → AlikeOr n b c → AlikeOr n a c
alike_on n None None c h k = k
alike_on n None (Some b) c h k = absurd h
alike_on n (Some a) None c h k = absurd h
alike_on n (Some a) (Some b) None h k = k
alike_on n (Some a) (Some b) (Some c) h k = record { up = λ j l. h.up j l ∙ k.up j l; low = λ j l. h.low j l ∙ k.low j l }

pub every_item : (P : ℕ → Type 0) (xs : List ℕ) (i : ℕ) → Every P xs → i < length xs → P (get_or xs i 0)
every_item P [] i h k = absurd (omega arith)
every_item P (x ∷ xs) zero h k = h.0
every_item P (x ∷ xs) (suc i) h k = every_item P xs i h.1 (omega arith)

every_drop : (P : ℕ → Type 0) (xs : List ℕ) (i : ℕ) → Every P xs → Every P (drop i xs)
every_drop P xs zero h = h
every_drop P [] (suc i) h = tt
every_drop P (x ∷ xs) (suc i) h = every_drop P xs i h.1

module _ {B : Type 0} (kind : Kind B) (n : ℕ) (x : Matrix B) (arcs : List (Arc B)) (ds : List ℕ) (a : ℕ) (p : a < length arcs) (q : a < length ds) (token : ℕ) (digit : token ≡ get_or ds a 0) (rows : ClockRows B) where
  abbrev on : ClockRows B → Option (ClockRows B)
  on after = narrowed_on kind x arcs ds (a + 1) after

  abbrev arc : Range B
  arc = (arc_at kind arcs a).range

  next : narrowed_on kind x arcs ds a rows ≡ cond (eqb token 0) (on rows) (cond (crossed kind token arc rows) None (on (narrowed_rows kind x token arc rows)))
  next = next_narrowed kind x arcs ds a rows p q ∙ ap (λ t. cond (eqb t 0) (on rows) (cond (crossed kind t arc rows) None (on (narrowed_rows kind x t arc rows)))) (sym digit)

  pub passed : token ≡ 0 → AlikeOr n (narrowed_on kind x arcs ds a rows) (on rows)
  passed e = subst (AlikeOr n (narrowed_on kind x arcs ds a rows)) (next ∙ cond-true (eqb token 0) _ _ (ap (λ d. eqb d 0) e)) (alike_same n (narrowed_on kind x arcs ds a rows))

  module _ (some : token ≡ 0 → ⊥) (range : Range B) (is : range ≡ (numbered arcs (a + 1) (no_arc kind)).range) where
    same_range : range ≡ (arc_at kind arcs a).range
    same_range = let e : a + 1 ≡ suc a = omega arith in is ∙ ap (λ i. (numbered arcs i (no_arc kind)).range) e

    by_test : narrowed_on kind x arcs ds a rows ≡ cond (crossed kind token range rows) None (on (narrowed_rows kind x token range rows))
    by_test = next ∙ cond-false (eqb token 0) _ _ (ne_eqb token 0 some) ∙ ap (λ r. cond (crossed kind token r rows) None (on (narrowed_rows kind x token r rows))) (sym same_range)

    pub crosses : crossed kind token range rows ≡ true → AlikeOr n (narrowed_on kind x arcs ds a rows) None
    crosses e = subst (λ o. AlikeOr n o None) (sym (by_test ∙ cond-true _ _ _ e)) tt

    pub narrows : crossed kind token range rows ≡ false → (after : ClockRows B) → Alike n (narrowed_rows kind x token range rows) after → Every (λ d. d < n) ds → AlikeOr n (narrowed_on kind x arcs ds a rows) (on after)
    narrows e after alike inside =
        subst (λ o. AlikeOr n o (on after)) (sym (by_test ∙ cond-false _ _ _ e))
        (all_alike kind n x (drop (a + 1) arcs) (drop (a + 1) ds) _ after (every_drop (λ d. d < n) ds (a + 1) inside) alike)

-- narrowing in cells that begins with rows like the page's own
pub narrowed_in : {B : Type 0} (kind : Kind B) (n : ℕ) (x : Matrix B) (arcs : List (Arc B)) (ds : List ℕ) (first last : ClockRows B) (answer test : Bool) → Every (λ d. d < n) ds → Alike n (begun x) first → AlikeOr n (all_narrowed kind x arcs ds first) (cond answer (Some last) None) → answer ≡ test → AlikeOr n (narrowed_from kind arcs ds x) (cond test (Some last) None)
narrowed_in kind n x arcs ds first last answer test inside alike h is =
    subst (λ t. AlikeOr n (narrowed_from kind arcs ds x) (cond t (Some last) None)) is
    (alike_on n (narrowed_from kind arcs ds x) (all_narrowed kind x arcs ds first) (cond answer (Some last) None) (all_alike kind n x arcs ds (begun x) first inside alike) h)
