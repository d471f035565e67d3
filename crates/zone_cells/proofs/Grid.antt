-- One cell of a draft, and what steps one after the other keep.
use Rattle.std.proofs.Common.{◌≡◌, ℕ, zero, suc, ◌+◌, ◌*◌, ◌<◌, cond, ◌&&◌, eqb, List, length, get_or, sym, refl, ap, ◌∙◌, ⊎_elim, arith}
use Rattle.std.proofs.lemmas.List.{get_or-set_same, get_or-set_other, length-set}
use Rattle.std.proofs.lemmas.Bool.{cases_Bool, eqb-true, eq-eqb, and_from, and_parts, cond_both, false≢true}
use Rattle.bounds.specs.Kinds.{Kind}
use Rattle.bounds.specs.declared.range.Range.{Range}
use Rattle.nets.specs.Nets.{Arc}
use Rattle.zone_walks.specs.Walks.{Matrix, lesser}
use Rattle.zone_cells.specs.Cells.{times, in_draft, put, lowered, written, relaxed_row, relaxed_cells, narrowed_cells, moved_row, picked_cells, linked, added_cells, column_least, delayed_cells, arc_at, matched_cells, input_cells}

-- ---- places of cells
pub same_row : (j i a b : ℕ) → i < 13 → b < 13 → 13 * j + i ≡ 13 * a + b → j ≡ a
same_row j i a b p q e = omega arith

pub same_column : (j i a b : ℕ) → i < 13 → b < 13 → 13 * j + i ≡ 13 * a + b → i ≡ b
same_column j i a b p q e = omega arith

-- each cell of a draft is one of its 169
pub inside_draft : (j i : ℕ) → j < 13 → i < 13 → 13 * j + i < 169
inside_draft j i p q = omega arith

-- ---- steps one after the other
module _ {X : Type 0} (step : ℕ → X → X) where
  -- what every step keeps
  pub times_keeps : (P : X → Type 0) (n : ℕ) (x : X) → ((i : ℕ) (y : X) → i < n → P y → P (step i y)) → P x → P (times n step x)
  times_keeps P zero x keeps h = h
  times_keeps P (suc n) x keeps h = keeps n (times n step x) (omega arith) (times_keeps P n x (λ i y l. keeps i y (omega arith)) h)

  -- what every step brings one further
  pub times_leads : (P : ℕ → X → Type 0) (n : ℕ) (x : X) → ((i : ℕ) (y : X) → i < n → P i y → P (suc i) (step i y)) → P 0 x → P n (times n step x)
  times_leads P zero x leads h = h
  times_leads P (suc n) x leads h = leads n (times n step x) (omega arith) (times_leads P n x (λ i y l. leads i y (omega arith)) h)

-- the first step apart
pub times_first : {X : Type 0} (step : ℕ → X → X) (n : ℕ) (x : X) → times (suc n) step x ≡ times n (λ i. step (suc i)) (step 0 x)
times_first step zero x = refl
times_first step (suc n) x = ap (step (suc n)) (times_first step n x)

-- two kinds of steps that do the same
pub times_same : {X : Type 0} (step other : ℕ → X → X) (n : ℕ) (x : X) → ((i : ℕ) (y : X) → i < n → step i y ≡ other i y) → times n step x ≡ times n other x
times_same step other zero x same = refl
times_same step other (suc n) x same = ap (step n) (times_same step other n x (λ i y l. same i y (omega arith))) ∙ same n (times n other x) (omega arith)

-- ---- one cell
module _ {B : Type 0} where
  pub length-put : (j i : ℕ) (v : B) (cells : List B) → length (put j i v cells) ≡ length cells
  length-put j i v cells = length-set cells (13 * j + i) v

  pub length-written : (bounds : Matrix B) (points : ℕ) (cells : List B) → length (written bounds points cells) ≡ length cells
  length-written bounds points cells =
      times_keeps (λ j c. times points (λ i d. put j i (bounds j i) d) c) (λ c. length c ≡ length cells) points cells
      (λ j c _ h. times_keeps (λ i d. put j i (bounds j i) d) (λ d. length d ≡ length cells) points c (λ i d _ g. length-put j i (bounds j i) d ∙ g) h)
      refl

module _ {B : Type 0} (kind : Kind B) where
  pub put_same : (j i : ℕ) (v : B) (cells : List B) → length cells ≡ 169 → j < 13 → i < 13 → in_draft kind (put j i v cells) j i ≡ v
  put_same j i v cells full p q = get_or-set_same cells (13 * j + i) v kind.no_limit (omega arith)

  pub put_other : (j i : ℕ) (v : B) (cells : List B) (a b : ℕ) → i < 13 → b < 13 → ((a ≡ j) → (b ≡ i) → ⊥) → in_draft kind (put j i v cells) a b ≡ in_draft kind cells a b
  put_other j i v cells a b q s other = get_or-set_other cells (13 * j + i) (13 * a + b) v kind.no_limit (λ e. other (same_row a b j i s q e) (same_column a b j i s q e))

  pub put_other_row : (j i : ℕ) (v : B) (cells : List B) (a b : ℕ) → i < 13 → b < 13 → (a ≡ j → ⊥) → in_draft kind (put j i v cells) a b ≡ in_draft kind cells a b
  put_other_row j i v cells a b q s other = put_other j i v cells a b q s (λ e f. other e)

  pub put_other_column : (j i : ℕ) (v : B) (cells : List B) (a b : ℕ) → i < 13 → b < 13 → (b ≡ i → ⊥) → in_draft kind (put j i v cells) a b ≡ in_draft kind cells a b
  put_other_column j i v cells a b q s other = put_other j i v cells a b q s (λ e f. other f)

  pub lowered_at : (j i : ℕ) (v : B) (cells : List B) (a b : ℕ) → length cells ≡ 169 → j < 13 → i < 13 → a < 13 → b < 13 → in_draft kind (lowered kind j i v cells) a b ≡ cond (eqb a j && eqb b i) (lesser kind (in_draft kind cells a b) v) (in_draft kind cells a b)
  lowered_at j i v cells a b full p q r s =
      ⊎_elim
      (λ t.
      let h = and_parts (eqb a j) (eqb b i) t in
      let e : a ≡ j = eqb-true a j h.0 in
      let f : b ≡ i = eqb-true b i h.1 in
      rw (t, e, f) (put_same j i (lesser kind (in_draft kind cells j i) v) cells full p q))
      (λ t. rw t (put_other j i (lesser kind (in_draft kind cells j i) v) cells a b q s (λ e f. false≢true (sym t ∙ and_from (eqb a j) (eqb b i) (eq-eqb a j e) (eq-eqb b i f)))))
      (cases_Bool (eqb a j && eqb b i))

  -- ---- how many cells there are
  pub length-lowered : (j i : ℕ) (v : B) (cells : List B) → length (lowered kind j i v cells) ≡ length cells
  length-lowered j i v cells = length-put j i (lesser kind (in_draft kind cells j i) v) cells

  pub length-relaxed_row : (points pivot j : ℕ) (cells : List B) → length (relaxed_row kind points pivot j cells) ≡ length cells
  length-relaxed_row points pivot j cells = times_keeps (λ i c. lowered kind j i (kind.sum (in_draft kind cells j pivot) (in_draft kind c pivot i)) c) (λ c. length c ≡ length cells) points cells (λ i c l h. length-lowered j i (kind.sum (in_draft kind cells j pivot) (in_draft kind c pivot i)) c ∙ h) refl

  pub length-relaxed : (points pivot : ℕ) (cells : List B) → length (relaxed_cells kind points pivot cells) ≡ length cells
  length-relaxed points pivot cells = times_keeps (λ j c. cond (eqb j pivot) c (relaxed_row kind points pivot j c)) (λ c. length c ≡ length cells) points cells (λ j c l h. cond_both (eqb j pivot) c (relaxed_row kind points pivot j c) (λ w. length w ≡ length cells) (λ _. h) (λ _. length-relaxed_row points pivot j c ∙ h)) refl

  pub length-narrowed : (token : ℕ) (range : Range B) (cells : List B) → length (narrowed_cells kind token range cells) ≡ length cells
  length-narrowed token range cells = length-lowered 0 token range.lower (lowered kind token 0 range.upper cells) ∙ length-lowered token 0 range.upper cells

  pub length-moved_row : (kept : List ℕ) (points j : ℕ) (cells : List B) → length (moved_row kind kept points j cells) ≡ length cells
  length-moved_row kept points j cells = times_keeps (λ i c. put j i (in_draft kind c (get_or kept j 0) (get_or kept i 0)) c) (λ c. length c ≡ length cells) points cells (λ i c l h. length-put j i (in_draft kind c (get_or kept j 0) (get_or kept i 0)) c ∙ h) refl

  pub length-picked : (kept : List ℕ) (points : ℕ) (cells : List B) → length (picked_cells kind kept points cells) ≡ length cells
  length-picked kept points cells = times_keeps (λ j c. moved_row kind kept points j c) (λ c. length c ≡ length cells) points cells (λ j c l h. length-moved_row kept points j c ∙ h) refl

  pub length-linked : (range : Range B) (n i : ℕ) (cells : List B) → length (linked kind range n i cells) ≡ length cells
  length-linked range n i cells = length-put i n (kind.sum (in_draft kind cells i 0) range.lower) (put n i (kind.sum range.upper (in_draft kind cells 0 i)) cells) ∙ length-put n i (kind.sum range.upper (in_draft kind cells 0 i)) cells

  pub length-added : (range : Range B) (n : ℕ) (cells : List B) → length (added_cells kind range n cells) ≡ length cells
  length-added range n cells = length-put n n kind.zero (times n (λ i c. linked kind range n i c) cells) ∙ times_keeps (λ i c. linked kind range n i c) (λ c. length c ≡ length cells) n cells (λ i c l h. length-linked range n i c ∙ h) refl

  pub length_delayed : (points : ℕ) (cells : List B) → length (delayed_cells kind points cells) ≡ length cells
  length_delayed points cells = times_keeps (λ i c. cond (eqb i 0) c (put 0 i (column_least kind points i c) c)) (λ c. length c ≡ length cells) points cells (λ i c l h. cond_both (eqb i 0) c (put 0 i (column_least kind points i c) c) (λ w. length w ≡ length cells) (λ _. h) (λ _. length-put 0 i (column_least kind points i c) c ∙ h)) refl

  pub length_matched : (arcs : List (Arc B)) (matching : List ℕ) (cells : List B) → length (matched_cells kind arcs matching cells) ≡ length cells
  length_matched arcs matching cells = times_keeps (λ a c. cond (eqb (get_or matching a 0) 0) c (narrowed_cells kind (get_or matching a 0) (arc_at kind arcs a).range c)) (λ c. length c ≡ length cells) (length arcs) cells (λ a c l h. cond_both (eqb (get_or matching a 0) 0) c (narrowed_cells kind (get_or matching a 0) (arc_at kind arcs a).range c) (λ w. length w ≡ length cells) (λ _. h) (λ _. length-narrowed (get_or matching a 0) (arc_at kind arcs a).range c ∙ h)) refl

  pub length_inputs : (arcs : List (Arc B)) (n : ℕ) (cells : List B) → length (input_cells kind arcs n cells) ≡ length cells
  length_inputs arcs n cells = times_keeps (λ a c. added_cells kind (arc_at kind arcs a).range (n + a) c) (λ c. length c ≡ length cells) (length arcs) cells (λ a c l h. length-added (arc_at kind arcs a).range (n + a) c ∙ h) refl
