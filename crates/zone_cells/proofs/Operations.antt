-- What the operations on the cells of a draft leave in every cell.
use Rattle.std.proofs.Common.{◌≡◌, ℕ, zero, suc, ◌+◌, ◌<◌, ◌≤◌, Bool, true, false, cond, ◌&&◌, eqb, ◌⊎◌, List, [], ◌∷◌, length, get_or, sym, refl, ap, ◌∙◌, subst, inl, inr, ⊎_elim, arith}
use Rattle.std.proofs.lemmas.Bool.{cases_Bool, cases_eq, cases_lt, eqb-true, eqb-false, ne_eqb, and_left, and_parts, cond-true, cond-false, cond_both, false≢true}
use Rattle.bounds.specs.Kinds.{Kind, largest_size}
use Rattle.bounds.specs.declared.range.Range.{Range}
use Rattle.nets.specs.Nets.{Arc}
use Rattle.zone_walks.specs.Walks.{Matrix, lesser}
use Rattle.zone_walks.proofs.Closed.{Same, relaxed}
use Rattle.zone_walks.proofs.Lessers.{at_most_same, lesser_is_left, lesser_cases, lesser_left, lesser_right, lesser_size}
use Rattle.zones.specs.Predecessors.{among, narrowed, narrowed_by, others, picked}
use Rattle.zone_cells.specs.Cells.{times, in_draft, put, lowered, relaxed_row, relaxed_cells, narrowed_cells, moved_row, picked_cells, linked, added_cells, column_least, delayed_cells, arc_at, matched_cells, input_cells}
use Rattle.zone_cells.proofs.Fills.{RowFilled, GridFilled, row_filled, grid_filled}
use Rattle.zone_cells.proofs.Grid.{times_keeps, times_leads, length-put, put_same, put_other, put_other_row, put_other_column, lowered_at, times_first, times_same, length-lowered, length-narrowed, length-linked}

-- the kept points rise, and are points of a draft
pub record Rising (kept : List ℕ) (points : ℕ) : Type 0 where
  pub from : (j : ℕ) → j < points → j ≤ get_or kept j 0
  pub inside : (j : ℕ) → j < points → get_or kept j 0 < 13
  pub rises : (i j : ℕ) → i < j → j < points → get_or kept i 0 < get_or kept j 0

-- ---- the points that stay
pub others_few : (gone : List ℕ) (first m : ℕ) → length (others gone first m) ≤ m
others_few gone first zero = omega arith
others_few gone first (suc m) =
    let h = others_few gone (suc first) m in
    cond_both (among first gone) (others gone (suc first) m) (first ∷ others gone (suc first) m) (λ l. length l ≤ suc m) (λ _. omega arith) (λ _. omega arith)

-- the elements rise, from a first one on and below an end
record Climbing (first end : ℕ) (l : List ℕ) : Type 0 where
  from : (i : ℕ) → i < length l → first + i ≤ get_or l i 0
  below : (i : ℕ) → i < length l → get_or l i 0 < end
  rises : (i j : ℕ) → i < j → j < length l → get_or l i 0 < get_or l j 0

climbing_later : (first end : ℕ) (l : List ℕ) → Climbing (suc first) end l → Climbing first end l
climbing_later first end l h = record { from = λ i p. omega (arith, h.from i p); below = h.below; rises = h.rises }

climbing_more : (first end : ℕ) (l : List ℕ) → first < end → Climbing (suc first) end l → Climbing first end (first ∷ l)
climbing_more first end l less h = record { from = from; below = below; rises = rises }
  where
    from : (i : ℕ) → i < suc (length l) → first + i ≤ get_or (first ∷ l) i 0
    from zero p = omega arith
    from (suc i) p = omega (arith, h.from i (omega arith))

    below : (i : ℕ) → i < suc (length l) → get_or (first ∷ l) i 0 < end
    below zero p = less
    below (suc i) p = h.below i (omega arith)

    rises : (i j : ℕ) → i < j → j < suc (length l) → get_or (first ∷ l) i 0 < get_or (first ∷ l) j 0
    rises i zero p q = absurd (omega arith)
    rises zero (suc j) p q = omega (arith, h.from j (omega arith))
    rises (suc i) (suc j) p q = h.rises i j (omega arith) (omega arith)

others_climb : (gone : List ℕ) (first m : ℕ) → Climbing first (first + m) (others gone first m)
others_climb gone first zero = record { from = λ i p. absurd (omega arith); below = λ i p. absurd (omega arith); rises = λ i j p q. absurd (omega arith) }
others_climb gone first (suc m) =
    let e : suc first + m ≡ first + suc m = omega arith in
    let h : Climbing (suc first) (first + suc m) (others gone (suc first) m) = subst (λ end. Climbing (suc first) end (others gone (suc first) m)) e (others_climb gone (suc first) m) in
    cond_both (among first gone) (others gone (suc first) m) (first ∷ others gone (suc first) m) (Climbing first (first + suc m))
    (λ _. climbing_later first (first + suc m) (others gone (suc first) m) h)
    (λ _. climbing_more first (first + suc m) (others gone (suc first) m) (omega arith) h)

kept_climb : (gone : List ℕ) (m : ℕ) → Climbing 0 (1 + m) (0 ∷ others gone 1 m)
kept_climb gone m = climbing_more 0 (1 + m) (others gone 1 m) (omega arith) (others_climb gone 1 m)

pub kept_few : (gone : List ℕ) (m : ℕ) → suc (length (others gone 1 m)) ≤ suc m
kept_few gone m = omega (arith, others_few gone 1 m)

-- a point that is kept is no larger than the number of tokens
pub kept_most : (gone : List ℕ) (m j : ℕ) → j < suc (length (others gone 1 m)) → get_or (0 ∷ others gone 1 m) j 0 ≤ m
kept_most gone m j l = omega (arith, (kept_climb gone m).below j l)

pub kept_rises : (gone : List ℕ) (m : ℕ) → m < 13 → Rising (0 ∷ others gone 1 m) (suc (length (others gone 1 m)))
kept_rises gone m l =
    let h = kept_climb gone m in
    record { from = λ j p. omega (arith, h.from j p); inside = λ j p. omega (arith, h.below j p); rises = h.rises }

module _ {B : Type 0} (kind : Kind B) where
  -- ---- a round of the elimination
  -- the pivot's own row stays
  pivot_stays : (pivot : ℕ) (x : Matrix B) (i : ℕ) → x pivot pivot ≡ kind.zero → kind.size (x pivot i) ≤ largest_size → relaxed kind pivot x pivot i ≡ x pivot i
  pivot_stays pivot x i still small =
      let e : kind.sum (x pivot pivot) (x pivot i) ≡ x pivot i = ap (λ z. kind.sum z (x pivot i)) still ∙ kind.neutral (x pivot i) small in
      ap (lesser kind (x pivot i)) e ∙ lesser_is_left kind (x pivot i) (x pivot i) (at_most_same kind (x pivot i))

  pivot_row : (points pivot : ℕ) (cells : List B) → points ≤ 13 → in_draft kind cells pivot pivot ≡ kind.zero → ((i : ℕ) → i < points → kind.size (in_draft kind cells pivot i) ≤ largest_size) → (j : ℕ) (c : List B) → j ≡ pivot → j < points → GridFilled kind points (relaxed kind pivot (in_draft kind cells)) cells j c → RowFilled kind j (relaxed kind pivot (in_draft kind cells) j) c points c
  pivot_row points pivot cells few still sized j c same l h =
      record {
        long = h.long;
        done = λ b k. h.left j b (omega arith) (λ s t. omega arith) ∙ subst (λ m. in_draft kind cells m b ≡ relaxed kind pivot (in_draft kind cells) m b) (sym same) (sym (pivot_stays pivot (in_draft kind cells) b still (sized b k)));
        left = λ a b k out. refl;
      }

  -- before row j, the pivot's row holds what it held at first
  pivot_held : (points pivot : ℕ) (cells : List B) → points ≤ 13 → in_draft kind cells pivot pivot ≡ kind.zero → ((i : ℕ) → i < points → kind.size (in_draft kind cells pivot i) ≤ largest_size) → (j : ℕ) (c : List B) → GridFilled kind points (relaxed kind pivot (in_draft kind cells)) cells j c → (i : ℕ) → i < points → in_draft kind c pivot i ≡ in_draft kind cells pivot i
  pivot_held points pivot cells few still sized j c h i l =
      ⊎_elim
      (λ before. h.done pivot i before l ∙ pivot_stays pivot (in_draft kind cells) i still (sized i l))
      (λ after. h.left pivot i (omega arith) (λ s t. omega arith))
      (cases_lt pivot j)

  other_row : (points pivot : ℕ) (cells : List B) → points ≤ 13 → pivot < points → in_draft kind cells pivot pivot ≡ kind.zero → ((i : ℕ) → i < points → kind.size (in_draft kind cells pivot i) ≤ largest_size) → (j : ℕ) (c : List B) → (j ≡ pivot → ⊥) → j < points → GridFilled kind points (relaxed kind pivot (in_draft kind cells)) cells j c → RowFilled kind j (relaxed kind pivot (in_draft kind cells) j) c points (relaxed_row kind points pivot j c)
  other_row points pivot cells few inside still sized j c apart l h =
      row_filled kind j points (relaxed kind pivot (in_draft kind cells) j) (λ i d. lesser kind (in_draft kind d j i) (kind.sum (in_draft kind c j pivot) (in_draft kind d pivot i))) c h.long (omega arith) few
      (λ i d k r.
      let own : in_draft kind d j i ≡ in_draft kind cells j i = r.left j i (omega arith) (λ s t. omega arith) ∙ h.left j i (omega arith) (λ s t. omega arith) in
      let first : in_draft kind c j pivot ≡ in_draft kind cells j pivot = h.left j pivot (omega arith) (λ s t. omega arith) in
      let second : in_draft kind d pivot i ≡ in_draft kind cells pivot i = r.left pivot i (omega arith) (λ s t. apart (sym s)) ∙ pivot_held points pivot cells few still sized j c h i k in
      ap (λ z. lesser kind z (kind.sum (in_draft kind c j pivot) (in_draft kind d pivot i))) own
      ∙ ap (λ z. lesser kind (in_draft kind cells j i) (kind.sum z (in_draft kind d pivot i))) first
      ∙ ap (λ z. lesser kind (in_draft kind cells j i) (kind.sum (in_draft kind cells j pivot) z)) second)

  pub relaxed_is : (points pivot : ℕ) (cells : List B) → length cells ≡ 169 → points ≤ 13 → pivot < points → in_draft kind cells pivot pivot ≡ kind.zero → ((i : ℕ) → i < points → kind.size (in_draft kind cells pivot i) ≤ largest_size) → Same points (in_draft kind (relaxed_cells kind points pivot cells)) (relaxed kind pivot (in_draft kind cells))
  relaxed_is points pivot cells full few inside still sized a b p q =
      (grid_filled kind points (relaxed kind pivot (in_draft kind cells)) (λ j c. cond (eqb j pivot) c (relaxed_row kind points pivot j c)) cells full few
      (λ j c l h. cond_both (eqb j pivot) c (relaxed_row kind points pivot j c) (RowFilled kind j (relaxed kind pivot (in_draft kind cells) j) c points)
      (λ t. pivot_row points pivot cells few still sized j c (eqb-true j pivot t) l h)
      (λ t. other_row points pivot cells few inside still sized j c (eqb-false j pivot t) l h))
      ).done a b p q

  -- a round keeps every cell outside the points
  pub relaxed_outside : (points pivot : ℕ) (cells : List B) → points ≤ 13 → (a b : ℕ) → b < 13 → (points ≤ a) ⊎ (points ≤ b) → in_draft kind (relaxed_cells kind points pivot cells) a b ≡ in_draft kind cells a b
  relaxed_outside points pivot cells few a b q out =
      times_keeps (λ j c. cond (eqb j pivot) c (relaxed_row kind points pivot j c)) (λ c. in_draft kind c a b ≡ in_draft kind cells a b) points cells
      (λ j c l h. cond_both (eqb j pivot) c (relaxed_row kind points pivot j c) (λ d. in_draft kind d a b ≡ in_draft kind cells a b)
      (λ _. h)
      (λ _. times_keeps (λ i d. lowered kind j i (kind.sum (in_draft kind c j pivot) (in_draft kind d pivot i)) d) (λ d. in_draft kind d a b ≡ in_draft kind cells a b) points c
      (λ i d k g. put_other kind j i (lesser kind (in_draft kind d j i) (kind.sum (in_draft kind c j pivot) (in_draft kind d pivot i))) d a b (omega arith) q (λ s t. ⊎_elim (λ (u : points ≤ a). omega arith) (λ (u : points ≤ b). omega arith) out) ∙ g)
      h))
      refl

  -- ---- narrowing
  -- two tests of which at most one holds
  either_test : {X : Type 0} (t u : Bool) (f : X → X) (v x : X) → (t ≡ true → u ≡ false) → cond u (f (cond t v x)) (cond t v x) ≡ cond t v (cond u (f x) x)
  either_test true true f v x apart = absurd (false≢true (sym (apart refl)))
  either_test true false f v x apart = refl
  either_test false true f v x apart = refl
  either_test false false f v x apart = refl

  pub narrowed_is : (token : ℕ) (range : Range B) (cells : List B) → length cells ≡ 169 → 1 ≤ token → token < 13 → (a b : ℕ) → a < 13 → b < 13 → in_draft kind (narrowed_cells kind token range cells) a b ≡ narrowed kind token range (in_draft kind cells) a b
  narrowed_is token range cells full first inside a b p q =
      let c = lowered kind token 0 range.upper cells in
      let x = in_draft kind cells a b in
      let one : in_draft kind c a b ≡ cond (eqb a token && eqb b 0) (lesser kind x range.upper) x = lowered_at kind token 0 range.upper cells a b full inside (omega arith) p q in
      lowered_at kind 0 token range.lower c a b (length-lowered kind token 0 range.upper cells ∙ full) (omega arith) inside p q
      ∙ ap (λ y. cond (eqb a 0 && eqb b token) (lesser kind y range.lower) y) one
      ∙ either_test (eqb a token && eqb b 0) (eqb a 0 && eqb b token) (λ y. lesser kind y range.lower) (lesser kind x range.upper) x
      (λ t. and_left (eqb a 0) (eqb b token) (ne_eqb a 0 (λ e. omega (arith, eqb-true a token (and_parts (eqb a token) (eqb b 0) t).0))))

  pub matched_more : (arc : Arc B) (arcs : List (Arc B)) (d : ℕ) (ds : List ℕ) (cells : List B) → matched_cells kind (arc ∷ arcs) (d ∷ ds) cells ≡ matched_cells kind arcs ds (cond (eqb d 0) cells (narrowed_cells kind d arc.range cells))
  matched_more arc arcs d ds cells = times_first (λ a c. cond (eqb (get_or (d ∷ ds) a 0) 0) c (narrowed_cells kind (get_or (d ∷ ds) a 0) (arc_at kind (arc ∷ arcs) a).range c)) (length arcs) cells

  matched_from : (arcs : List (Arc B)) (matching : List ℕ) (cells : List B) (x : Matrix B) → length cells ≡ 169 → length matching ≡ length arcs → ((a : ℕ) → a < length arcs → get_or matching a 0 < 13) → ((a b : ℕ) → a < 13 → b < 13 → in_draft kind cells a b ≡ x a b) → (a b : ℕ) → a < 13 → b < 13 → in_draft kind (matched_cells kind arcs matching cells) a b ≡ narrowed_by kind arcs matching x a b
  matched_from [] ds cells x full many inside same a b p q = same a b p q
  matched_from (arc ∷ arcs) [] cells x full many inside same a b p q = absurd (omega arith)
  matched_from (arc ∷ arcs) (zero ∷ ds) cells x full many inside same a b p q =
      ap (λ c. in_draft kind c a b) (matched_more arc arcs 0 ds cells)
      ∙ matched_from arcs ds cells x full (omega arith) (λ k l. inside (suc k) (omega arith)) same a b p q
  matched_from (arc ∷ arcs) (suc d ∷ ds) cells x full many inside same a b p q =
      let c = narrowed_cells kind (suc d) arc.range cells in
      ap (λ w. in_draft kind w a b) (matched_more arc arcs (suc d) ds cells ∙ ap (matched_cells kind arcs ds) (cond-false (eqb (suc d) 0) cells c (ne_eqb (suc d) 0 (λ e. omega arith))))
      ∙ matched_from arcs ds c (narrowed kind (suc d) arc.range x) (length-narrowed kind (suc d) arc.range cells ∙ full) (omega arith) (λ k l. inside (suc k) (omega arith))
      (λ j i l k. narrowed_is (suc d) arc.range cells full (omega arith) (inside 0 (omega arith)) j i l k
      ∙ ap (λ y. cond (eqb j (suc d) && eqb i 0) (lesser kind y arc.range.upper) (cond (eqb j 0 && eqb i (suc d)) (lesser kind y arc.range.lower) y)) (same j i l k))
      a b p q

  pub matched_is : (arcs : List (Arc B)) (matching : List ℕ) (cells : List B) → length cells ≡ 169 → length matching ≡ length arcs → ((a : ℕ) → a < length arcs → get_or matching a 0 < 13) → (a b : ℕ) → a < 13 → b < 13 → in_draft kind (matched_cells kind arcs matching cells) a b ≡ narrowed_by kind arcs matching (in_draft kind cells) a b
  matched_is arcs matching cells full many inside a b p q = matched_from arcs matching cells (in_draft kind cells) full many inside (λ j i l k. refl) a b p q

  -- ---- taking tokens off
  pub picked_is : (kept : List ℕ) (points : ℕ) (cells : List B) → length cells ≡ 169 → points ≤ 13 → Rising kept points → Same points (in_draft kind (picked_cells kind kept points cells)) (picked kept (in_draft kind cells))
  picked_is kept points cells full few rising a b p q =
      (grid_filled kind points (picked kept (in_draft kind cells)) (λ j c. moved_row kind kept points j c) cells full few
      (λ j c l h. row_filled kind j points (picked kept (in_draft kind cells) j) (λ i d. in_draft kind d (get_or kept j 0) (get_or kept i 0)) c h.long (omega arith) few
      (λ i d k r.
      let row = rising.from j l in
      let column = rising.from i k in
      r.left (get_or kept j 0) (get_or kept i 0) (rising.inside i k) (λ s t. omega arith)
      ∙ h.left (get_or kept j 0) (get_or kept i 0) (rising.inside i k) (λ s t. omega arith)))
      ).done a b p q

  -- ---- adding a token
  -- the cells of all other points stay
  linked_other : (range : Range B) (n i : ℕ) (c : List B) → n < 13 → i < 13 → (a b : ℕ) → b < 13 → (a ≡ n → ⊥) → (b ≡ n → ⊥) → in_draft kind (linked kind range n i c) a b ≡ in_draft kind c a b
  linked_other range n i c inside l a b q other apart =
      put_other_column kind i n (kind.sum (in_draft kind c i 0) range.lower) (put n i (kind.sum range.upper (in_draft kind c 0 i)) c) a b inside q apart
      ∙ put_other_row kind n i (kind.sum range.upper (in_draft kind c 0 i)) c a b l q other

  pub added_other : (range : Range B) (n : ℕ) (cells : List B) → n < 13 → (a b : ℕ) → b < 13 → (a ≡ n → ⊥) → (b ≡ n → ⊥) → in_draft kind (added_cells kind range n cells) a b ≡ in_draft kind cells a b
  added_other range n cells inside a b q other apart =
      put_other_column kind n n kind.zero (times n (λ i c. linked kind range n i c) cells) a b inside q apart
      ∙ times_keeps (λ i c. linked kind range n i c) (λ c. in_draft kind c a b ≡ in_draft kind cells a b) n cells (λ i c l h. linked_other range n i c inside (omega arith) a b q other apart ∙ h) refl

  pub added_old : (range : Range B) (n : ℕ) (cells : List B) → n < 13 → (a b : ℕ) → a < n → b < n → in_draft kind (added_cells kind range n cells) a b ≡ in_draft kind cells a b
  added_old range n cells inside a b p q = added_other range n cells inside a b (omega arith) (λ e. omega arith) (λ e. omega arith)

  -- the new point is linked with the first k points
  record Linked (range : Range B) (n : ℕ) (cells : List B) (k : ℕ) (c : List B) : Type 0 where
    long : length c ≡ 169
    left : (a b : ℕ) → b < 13 → (a ≡ n → ⊥) → (b ≡ n → ⊥) → in_draft kind c a b ≡ in_draft kind cells a b
    row : (b : ℕ) → b < k → in_draft kind c n b ≡ kind.sum range.upper (in_draft kind cells 0 b)
    column : (a : ℕ) → a < k → in_draft kind c a n ≡ kind.sum (in_draft kind cells a 0) range.lower

  linked_more : (range : Range B) (n : ℕ) (cells : List B) → 1 ≤ n → n < 13 → (i : ℕ) (c : List B) → i < n → Linked range n cells i c → Linked range n cells (suc i) (linked kind range n i c)
  linked_more range n cells first inside i c l h =
      let up = kind.sum range.upper (in_draft kind c 0 i) in
      let low = kind.sum (in_draft kind c i 0) range.lower in
      let d = put n i up c in
      let long : length d ≡ 169 = length-put n i up c ∙ h.long in
      let ups : up ≡ kind.sum range.upper (in_draft kind cells 0 i) = ap (kind.sum range.upper) (h.left 0 i (omega arith) (λ e. omega arith) (λ e. omega arith)) in
      let lows : low ≡ kind.sum (in_draft kind cells i 0) range.lower = ap (λ z. kind.sum z range.lower) (h.left i 0 (omega arith) (λ e. omega arith) (λ e. omega arith)) in
      record {
        long = length-put i n low d ∙ long;
        left = λ a b q other apart. linked_other range n i c inside (omega arith) a b q other apart ∙ h.left a b q other apart;
        row = λ b k.
            put_other_row kind i n low d n b inside (omega arith) (λ e. omega arith)
            ∙ ⊎_elim
            (λ same. ap (λ m. in_draft kind d n m) same ∙ put_same kind n i up c h.long inside (omega arith) ∙ ups ∙ ap (λ m. kind.sum range.upper (in_draft kind cells 0 m)) (sym same))
            (λ apart. put_other_column kind n i up c n b (omega arith) (omega arith) apart ∙ h.row b (omega arith))
            (cases_eq b i);
        column = λ a k.
            ⊎_elim
            (λ same. ap (λ m. in_draft kind (put i n low d) m n) same ∙ put_same kind i n low d long (omega arith) inside ∙ lows ∙ ap (λ m. kind.sum (in_draft kind cells m 0) range.lower) (sym same))
            (λ apart. put_other_row kind i n low d a n inside inside apart ∙ put_other_row kind n i up c a n (omega arith) inside (λ e. omega arith) ∙ h.column a (omega arith))
            (cases_eq a i);
      }

  all_linked : (range : Range B) (n : ℕ) (cells : List B) → length cells ≡ 169 → 1 ≤ n → n < 13 → Linked range n cells n (times n (λ i c. linked kind range n i c) cells)
  all_linked range n cells full first inside =
      times_leads (λ i c. linked kind range n i c) (Linked range n cells) n cells (λ i c l h. linked_more range n cells first inside i c l h)
      (record { long = full; left = λ a b q other apart. refl; row = λ b l. absurd (omega arith); column = λ a l. absurd (omega arith) })

  pub added_row : (range : Range B) (n : ℕ) (cells : List B) → length cells ≡ 169 → 1 ≤ n → n < 13 → (b : ℕ) → b < n → in_draft kind (added_cells kind range n cells) n b ≡ kind.sum range.upper (in_draft kind cells 0 b)
  added_row range n cells full first inside b q =
      put_other_column kind n n kind.zero (times n (λ i c. linked kind range n i c) cells) n b inside (omega arith) (λ e. omega arith)
      ∙ (all_linked range n cells full first inside).row b q

  pub added_column : (range : Range B) (n : ℕ) (cells : List B) → length cells ≡ 169 → 1 ≤ n → n < 13 → (a : ℕ) → a < n → in_draft kind (added_cells kind range n cells) a n ≡ kind.sum (in_draft kind cells a 0) range.lower
  added_column range n cells full first inside a p =
      put_other_row kind n n kind.zero (times n (λ i c. linked kind range n i c) cells) a n inside inside (λ e. omega arith)
      ∙ (all_linked range n cells full first inside).column a p

  pub added_self : (range : Range B) (n : ℕ) (cells : List B) → length cells ≡ 169 → n < 13 → in_draft kind (added_cells kind range n cells) n n ≡ kind.zero
  added_self range n cells full inside =
      put_same kind n n kind.zero (times n (λ i c. linked kind range n i c) cells)
      (times_keeps (λ i c. linked kind range n i c) (λ c. length c ≡ 169) n cells (λ i c l h. length-linked kind range n i c ∙ h) full)
      inside inside

  -- a token for the first arc, then for the rest
  pub inputs_more : (arc : Arc B) (arcs : List (Arc B)) (n : ℕ) (cells : List B) → input_cells kind (arc ∷ arcs) n cells ≡ input_cells kind arcs (suc n) (added_cells kind arc.range n cells)
  inputs_more arc arcs n cells =
      let e : n + 0 ≡ n = omega arith in
      times_first (λ a c. added_cells kind (arc_at kind (arc ∷ arcs) a).range (n + a) c) (length arcs) cells
      ∙ ap (λ m. times (length arcs) (λ a c. added_cells kind (arc_at kind arcs a).range (n + suc a) c) (added_cells kind arc.range m cells)) e
      ∙ times_same (λ a c. added_cells kind (arc_at kind arcs a).range (n + suc a) c) (λ a c. added_cells kind (arc_at kind arcs a).range (suc n + a) c) (length arcs) (added_cells kind arc.range n cells)
      (λ a c l. let f : n + suc a ≡ suc n + a = omega arith in ap (λ m. added_cells kind (arc_at kind arcs a).range m c) f)

  -- ---- the delay predecessor
  delayed_stays : (points : ℕ) (cells : List B) → points ≤ 13 → (a b : ℕ) → b < 13 → (a ≡ 0 → 1 ≤ b → ⊥) → in_draft kind (delayed_cells kind points cells) a b ≡ in_draft kind cells a b
  delayed_stays points cells few a b q out =
      times_keeps (λ i c. cond (eqb i 0) c (put 0 i (column_least kind points i c) c)) (λ c. in_draft kind c a b ≡ in_draft kind cells a b) points cells
      (λ i c l h. cond_both (eqb i 0) c (put 0 i (column_least kind points i c) c) (λ d. in_draft kind d a b ≡ in_draft kind cells a b)
      (λ _. h)
      (λ t. let ne = eqb-false i 0 t in put_other kind 0 i (column_least kind points i c) c a b (omega arith) q (λ e f. out e (omega arith)) ∙ h))
      refl

  pub delayed_row : (points : ℕ) (cells : List B) → points ≤ 13 → (j i : ℕ) → 1 ≤ j → i < 13 → in_draft kind (delayed_cells kind points cells) j i ≡ in_draft kind cells j i
  delayed_row points cells few j i p q = delayed_stays points cells few j i q (λ e f. omega arith)

  pub delayed_first : (points : ℕ) (cells : List B) → points ≤ 13 → (j : ℕ) → in_draft kind (delayed_cells kind points cells) j 0 ≡ in_draft kind cells j 0
  delayed_first points cells few j = delayed_stays points cells few j 0 (omega arith) (λ e f. omega arith)

  -- the least of a column depends on its rows from 1 on alone
  least_same : (n i : ℕ) (c d : List B) → ((j : ℕ) → 1 ≤ j → j < n → in_draft kind c j i ≡ in_draft kind d j i) → column_least kind n i c ≡ column_least kind n i d
  least_same zero i c d same = refl
  least_same (suc n) i c d same =
      let e = least_same n i c d (λ j p q. same j p (omega arith)) in
      ap (λ z. cond (eqb n 0) z (lesser kind (in_draft kind c n i) z)) e
      ∙ ⊎_elim
      (λ t. cond-true (eqb n 0) (column_least kind n i d) (lesser kind (in_draft kind c n i) (column_least kind n i d)) t ∙ sym (cond-true (eqb n 0) (column_least kind n i d) (lesser kind (in_draft kind d n i) (column_least kind n i d)) t))
      (λ t. let ne = eqb-false n 0 t in ap (λ z. cond (eqb n 0) (column_least kind n i d) (lesser kind z (column_least kind n i d))) (same n (omega arith) (omega arith)))
      (cases_Bool (eqb n 0))

  -- the first k cells of the clock's row hold the least of their columns
  record Delayed (points : ℕ) (cells : List B) (k : ℕ) (c : List B) : Type 0 where
    long : length c ≡ 169
    left : (a b : ℕ) → b < 13 → 1 ≤ a → in_draft kind c a b ≡ in_draft kind cells a b
    done : (b : ℕ) → 1 ≤ b → b < k → in_draft kind c 0 b ≡ column_least kind points b cells

  delayed_more : (points : ℕ) (cells : List B) → points ≤ 13 → (i : ℕ) (c : List B) → i < points → Delayed points cells i c → Delayed points cells (suc i) (put 0 i (column_least kind points i c) c)
  delayed_more points cells few i c l h =
      let v = column_least kind points i c in
      record {
        long = length-put 0 i v c ∙ h.long;
        left = λ a b q p. put_other_row kind 0 i v c a b (omega arith) q (λ e. omega arith) ∙ h.left a b q p;
        done = λ b p q.
            ⊎_elim
            (λ same. ap (λ m. in_draft kind (put 0 i v c) 0 m) same ∙ put_same kind 0 i v c h.long (omega arith) (omega arith) ∙ least_same points i c cells (λ j r s. h.left j i (omega arith) r) ∙ ap (λ m. column_least kind points m cells) (sym same))
            (λ apart. put_other_column kind 0 i v c 0 b (omega arith) (omega arith) apart ∙ h.done b p (omega arith))
            (cases_eq b i);
      }

  pub delayed_least : (points : ℕ) (cells : List B) → length cells ≡ 169 → points ≤ 13 → (i : ℕ) → 1 ≤ i → i < points → in_draft kind (delayed_cells kind points cells) 0 i ≡ column_least kind points i cells
  delayed_least points cells full few i p q =
      (times_leads (λ k c. cond (eqb k 0) c (put 0 k (column_least kind points k c) c)) (Delayed points cells) points cells
      (λ k c l h. cond_both (eqb k 0) c (put 0 k (column_least kind points k c) c) (Delayed points cells (suc k))
      (λ t. let e = eqb-true k 0 t in record { long = h.long; left = h.left; done = λ b u v. absurd (omega arith) })
      (λ t. delayed_more points cells few k c l h))
      (record { long = full; left = λ a b u v. refl; done = λ b u v. absurd (omega arith) })
      ).done i p q

  pub least_zero : (points i : ℕ) (cells : List B) → kind.at_most (column_least kind points i cells) kind.zero ≡ true
  least_zero points i cells =
      times_keeps (λ j b. cond (eqb j 0) b (lesser kind (in_draft kind cells j i) b)) (λ b. kind.at_most b kind.zero ≡ true) points kind.zero
      (λ j b l h. cond_both (eqb j 0) b (lesser kind (in_draft kind cells j i) b) (λ c. kind.at_most c kind.zero ≡ true)
      (λ _. h)
      (λ _. kind.transitive (lesser kind (in_draft kind cells j i) b) b kind.zero (lesser_right kind (in_draft kind cells j i) b) h))
      (at_most_same kind kind.zero)

  pub least_below : (points i : ℕ) (cells : List B) (j : ℕ) → 1 ≤ j → j < points → kind.at_most (column_least kind points i cells) (in_draft kind cells j i) ≡ true
  least_below points i cells j p q =
      times_leads (λ k b. cond (eqb k 0) b (lesser kind (in_draft kind cells k i) b)) (λ n b. (m : ℕ) → 1 ≤ m → m < n → kind.at_most b (in_draft kind cells m i) ≡ true) points kind.zero
      (λ n b l h. cond_both (eqb n 0) b (lesser kind (in_draft kind cells n i) b) (λ c. (m : ℕ) → 1 ≤ m → m < suc n → kind.at_most c (in_draft kind cells m i) ≡ true)
      (λ t m u v. let e = eqb-true n 0 t in absurd (omega arith))
      (λ t m u v.
      ⊎_elim
      (λ same. subst (λ k. kind.at_most (lesser kind (in_draft kind cells n i) b) (in_draft kind cells k i) ≡ true) (sym same) (lesser_left kind (in_draft kind cells n i) b))
      (λ apart. kind.transitive (lesser kind (in_draft kind cells n i) b) b (in_draft kind cells m i) (lesser_right kind (in_draft kind cells n i) b) (h m u (omega arith)))
      (cases_eq m n)))
      (λ m u v. absurd (omega arith))
      j p q

  -- zero, or a bound of the column
  abbrev LeastOf : ℕ → List B → ℕ → B → Type 0
  LeastOf i cells n b = (b ≡ kind.zero) ⊎ ((j : ℕ) × (1 ≤ j) × (j < n) × (b ≡ in_draft kind cells j i))

  least_later : (i : ℕ) (cells : List B) (n : ℕ) (b : B) → LeastOf i cells n b → LeastOf i cells (suc n) b
  least_later i cells n b (inl e) = inl e
  least_later i cells n b (inr h) = let l = h.2 in inr (h.0, h.1, omega arith, h.3)

  pub least_reached : (points i : ℕ) (cells : List B) → (column_least kind points i cells ≡ kind.zero) ⊎ ((j : ℕ) × (1 ≤ j) × (j < points) × (column_least kind points i cells ≡ in_draft kind cells j i))
  least_reached points i cells =
      times_leads (λ j b. cond (eqb j 0) b (lesser kind (in_draft kind cells j i) b)) (LeastOf i cells) points kind.zero
      (λ n b l h. cond_both (eqb n 0) b (lesser kind (in_draft kind cells n i) b) (LeastOf i cells (suc n))
      (λ _. least_later i cells n b h)
      (λ t. let ne = eqb-false n 0 t in
      ⊎_elim
      (λ e. inr (n, omega arith, omega arith, e))
      (λ e. subst (LeastOf i cells (suc n)) (sym e) (least_later i cells n b h))
      (lesser_cases kind (in_draft kind cells n i) b)))
      (inl refl)

  -- the least of a column is no larger than its bounds
  pub least_size : (points i : ℕ) (cells : List B) (s : ℕ) → ((j : ℕ) → 1 ≤ j → j < points → kind.size (in_draft kind cells j i) ≤ s) → kind.size (column_least kind points i cells) ≤ s
  least_size points i cells s small =
      times_keeps (λ j b. cond (eqb j 0) b (lesser kind (in_draft kind cells j i) b)) (λ b. kind.size b ≤ s) points kind.zero
      (λ j b l h. cond_both (eqb j 0) b (lesser kind (in_draft kind cells j i) b) (λ c. kind.size c ≤ s)
      (λ _. h)
      (λ t. let ne = eqb-false j 0 t in lesser_size kind (in_draft kind cells j i) b s (small j (omega arith) l) h))
      (omega (arith, kind.zero_size))
