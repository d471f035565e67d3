-- A book after a page was written: what that page holds, and the pages before it.
use Rattle.std.proofs.Common.{◌≡◌, ℕ, suc, ◌+◌, ◌*◌, ◌-◌, ◌/◌, ◌%◌, ◌<◌, ◌≤◌, cond, ◌&&◌, eqb, leb, List, ◌++◌, length, take, drop, replicate, take-append-drop, length-append, length-drop, sym, ap, ◌∙◌, subst, arith}
use Rattle.std.proofs.lemmas.Bool.{le-leb}
use Rattle.std.proofs.lemmas.List.{take-append-le, drop-append-le, length-take-le, length-replicate}
use Rattle.std.proofs.lemmas.List.FromFn.{get_or-map-range_with_len, length-map-range_with_len}
use Rattle.std.proofs.Math.Seq.{drop-append_seam, take-append_seam, take-length}
use Rattle.bounds.specs.Kinds.{Kind}
use Rattle.zone_cells.specs.Cells.{in_page}
use Rattle.zone_cells.specs.Drafts.{largest_listed, page_zone}
use Rattle.docket_dues.specs.Answered.{SameZone}
use Rattle.docket_dues.proofs.Same.{normal_same, sized_same}
use Rattle.zone_walks.specs.Walks.{counted}
use Rattle.zone_walks.proofs.Closed.{Same}
use Rattle.zone_walks.proofs.NormalForms.{same_back, same_to}
use Rattle.zones.specs.Zones.{Zone, NormalOf, points}
use Rattle.docket_rules.specs.Calls.{PageFormed, cell_of, cells_of, page_places_of, with_page}

-- ---- lists
module _ {X : Type 0} where
  -- a stretch of the first part
  take_drop_first : (m n : ℕ) (xs ys : List X) → n + m ≤ length xs → take m (drop n (xs ++ ys)) ≡ take m (drop n xs)
  take_drop_first m n xs ys inside =
      ap (take m) (drop-append-le n xs ys (omega (arith, inside))) ∙ take-append-le m (drop n xs) ys (omega (arith, inside, length-drop n xs))

  module _ (size p : ℕ) (items book : List X) where
    pub page_new : (n : ℕ) → size * p ≤ length book → n ≤ length items → take n (drop (size * p) (with_page size p items book)) ≡ take n items
    page_new n inside few =
        let front = take (size * p) book in
        let rest = items ++ drop (size * p + size) book in
        let past = subst (λ k. drop k (front ++ rest) ≡ rest) (length-take-le (size * p) book inside) (drop-append_seam front rest) in
        ap (take n) past ∙ take-append-le n items (drop (size * p + size) book) few

    -- a stretch before page p
    pub page_old : (first n : ℕ) → first + n ≤ size * p → size * p ≤ length book → take n (drop first (with_page size p items book)) ≡ take n (drop first book)
    page_old first n before inside =
        let front = take (size * p) book in
        let long = length-take-le (size * p) book inside in
        take_drop_first n first front (items ++ drop (size * p + size) book) (omega (arith, before, long))
        ∙ sym (take_drop_first n first front (drop (size * p) book) (omega (arith, before, long)))
        ∙ ap (λ l. take n (drop first l)) (take-append-drop (size * p) book)

    pub length-with_page : length items ≡ size → size * p + size ≤ length book → length (with_page size p items book) ≡ length book
    length-with_page whole inside =
        let front = take (size * p) book in
        let behind = drop (size * p + size) book in
        omega (arith, whole, inside, length-append front (items ++ behind), length-append items behind, length-take-le (size * p) book (omega (arith, inside)), length-drop (size * p + size) book)

-- ---- a zone as its page holds it
module _ {B : Type 0} (kind : Kind B) (form : Zone B) (few : length form.places ≤ 8) where
  abbrev cell : ℕ → B
  cell at = cell_of kind (length form.places) form.bound (at / 9) (at % 9)

  pub length-cells_of : length (cells_of kind form) ≡ 81
  length-cells_of = length-map-range_with_len cell 0 81

  pub length-page_places_of : length (page_places_of form) ≡ 8
  length-page_places_of = omega (arith, few, length-append form.places (replicate (8 - length form.places) 0), length-replicate {A = ℕ} (8 - length form.places) 0)

  cells_hold : (j i : ℕ) → j < points form → i < points form → in_page kind (cells_of kind form) j i ≡ form.bound j i
  cells_hold j i p q =
      let n = length form.places in
      let other = cond (eqb j i) kind.zero kind.no_limit in
      let rule : (9 * j + i) / 9 ≡ j = omega (arith, few, q) in
      let column : (9 * j + i) % 9 ≡ i = omega (arith, few, q) in
      get_or-map-range_with_len cell 0 81 (9 * j + i) (9 * j + i) kind.no_limit (omega (arith, few, p, q)) (omega arith)
      ∙ ap (λ k. cell_of kind n form.bound k ((9 * j + i) % 9)) rule
      ∙ ap (λ k. cell_of kind n form.bound j k) column
      ∙ ap (λ b. cond (b && leb i n) (form.bound j i) other) (le-leb j n (omega (arith, p)))
      ∙ ap (λ b. cond b (form.bound j i) other) (le-leb i n (omega (arith, q)))

  module _ (p : ℕ) (cells : List B) (places : List ℕ) (cells_inside : 81 * p ≤ length cells) (places_inside : 8 * p ≤ length places) where
    abbrev pub page_then : Zone B
    page_then = page_zone kind (take (length form.places) (drop (8 * p) (with_page 8 p (page_places_of form) places))) (take 81 (drop (81 * p) (with_page 81 p (cells_of kind form) cells)))

    pub page_holds : SameZone form page_then
    page_holds =
        let whole = subst (λ n. take n (cells_of kind form) ≡ cells_of kind form) length-cells_of (take-length (cells_of kind form)) in
        let held = page_new 81 p (cells_of kind form) cells 81 cells_inside (omega (arith, length-cells_of)) ∙ whole in
        record {
          places = page_new 8 p (page_places_of form) places (length form.places) places_inside (omega (arith, few, length-page_places_of)) ∙ take-append_seam form.places _;
          bounds = λ j i a b. ap (λ l. in_page kind l j i) held ∙ cells_hold j i a b;
        }

-- ---- so it holds what its form has
module _ {B : Type 0} (kind : Kind B) (z form page : Zone B) (same : SameZone form page) where
  pub normal_held : NormalOf kind z form → NormalOf kind z page
  normal_held normal =
      let alike : Same (points z) page.bound form.bound = subst (λ (ps : List ℕ). Same (suc (length ps)) page.bound form.bound) normal.places same.bounds in
      record { places = same.places ∙ normal.places; bounds = same_to kind (points z) (counted kind z.bound) form.bound page.bound (same_back kind (points z) page.bound form.bound alike) normal.bounds }

  pub formed_held : PageFormed kind form → PageFormed kind page
  formed_held formed =
      record {
        few = subst (λ (ps : List ℕ). length ps ≤ 8) (sym same.places) formed.few;
        normal = normal_same kind form page same formed.normal;
        small = sized_same kind form page same largest_listed formed.small;
      }
