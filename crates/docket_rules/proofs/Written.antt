-- A docket's pages after one was written: that page holds its zone's normal form, and the pages before it are as they were.
use Rattle.std.proofs.Common.{◌≡◌, ℕ, ◌*◌, ◌<◌, ◌≤◌, true, eqb, List, length, take, drop, get_or, sym, ap, ◌∙◌, subst, arith}
use Rattle.std.proofs.lemmas.Bool.{and_parts, eqb-true}
use Rattle.bounds.specs.Kinds.{Kind}
use Rattle.zone_cells.specs.Sizes.{draft_cells}
use Rattle.zone_cells.specs.Drafts.{page_zone}
use Rattle.zones.specs.Zones.{Zone}
use Rattle.docket_rules.specs.Calls.{PageWritten, cells_of, page_places_of}
use Rattle.docket_rules.specs.Worlds.{World, book_cells, book_places, book_whole, page_of, whole, with_scratch}
use Rattle.docket_rules.proofs.Agrees.{PageAgrees}
use Rattle.docket_rules.proofs.Pages.{formed_held, normal_held, page_holds, page_old, page_then, length-cells_of, length-page_places_of, length-with_page}

-- ---- memory of the stated lengths
pub record Whole {B : Type 0} (w : World B) : Type 0 where
  pub cells : length w.cells ≡ book_cells
  pub places : length w.places ≡ book_places

pub whole_parts : {B : Type 0} (w : World B) (scratch : List B) → whole (with_scratch w scratch) ≡ true → Whole w
whole_parts w scratch e =
    let parts = and_parts (book_whole w) (eqb (length scratch) draft_cells) e in
    let book = and_parts (eqb (length w.cells) book_cells) (eqb (length w.places) book_places) parts.0 in
    record { cells = eqb-true (length w.cells) book_cells book.0; places = eqb-true (length w.places) book_places book.1 }

module _ {B : Type 0} (kind : Kind B) (p : ℕ) (z : Zone B) (before after : World B) (page : PageWritten kind p z before after) (full : Whole before) (below : p < 64) where
  pub whole_after : Whole after
  whole_after =
      record {
        cells = ap length page.cells ∙ length-with_page 81 p (cells_of kind page.form) before.cells (length-cells_of kind page.form page.formed.few) (omega (arith, below, full.cells)) ∙ full.cells;
        places = ap length page.places ∙ length-with_page 8 p (page_places_of page.form) before.places (length-page_places_of kind page.form page.formed.few) (omega (arith, below, full.places)) ∙ full.places;
      }

  pub page_agrees : get_or after.state.counts p 0 ≡ length z.places → PageAgrees kind z (page_of kind after p)
  page_agrees count =
      let form = page.form in
      let cells_inside : 81 * p ≤ length before.cells = omega (arith, below, full.cells) in
      let places_inside : 8 * p ≤ length before.places = omega (arith, below, full.places) in
      let then = page_then kind form page.formed.few p before.cells before.places cells_inside places_inside in
      let same = page_holds kind form page.formed.few p before.cells before.places cells_inside places_inside in
      let is : page_of kind after p ≡ then =
      ap (λ n. page_zone kind (take n (drop (8 * p) after.places)) (take 81 (drop (81 * p) after.cells))) (count ∙ sym (ap length page.normal.places))
      ∙ ap (λ l. page_zone kind (take (length form.places) (drop (8 * p) l)) (take 81 (drop (81 * p) after.cells))) page.places
      ∙ ap (λ l. page_zone kind then.places (take 81 (drop (81 * p) l))) page.cells in
      subst (PageAgrees kind z) (sym is) (record { normal = normal_held kind z form then same page.normal; formed = formed_held kind z form then same page.formed })

  -- a page before it
  module _ (q : ℕ) (earlier : q < p) (few : get_or before.state.counts q 0 ≤ 8) (count : get_or after.state.counts q 0 ≡ get_or before.state.counts q 0) where
    pub page_kept : page_of kind after q ≡ page_of kind before q
    page_kept =
        let n = get_or before.state.counts q 0 in
        let cells = page_old 81 p (cells_of kind page.form) before.cells (81 * q) 81 (omega (arith, earlier)) (omega (arith, below, full.cells)) in
        let places = page_old 8 p (page_places_of page.form) before.places (8 * q) n (omega (arith, earlier, few)) (omega (arith, below, full.places)) in
        ap (λ k. page_zone kind (take k (drop (8 * q) after.places)) (take 81 (drop (81 * q) after.cells))) count
        ∙ ap (λ l. page_zone kind l (take 81 (drop (81 * q) after.cells))) (ap (λ l. take n (drop (8 * q) l)) page.places ∙ places)
        ∙ ap (λ l. page_zone kind (take n (drop (8 * q) before.places)) l) (ap (λ l. take 81 (drop (81 * q) l)) page.cells ∙ cells)

    pub page_still_agrees : (y : Zone B) → PageAgrees kind y (page_of kind before q) → PageAgrees kind y (page_of kind after q)
    page_still_agrees y a = subst (PageAgrees kind y) (sym page_kept) a
