-- A page is written in one way alone: a zone has one normal form, and the cells are its bounds between its points.
use Rattle.std.proofs.Common.{◌≡◌, ℕ, ◌-◌, ◌/◌, ◌%◌, ◌≤◌, Bool, true, false, cond, ◌&&◌, eqb, leb, List, [], ◌∷◌, ◌++◌, map, length, replicate, refl, sym, ap, ◌∙◌, arith}
use Rattle.std.proofs.lemmas.Bool.{and_parts, leb-true}
use Rattle.std.specs.List.{range_with_len}
use Rattle.bounds.specs.Kinds.{Kind}
use Rattle.docket_rules.specs.Calls.{PageWritten, cell_of, cells_of, page_places_of, with_page}
use Rattle.zone_cells.specs.Sizes.{page_cells, page_places}
use Rattle.docket_rules.specs.Worlds.{World}
use Rattle.zone_walks.specs.Walks.{Matrix, counted}
use Rattle.zone_walks.proofs.NormalForms.{normal_unique}
use Rattle.zones.specs.Zones.{Zone, NormalOf, points}

-- ---- what is read only where a test passes
cond_same : {X : Type 0} (b : Bool) (x y other : X) → (b ≡ true → x ≡ y) → cond b x other ≡ cond b y other
cond_same true x y other e = e refl
cond_same false x y other e = refl

map_same : {X Y : Type 0} (f g : X → Y) → ((x : X) → f x ≡ g x) → (xs : List X) → map f xs ≡ map g xs
map_same f g e [] = refl
map_same f g e (x ∷ xs) = ap (λ y. y ∷ map f xs) (e x) ∙ ap (λ ys. g x ∷ ys) (map_same f g e xs)

module _ {B : Type 0} (kind : Kind B) where
  -- ---- bounds that agree between so many tokens, and the clock
  module _ (n : ℕ) (x y : Matrix B) (same : (j i : ℕ) → j ≤ n → i ≤ n → x j i ≡ y j i) where
    cell_same : (j i : ℕ) → cell_of kind n x j i ≡ cell_of kind n y j i
    cell_same j i =
        cond_same (leb j n && leb i n) (x j i) (y j i) (cond (eqb j i) kind.zero kind.no_limit)
        (λ e. let both = and_parts (leb j n) (leb i n) e in same j i (leb-true j n both.0) (leb-true i n both.1))

    cells_same : (cells : List ℕ) → map (λ at. cell_of kind n x (at / 9) (at % 9)) cells ≡ map (λ at. cell_of kind n y (at / 9) (at % 9)) cells
    cells_same cells = map_same _ _ (λ at. cell_same (at / 9) (at % 9)) cells

  -- ---- both are the normal form of one zone
  module _ (z x y : Zone B) (h : NormalOf kind z x) (k : NormalOf kind z y) where
    bounds_one : (j i : ℕ) → j ≤ length z.places → i ≤ length z.places → x.bound j i ≡ y.bound j i
    bounds_one j i p q = normal_unique kind (points z) (counted kind z.bound) x.bound y.bound h.bounds k.bounds j i (omega (arith, p)) (omega (arith, q))

    cells_one : cells_of kind x ≡ cells_of kind y
    cells_one =
        let cells = range_with_len 0 page_cells in
        ap (λ ps. map (λ at. cell_of kind (length ps) x.bound (at / 9) (at % 9)) cells) h.places
        ∙ cells_same (length z.places) x.bound y.bound bounds_one cells
        ∙ ap (λ ps. map (λ at. cell_of kind (length ps) y.bound (at / 9) (at % 9)) cells) (sym k.places)

    places_one : page_places_of x ≡ page_places_of y
    places_one = ap (λ ps. ps ++ replicate (page_places - length ps) 0) (h.places ∙ sym k.places)

  -- ---- the book after
  module _ (p : ℕ) (z : Zone B) (before after other : World B) (h : PageWritten kind p z before after) (k : PageWritten kind p z before other) where
    pub page_cells_one : after.cells ≡ other.cells
    page_cells_one = h.cells ∙ ap (λ l. with_page page_cells p l before.cells) (cells_one z h.form k.form h.normal k.normal) ∙ sym k.cells

    pub page_places_one : after.places ≡ other.places
    page_places_one = h.places ∙ ap (λ l. with_page page_places p l before.places) (places_one z h.form k.form h.normal k.normal) ∙ sym k.places
