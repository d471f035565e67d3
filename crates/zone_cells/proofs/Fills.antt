-- Loops that fill a row of a draft, cell after cell, and loops that fill row after row.
use Rattle.std.proofs.Common.{◌≡◌, ℕ, suc, ◌<◌, ◌≤◌, List, length, sym, refl, ap, ◌∙◌, ⊎_elim, arith}
use Rattle.std.proofs.lemmas.Bool.{cases_eq}
use Rattle.bounds.specs.Kinds.{Kind}
use Rattle.zone_cells.specs.Cells.{times, in_draft, put}
use Rattle.zone_cells.proofs.Grid.{times_leads, length-put, put_same, put_other}

-- the first n cells of row j hold new bounds, and all others what they held in the given cells
pub record RowFilled {B : Type 0} (kind : Kind B) (j : ℕ) (new : ℕ → B) (cells : List B) (n : ℕ) (c : List B) : Type 0 where
  pub long : length c ≡ 169
  pub done : (b : ℕ) → b < n → in_draft kind c j b ≡ new b
  pub left : (a b : ℕ) → b < 13 → (a ≡ j → b < n → ⊥) → in_draft kind c a b ≡ in_draft kind cells a b

-- the first so many cells of the first n rows hold new bounds
pub record GridFilled {B : Type 0} (kind : Kind B) (points : ℕ) (new : ℕ → ℕ → B) (cells : List B) (n : ℕ) (c : List B) : Type 0 where
  pub long : length c ≡ 169
  pub done : (a b : ℕ) → a < n → b < points → in_draft kind c a b ≡ new a b
  pub left : (a b : ℕ) → b < 13 → (a < n → b < points → ⊥) → in_draft kind c a b ≡ in_draft kind cells a b

module _ {B : Type 0} (kind : Kind B) where
  -- one cell more
  pub row_more : (j : ℕ) (new : ℕ → B) (cells : List B) (i : ℕ) (c : List B) (v : B) → j < 13 → i < 13 → v ≡ new i → RowFilled kind j new cells i c → RowFilled kind j new cells (suc i) (put j i v c)
  row_more j new cells i c v p q e h =
      record {
        long = length-put j i v c ∙ h.long;
        done = λ b l.
            ⊎_elim
            (λ same. ap (λ k. in_draft kind (put j i v c) j k) same ∙ put_same kind j i v c h.long p q ∙ e ∙ ap new (sym same))
            (λ apart. put_other kind j i v c j b q (omega arith) (λ _ same. apart same) ∙ h.done b (omega arith))
            (cases_eq b i);
        left = λ a b l out. put_other kind j i v c a b q l (λ s t. out s (omega arith)) ∙ h.left a b l (λ s t. out s (omega arith));
      }

  pub row_none : (j : ℕ) (new : ℕ → B) (cells : List B) → length cells ≡ 169 → RowFilled kind j new cells 0 cells
  row_none j new cells full = record { long = full; done = λ b l. absurd (omega arith); left = λ a b l out. refl }

  -- a loop that puts values into row j, where every value is the new one
  pub row_filled : (j points : ℕ) (new : ℕ → B) (value : ℕ → List B → B) (cells : List B) → length cells ≡ 169 → j < 13 → points ≤ 13 → ((i : ℕ) (c : List B) → i < points → RowFilled kind j new cells i c → value i c ≡ new i) → RowFilled kind j new cells points (times points (λ i c. put j i (value i c) c) cells)
  row_filled j points new value cells full p few is =
      times_leads (λ i c. put j i (value i c) c) (RowFilled kind j new cells) points cells
      (λ i c l h. row_more j new cells i c (value i c) p (omega arith) (is i c l h) h)
      (row_none j new cells full)

  -- one row more
  pub grid_more : (points : ℕ) (new : ℕ → ℕ → B) (cells : List B) (j : ℕ) (c d : List B) → points ≤ 13 → RowFilled kind j (new j) c points d → GridFilled kind points new cells j c → GridFilled kind points new cells (suc j) d
  grid_more points new cells j c d few r h =
      record {
        long = r.long;
        done = λ a b l k.
            ⊎_elim
            (λ same. ap (λ m. in_draft kind d m b) same ∙ r.done b k ∙ ap (λ m. new m b) (sym same))
            (λ apart. r.left a b (omega arith) (λ same _. apart same) ∙ h.done a b (omega arith) k)
            (cases_eq a j);
        left = λ a b l out. r.left a b l (λ s t. out (omega arith) t) ∙ h.left a b l (λ s t. out (omega arith) t);
      }

  pub grid_filled : (points : ℕ) (new : ℕ → ℕ → B) (row : ℕ → List B → List B) (cells : List B) → length cells ≡ 169 → points ≤ 13 → ((j : ℕ) (c : List B) → j < points → GridFilled kind points new cells j c → RowFilled kind j (new j) c points (row j c)) → GridFilled kind points new cells points (times points row cells)
  grid_filled points new row cells full few is =
      times_leads row (GridFilled kind points new cells) points cells
      (λ j c l h. grid_more points new cells j c (row j c) few (is j c l h) h)
      (record { long = full; done = λ a b l k. absurd (omega arith); left = λ a b l out. refl })
