-- Sizes of lent memory, by what it is lent for.
--     page      a zone of up to 8 tokens, (j,i) at 9 j + i, and the places of its tokens
--     draft     a zone of up to 12 tokens that is worked on, (j,i) at 13 j + i
use Rattle.std.specs.Prelude.{ℕ}

abbrev pub page_row : ℕ
page_row = 9

abbrev pub page_cells : ℕ
page_cells = 81

abbrev pub page_places : ℕ
page_places = 8

abbrev pub draft_row : ℕ
draft_row = 13

abbrev pub draft_cells : ℕ
draft_cells = 169
