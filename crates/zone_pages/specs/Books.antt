-- A page of the book as it is loaded into a draft.
use Rattle.std.specs.Prelude.{ℕ, suc, List, length, nat_le, if◌then◌else◌}
use Rattle.zone_cells.specs.Sizes.{page_places}

-- the points of a page with these places; more than eight are no page's
abbrev pub page_points : List ℕ → ℕ
page_points places = if nat_le (length places) page_places then suc (length places) else 0
