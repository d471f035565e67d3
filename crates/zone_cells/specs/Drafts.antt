-- A zone that stands in a draft or in a page.
use Rattle.std.specs.Prelude.{◌≡◌, ℕ, ◌^◌, ◌≤◌, List, length}
use Rattle.bounds.specs.Kinds.{Kind}
use Rattle.zones.specs.Zones.{Zone, InNormalForm, SizedZone}
use Rattle.zone_cells.specs.Cells.{in_draft, in_page}
use Rattle.zone_cells.specs.Sizes.{draft_cells}

abbrev pub draft_zone : {B : Type 0} → Kind B → List ℕ → List B → Zone B
draft_zone kind places cells = record { places = places; bound = in_draft kind cells }

abbrev pub page_zone : {B : Type 0} → Kind B → List ℕ → List B → Zone B
page_zone kind places cells = record { places = places; bound = in_page kind cells }

-- a listed zone has at most so many tokens
abbrev pub most_tokens : ℕ
most_tokens = 8

-- the normal form of a record's zone has no larger bound: nine legs of less than 2^18 each
abbrev pub largest_listed : ℕ
largest_listed = 2 ^ 22

-- nor has a predecessor
abbrev pub largest_predecessor : ℕ
largest_predecessor = 2 ^ 27

-- a zone as a page holds it, and so as the predecessors want it
pub record PageFormed {B : Type 0} (kind : Kind B) (z : Zone B) : Type 0 where
  pub few : length z.places ≤ most_tokens
  pub normal : InNormalForm kind z
  pub small : SizedZone kind largest_listed z

-- such a zone in whole cells
pub record Workable {B : Type 0} (kind : Kind B) (places : List ℕ) (cells : List B) : Type 0 where
  pub full : length cells ≡ draft_cells
  pub formed : PageFormed kind (draft_zone kind places cells)
