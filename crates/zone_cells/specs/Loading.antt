-- A zone written into a draft and brought to normal form.
use Rattle.std.specs.Prelude.{ℕ, Bool, true, false, List, [], ◌∷◌, take}
use Rattle.bounds.specs.Kinds.{Kind}
use Rattle.zones.specs.Zones.{Zone, Inconsistent, NormalOf, points}
use Rattle.zone_walks.specs.Walks.{counted}
use Rattle.zone_cells.specs.Cells.{written}
use Rattle.zone_cells.specs.Drafts.{draft_zone, Workable}
use Rattle.zone_cells.specs.Settling.{eliminated}

-- ---- every point of a listed zone as a pivot
abbrev pub nine_points : List ℕ
nine_points = 0 ∷ 1 ∷ 2 ∷ 3 ∷ 4 ∷ 5 ∷ 6 ∷ 7 ∷ 8 ∷ []

-- ---- the cells and the answer that are left, whatever the cells held before
abbrev pub zone_eliminated : {B : Type 0} → Kind B → Zone B → List B → List B × Bool
zone_eliminated kind z cells =
    eliminated kind (points z) (take (points z) nine_points)
    (written (counted kind z.bound) (points z) cells)

-- ---- the cells hold the normal form of z, which is consistent
pub record DraftFormed {B : Type 0} (kind : Kind B) (z : Zone B) (cells : List B) : Type 0 where
  pub normal : NormalOf kind z (draft_zone kind z.places cells)
  pub consistent : Inconsistent kind z → ⊥
  pub workable : Workable kind z.places cells

-- true with the normal form, false where z is inconsistent
abbrev pub DraftFormedOr : {B : Type 0} → Kind B → Zone B → List B → Bool → Type 0
DraftFormedOr kind z cells true = DraftFormed kind z cells
DraftFormedOr kind z cells false = Inconsistent kind z
