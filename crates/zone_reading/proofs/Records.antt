-- A zone record in a draft.
use Rattle.std.proofs.Common.{◌≡◌, ℕ, ◌+◌, ◌≤◌, Bool, List, length, take, ap, ◌∙◌, subst₂, arith}
use Rattle.bounds.specs.Kinds.{Kind}
use Rattle.zone_walks.specs.Walks.{counted}
use Rattle.zones.specs.Zones.{points}
use Rattle.zone_cells.specs.Cells.{written}
use Rattle.zone_cells.specs.Loading.{nine_points, DraftFormedOr, zone_eliminated}
use Rattle.zone_cells.specs.Sizes.{draft_cells}
use Rattle.zone_cells.specs.Settling.{Settles}
use Rattle.zone_cells.proofs.Grid.{length-written}
use Rattle.zone_cells.proofs.Loading.{formed}
use Rattle.docket_records.specs.ZoneRecords.{bound_at, tokens_of, zone_of}
use Rattle.docket_records.proofs.Sizes.{places_length, zone_small}

module _ {B : Type 0} (kind : Kind B) (bytes : List ℕ) (few : tokens_of bytes ≤ 8) (tokens : ℕ) (is : tokens ≡ tokens_of bytes) (before loaded after : List B) (loads : loaded ≡ written (counted kind (bound_at kind bytes)) (tokens + 1) before) (answer : Bool) (settles : Settles kind (tokens + 1) (take (tokens + 1) nine_points) loaded after answer) where
  pub record_kept : length after ≡ length before
  record_kept = settles.kept ∙ ap length loads ∙ length-written (counted kind (bound_at kind bytes)) (tokens + 1) before

  -- the settling, over the zone's points and bounds
  as_zone : Settles kind (points (zone_of kind bytes)) (take (points (zone_of kind bytes)) nine_points) (written (counted kind (bound_at kind bytes)) (points (zone_of kind bytes)) before) after answer
  as_zone =
      let n : tokens + 1 ≡ points (zone_of kind bytes) = omega (arith, is, places_length kind bytes few) in
      subst₂ (λ m cells. Settles kind m (take m nine_points) cells after answer) n (loads ∙ ap (λ m. written (counted kind (bound_at kind bytes)) m before) n) settles

  pub record_run : (after, answer) ≡ zone_eliminated kind (zone_of kind bytes) before
  record_run = as_zone.run

  pub record_formed : length before ≡ draft_cells → DraftFormedOr kind (zone_of kind bytes) after answer
  record_formed full =
      formed kind (zone_of kind bytes) 262143 (omega (arith, places_length kind bytes few, few)) (omega arith) (zone_small kind bytes) before after answer full as_zone
