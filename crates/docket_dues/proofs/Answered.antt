-- An item is answered where it is void, or where a listed zone vouches for what it asks.
use Rattle.std.proofs.Common.{ℕ, zero, suc, ◌<◌, ◌≤◌, List, [], ◌∷◌, length, get_or, inl, inr, arith}
use Rattle.bounds.specs.Kinds.{Kind}
use Rattle.nets.specs.Nets.{Net}
use Rattle.zones.specs.Safety.{Some}
use Rattle.zones.specs.Vouching.{Vouches}
use Rattle.zones.specs.Zones.{Zone}
use Rattle.docket_dues.specs.Answered.{Answered, ItemZone, VoidItem, SameZone, zone_named}
use Rattle.docket_dues.specs.declared.item.Item.{Item}
use Rattle.docket_dues.proofs.Same.{voucher_same}

some_at : {X : Type 0} (P : X → Type 0) (xs : List X) (none : X) (i : ℕ) → i < length xs → P (get_or xs i none) → Some P xs
some_at P [] none i below h = absurd (omega (arith, below))
some_at P (x ∷ xs) none zero below h = inl h
some_at P (x ∷ xs) none (suc i) below h = inr (some_at P xs none i (omega (arith, below)) h)

module _ {B : Type 0} (kind : Kind B) (net : Net B) (target : Zone B) (listed : List (Zone B)) (d : Item) where
  pub void_answered : VoidItem kind net target listed d.zone d.transition d.matching → Answered kind net target listed d
  void_answered void = inl void

  -- y stands for the zone with the voucher's number, w for the item's zone
  pub vouched_answered : (voucher : ℕ) (y w : Zone B) (pairing : List ℕ) → 1 ≤ voucher → voucher ≤ length listed → SameZone (zone_named target listed voucher) y → ItemZone kind net target listed d.zone d.transition d.matching w → Vouches kind y w pairing → Answered kind net target listed d
  vouched_answered zero y w pairing some few same is vouches = absurd (omega (arith, some))
  vouched_answered (suc i) y w pairing some few same is vouches =
      let v = zone_named target listed (suc i) in
      inr (record { asked = w; is = is; vouched = some_at (λ z. (pairing : List ℕ) × Vouches kind z w pairing) listed target i (omega (arith, few)) (pairing, voucher_same kind v y w pairing same vouches) })
