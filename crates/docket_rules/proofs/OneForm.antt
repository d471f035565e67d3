-- What the table of a discharge reads of zones is the same for any two that are normal forms of the
-- same records.
use Rattle.std.proofs.Common.{◌≡◌, ℕ, zero, suc, ◌-◌, ◌≤◌, Bool, true, false, List, [], ◌∷◌, ◌++◌, map, length, get_or, refl, sym, ap, ◌∙◌, subst, arith}
use Rattle.std.specs.List.{range_with_len}
use Rattle.std.proofs.lemmas.Bool.{and_parts, leb-true}
use Rattle.bounds.specs.Kinds.{Kind}
use Rattle.docket_dues.specs.Answered.{ItemZone, SameZone, VoidItem, digits, zone_named}
use Rattle.docket_dues.specs.declared.item.Item.{Item}
use Rattle.docket_dues.proofs.Lists.{number_every}
use Rattle.docket_dues.proofs.Same.{delay_same, firing_same, void_same}
use Rattle.docket_records.specs.declared.voucher.Voucher.{Voucher}
use Rattle.nets.specs.Nets.{Every, Net, transition_of}
use Rattle.docket_rules.specs.Tables.{Against, Answer, Answers, discharge_rules, discharge_table, due_in, item_rules, pairing_of}
use Rattle.docket_rules.specs.Worlds.{State, in_list, listed_count, listed_zones}
use Rattle.zone_pages.specs.declared.objections.Objection.{Objection}
use Rattle.zone_pages.specs.declared.objections.Objection.TheVariants.{Partner, Place, Bound}
use Rattle.docket_records.specs.Vouchers.{voucher_of}
use Rattle.zone_walks.specs.Walks.{counted}
use Rattle.zone_walks.proofs.NormalForms.{normal_unique}
use Rattle.zones.specs.Zones.{Zone, NormalOf, points}
use Rattle.docket_rules.proofs.AlikeRules.{Alike, alike_behind, answers_alike}
use Rattle.docket_rules.proofs.KeptAsked.{same_as_one}
use Rattle.docket_rules.proofs.Objected.{same_against}

module _ {B : Type 0} (kind : Kind B) where
  -- ---- a zone has one normal form
  pub forms_same : (z x y : Zone B) → NormalOf kind z x → NormalOf kind z y → SameZone x y
  forms_same z x y h k =
      record {
        places = k.places ∙ sym h.places;
        bounds = λ j i p q. let few = ap length h.places in normal_unique kind (points z) (counted kind z.bound) y.bound x.bound k.bounds h.bounds j i (omega (arith, p, few)) (omega (arith, q, few));
      }

  pub turned_same : (x y : Zone B) → SameZone x y → SameZone y x
  turned_same x y same =
      record {
        places = sym same.places;
        bounds = λ j i p q. let few = ap length same.places in sym (same.bounds j i (omega (arith, p, few)) (omega (arith, q, few)));
      }

  -- ---- zones by number, each the same as the other's
  module _ (s : State) (zones other : ℕ → Zone B) (same : (p : ℕ) → p ≤ listed_count s → SameZone (zones p) (other p)) where
    found_same : (ns : List ℕ) (i : ℕ) → Every (λ p. SameZone (zones p) (other p)) ns → SameZone (get_or (map zones ns) i (zones 0)) (get_or (map other ns) i (other 0))
    found_same [] i every = same 0 (omega arith)
    found_same (n ∷ ns) zero every = every.0
    found_same (n ∷ ns) (suc i) every = found_same ns i every.1

    every_same : Every (λ p. SameZone (zones p) (other p)) (range_with_len 1 (listed_count s))
    every_same =
        let count : suc (listed_count s) - 1 ≡ listed_count s = omega arith in
        subst (λ n. Every (λ p. SameZone (zones p) (other p)) (range_with_len 1 n)) count (number_every (λ p. SameZone (zones p) (other p)) 1 (suc (listed_count s)) (λ p some few. same p (omega (arith, few))))

    named_same : (z : ℕ) → SameZone (zone_named (zones 0) (listed_zones s zones) z) (zone_named (other 0) (listed_zones s other) z)
    named_same zero = same 0 (omega arith)
    named_same (suc i) = found_same (range_with_len 1 (listed_count s)) i every_same

    module _ (net : Net B) where
      void_there : (z t n : ℕ) → VoidItem kind net (zones 0) (listed_zones s zones) z t n → VoidItem kind net (other 0) (listed_zones s other) z t n
      void_there zero t n h = h
      void_there (suc z) zero n h = h
      void_there (suc z) (suc t) n h =
          let a = zone_named (zones 0) (listed_zones s zones) (suc z) in
          let b = zone_named (other 0) (listed_zones s other) (suc z) in
          void_same kind b a (turned_same a b (named_same (suc z))) (transition_of net (suc t)) (digits net (suc t) n) h

      asks_there : (z t n : ℕ) (asked : Zone B) → ItemZone kind net (zones 0) (listed_zones s zones) z t n asked → ItemZone kind net (other 0) (listed_zones s other) z t n asked
      asks_there zero t n asked h = same_as_one kind (zones 0) (other 0) asked (same 0 (omega arith)) h
      asks_there (suc z) zero n asked h =
          let a = zone_named (zones 0) (listed_zones s zones) (suc z) in
          let b = zone_named (other 0) (listed_zones s other) (suc z) in
          delay_same kind b a (turned_same a b (named_same (suc z))) asked h
      asks_there (suc z) (suc t) n asked h =
          let a = zone_named (zones 0) (listed_zones s zones) (suc z) in
          let b = zone_named (other 0) (listed_zones s other) (suc z) in
          firing_same kind b a (turned_same a b (named_same (suc z))) (transition_of net (suc t)) (digits net (suc t) n) asked h

      against_there : (d : Item) (v : Voucher) (objection : Objection) → v.zone ≤ listed_count s → Against kind net s zones d v objection → Against kind net s other d v objection
      against_there d v objection few h =
          record {
            asked = h.asked;
            asks = asks_there d.zone d.transition d.matching h.asked h.asks;
            stands = sym (same_against kind h.asked (zones v.zone) (other v.zone) (pairing_of s v) (same v.zone few)) ∙ h.stands;
          }

  module _ (net : Net B) (s : State) (zones other : ℕ → Zone B) (same : (p : ℕ) → p ≤ listed_count s → SameZone (zones p) (other p)) where
    back : (p : ℕ) → p ≤ listed_count s → SameZone (other p) (zones p)
    back p few = turned_same (zones p) (other p) (same p few)

    -- the number of a zone that is not outside the list
    inside : (v : Voucher) → (in_list s v.zone ≡ false → ⊥) → v.zone ≤ listed_count s
    inside v listed = by (in_list s v.zone) refl
      where
        by : (t : Bool) → in_list s v.zone ≡ t → v.zone ≤ listed_count s
        by true e = leb-true v.zone (listed_count s) (and_parts _ _ e).1
        by false e = absurd (listed e)

    items_alike : (d : Item) (v : Voucher) → Alike (item_rules kind net s zones d v) (item_rules kind net s other d v)
    items_alike d v =
        let to = void_there s zones other same net d.zone d.transition d.matching in
        let from = void_there s other zones back net d.zone d.transition d.matching in
        let there = against_there s zones other same net d v in
        let here = against_there s other zones back net d v in (
          refl,
          ((λ h. (h.0, λ void. h.1 (from void))), (λ h. (h.0, λ void. h.1 (to void)))),
          λ not_27. (
            refl,
            ((λ h. (h.0, to h.1)), (λ h. (h.0, from h.1))),
            λ not_28. (
              refl,
              ((λ h. h), (λ h. h)),
              λ not_29.
                  let few = (λ (named : v.void ≡ false). inside v (λ out. not_29 (named, out))) in (
                    refl,
                    ((λ h. (h.0, there Partner (few h.0) h.1)), (λ h. (h.0, here Partner (few h.0) h.1))),
                    λ not_30. (
                      refl,
                      ((λ h. (h.0, there Place (few h.0) h.1)), (λ h. (h.0, here Place (few h.0) h.1))),
                      λ not_31.
                          (refl, ((λ h. (h.0, there Bound (few h.0) h.1)), (λ h. (h.0, here Bound (few h.0) h.1))), λ not_32. tt),
                    ),
                  ),
            ),
          ),
        )

    pub discharge_alike : (sized : Bool) (bytes : List ℕ) (answer : Answer) → Answers (discharge_table kind net s sized zones bytes) answer → Answers (discharge_table kind net s sized other bytes) answer
    discharge_alike sized bytes answer h =
        let v = voucher_of bytes in
        let rows = discharge_rules s sized bytes in
        let here = item_rules kind net s zones (due_in s.stage) v in
        let there = item_rules kind net s other (due_in s.stage) v in
        answers_alike (rows ++ here) (rows ++ there) (alike_behind rows here there (items_alike (due_in s.stage) v)) answer h
