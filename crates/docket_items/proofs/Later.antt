-- What comes after an item, from what the three searches answer.
use Rattle.std.proofs.Common.{◌≡◌, ℕ, ◌+◌, ◌≤◌, Bool, true, false, cond, ◌&&◌, ltb, List, [], length, Option, Some, None, sym, refl, ap, ◌∙◌, subst, arith}
use Rattle.std.proofs.lemmas.Bool.{ltb-true, ltb-false}
use Rattle.std.specs.Option.{MatchOption, option_or}
use Rattle.bounds.specs.Kinds.{Kind}
use Rattle.zone_matchings.specs.Next.{Next}
use Rattle.nets.specs.Nets.{Net, Limits, arcs_of, numbered}
use Rattle.nets.specs.declared.side.Side.TheVariants.{Output}
use Rattle.zones.specs.Predecessors.{is_matching}
use Rattle.docket_dues.specs.Dues.{item, delay_item, Leads}
use Rattle.docket_dues.specs.declared.item.Item.{Item}
use Rattle.docket_dues.proofs.Order.{LastMatching, LastOfZone, next_matching_leads, next_transition_leads, next_zone_leads, none_leads}
use Rattle.docket_items.specs.Next.{LaterMatching, later_transition, later_zone}

-- what `or_else` answers
pub chosen : (first second : Option Item) (Closure : Type 0) (other : Option Item) → (Closure → second ≡ other) → MatchOption first Closure (λ d. second ≡ Some d) → second ≡ option_or first other
chosen None second Closure other gives h = gives h
chosen (Some d) second Closure other gives h = h

module _ {B : Type 0} (kind : Kind B) (net : Net B) (limits : Limits kind net) (listed : List (List ℕ)) where
  zone_leads : (z t n zones : ℕ) (few : Bool) → ltb z zones ≡ few → length listed ≡ zones → LastOfZone net listed z t n → Leads net listed (item z t n) (cond few (Some (delay_item (z + 1))) None)
  zone_leads z t n zones true test long last = next_zone_leads net listed z t n last (omega (arith, ltb-true z zones test, long))
  zone_leads z t n zones false test long last = none_leads net listed z t n last (omega (arith, ltb-false z zones test, long))

  transition_leads : (z t n zones : ℕ) (some few : Bool) → ltb 0 z ≡ some → ltb t (length net.transitions) ≡ few → length listed ≡ zones → LastMatching net listed z t n → Leads net listed (item z t n) (option_or (cond (some && few) (Some (item z (t + 1) 0)) None) (cond (ltb z zones) (Some (delay_item (z + 1))) None))
  transition_leads z t n zones true true is_listed left long last =
      next_transition_leads net listed kind limits z t n (omega (arith, ltb-true 0 z is_listed)) last (ltb-true t (length net.transitions) left)
  transition_leads z t n zones true false is_listed left long last =
      zone_leads z t n zones (ltb z zones) refl long (last, λ some. omega (arith, ltb-false t (length net.transitions) left))
  transition_leads z t n zones false few is_listed left long last =
      zone_leads z t n zones (ltb z zones) refl long (last, λ some. absurd (omega (arith, some, ltb-false 0 z is_listed)))

  pub later_leads : (places : List ℕ) (zones : ℕ) (d : Item) (matching : Option Item) → LaterMatching net places d matching → length listed ≡ zones → (1 ≤ d.zone → numbered listed d.zone [] ≡ places) → Leads net listed d (option_or (option_or matching (later_transition net d)) (later_zone zones d))
  later_leads places zones d None none long here =
      transition_leads d.zone d.transition d.matching zones _ _ refl refl long (λ some firing. subst (λ ps. Next (is_matching ps (arcs_of net d.transition Output)) d.matching None) (sym (here some)) (none some firing))
  later_leads places zones d (Some later) next long here =
      subst (λ e. Leads net listed d (Some e)) same (next_matching_leads net listed d.zone d.transition d.matching later.matching next.listed_zone next.firing (subst (λ ps. Next (is_matching ps (arcs_of net d.transition Output)) d.matching (Some later.matching)) (sym (here next.listed_zone)) next.next))
    where
      same : item d.zone d.transition later.matching ≡ later
      same = ap (λ z. item z d.transition later.matching) (sym next.zone) ∙ ap (λ t. item later.zone t later.matching) (sym next.transition)
