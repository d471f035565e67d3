-- The laws of what is due.
use Rattle.std.proofs.Common.{◌≡◌, ℕ, zero, suc, ◌+◌, ◌<◌, ◌≤◌, Bool, true, false, cond, List, [], ◌∷◌, ◌++◌, map, length, sym, refl, ap, ◌∙◌, subst, arith}
use Rattle.std.proofs.lemmas.List.{append_assoc}
use Rattle.nets.specs.Nets.{Arc, Net, Every, arcs_of, numbered}
use Rattle.nets.specs.declared.side.Side.TheVariants.{Output}
use Rattle.zones.specs.Predecessors.{is_matching}
use Rattle.docket_dues.specs.Dues.{item, delay_item, target_item, numbers, matchings_from, firings_from, transitions_from, steps_due, zones_from, all_due, behind, due_after}
use Rattle.docket_dues.specs.DueLaws.{FiringIsDue, IsDue, Stands, DueLaws}
use Rattle.docket_dues.specs.declared.item.Item.{Item}
use Rattle.docket_dues.proofs.Counts.{few_due}
use Rattle.docket_dues.proofs.Ends.{EndsIn, ends_equal, ends_later, ends_join, ends_append, ends_map, ends_flat, ends_filter, numbers_end}
use Rattle.docket_dues.proofs.Lists.{flat_every, map_every, filter_every, number_every}
use Rattle.docket_dues.proofs.Order.{matchings_first, matchings_past, matchings_step, transitions_past, transitions_step, zones_past, zones_step, target_leads}

matchings_end : {B : Type 0} (places : List ℕ) (arcs : List (Arc B)) (first n : ℕ) → first ≤ n → n ≤ 65536 → EndsIn (matchings_from places arcs first) (matchings_from places arcs n)
unfolding matchings_from
matchings_end places arcs first n low high = ends_filter (is_matching places arcs) (numbers_end first n 65536 low high)

matchings_are : {B : Type 0} (places : List ℕ) (arcs : List (Arc B)) (P : ℕ → Type 0) (first : ℕ) → ((n : ℕ) → n < 65536 → is_matching places arcs n ≡ true → P n) → Every P (matchings_from places arcs first)
unfolding matchings_from
matchings_are places arcs P first each =
    filter_every P (is_matching places arcs) (numbers first 65536) (number_every (λ n. is_matching places arcs n ≡ true → P n) first 65536 (λ n low high. each n high))

module _ {B : Type 0} (net : Net B) (listed : List (List ℕ)) where
  -- ---- each item that there can be
  zone_stands : (z : ℕ) → z < length listed → EndsIn (all_due net listed) (delay_item (suc z) ∷ behind net listed (suc z) 0 0)
  unfolding all_due
  zone_stands z few =
      ends_later target_item (ends_join (ends_flat (steps_due net listed) (numbers_end 1 (suc z) (suc (length listed)) (omega arith) (omega (arith, few)))) (ends_equal (zones_step net listed z few)))

  firing_stands : (z t n : ℕ) → FiringIsDue net listed (suc z) (suc t) n → EndsIn (all_due net listed) (item (suc z) (suc t) n ∷ behind net listed (suc z) (suc t) n)
  firing_stands z t n h =
      let places = numbered listed (suc z) [] in
      let arcs = arcs_of net (suc t) Output in
      let zones = zones_from net listed (suc (suc z)) in
      let later = transitions_from net places (suc z) (suc (suc t)) ++ zones in
      let transition = ends_flat (λ u. firings_from net places (suc z) u 0) (numbers_end 1 (suc t) (suc (length net.transitions)) (omega arith) (omega (arith, h.of_net))) in
      let firings = ends_map (item (suc z) (suc t)) (ends_join (matchings_end places arcs 0 n (omega arith) (omega (arith, h.small))) (ends_equal (matchings_first places arcs n h.small h.matches))) in
      ends_join (zone_stands z (omega (arith, h.listed_zone)))
      (ends_later (delay_item (suc z))
      (ends_join (ends_append zones (ends_join transition (ends_equal (transitions_step net listed places (suc z) t (omega (arith, h.of_net))))))
      (ends_join (ends_equal (append_assoc (firings_from net places (suc z) (suc t) 0) (transitions_from net places (suc z) (suc (suc t))) zones))
      (ends_append later firings))))

  stands : (z t n : ℕ) → IsDue net listed (item z t n) → EndsIn (all_due net listed) (item z t n ∷ due_after net listed (item z t n))
  unfolding due_after
  stands zero t n h = subst (λ m. EndsIn (all_due net listed) (item 0 t m ∷ zones_from net listed 1)) (sym h.1) (subst (λ u. EndsIn (all_due net listed) (item 0 u 0 ∷ zones_from net listed 1)) (sym h.0) (ends_equal (target_leads net listed)))
  stands (suc z) zero n h = subst (λ m. EndsIn (all_due net listed) (item (suc z) 0 m ∷ behind net listed (suc z) 0 0)) (sym h.1) (zone_stands z (omega (arith, h.0)))
  stands (suc z) (suc t) n h = firing_stands z t n h

  each_stands : (d : Item) → IsDue net listed d → Stands net listed d
  each_stands d h = let e = stands d.zone d.transition d.matching h in record { before = e.before; is = e.is }

  -- ---- and no other
  firing_is_due : (z t n : ℕ) → 1 ≤ z → 1 ≤ t → FiringIsDue net listed z t n → IsDue net listed (item z t n)
  firing_is_due zero t n listed_zone firing h = absurd (omega (arith, listed_zone))
  firing_is_due (suc z) zero n listed_zone firing h = absurd (omega (arith, firing))
  firing_is_due (suc z) (suc t) n listed_zone firing h = h

  firings_are_due : (z t : ℕ) → 1 ≤ z → z ≤ length listed → 1 ≤ t → t ≤ length net.transitions → Every (IsDue net listed) (firings_from net (numbered listed z []) z t 0)
  firings_are_due z t some few first last =
      map_every (IsDue net listed) (item z t) (matchings_from (numbered listed z []) (arcs_of net t Output) 0)
      (matchings_are (numbered listed z []) (arcs_of net t Output) (λ n. IsDue net listed (item z t n)) 0 (λ n small matches. firing_is_due z t n some first (record { listed_zone = few; of_net = last; small = small; matches = matches })))

  steps_are_due : (z : ℕ) → 1 ≤ z → z ≤ length listed → Every (IsDue net listed) (steps_due net listed z)
  steps_are_due zero some few = absurd (omega (arith, some))
  steps_are_due (suc z) some few =
      let transitions = number_every (λ t. Every (IsDue net listed) (firings_from net (numbered listed (suc z) []) (suc z) t 0)) 1 (suc (length net.transitions)) (λ t first last. firings_are_due (suc z) t some few first (omega (arith, last))) in
      ((few, refl), flat_every (IsDue net listed) (λ t. firings_from net (numbered listed (suc z) []) (suc z) t 0) (numbers 1 (suc (length net.transitions))) transitions)

  pub all_are_due : Every (IsDue net listed) (all_due net listed)
  unfolding all_due
  all_are_due =
      let zones = number_every (λ z. Every (IsDue net listed) (steps_due net listed z)) 1 (suc (length listed)) (λ z some few. steps_are_due z some (omega (arith, few))) in
      ((refl, refl), flat_every (IsDue net listed) (steps_due net listed) (numbers 1 (suc (length listed))) zones)

  -- ---- what follows an item
  -- the rest of the list, behind each of its items
  abbrev Chained : List Item → Type 0
  Chained [] = Unit {0}
  Chained (d ∷ rest) = (rest ≡ due_after net listed d) × Chained rest

  chained_at : (before rest : List Item) (d : Item) → Chained (before ++ (d ∷ rest)) → rest ≡ due_after net listed d
  chained_at [] rest d chain = chain.0
  chained_at (b ∷ before) rest d chain = chained_at before rest d chain.1

  abbrev after_zone : ℕ → List Item
  after_zone z = zones_from net listed (suc z)

  abbrev after_transition : ℕ → ℕ → List Item
  after_transition z t = transitions_from net (numbered listed z []) z (suc t) ++ after_zone z

  firings_chained : (z t count n : ℕ) → n + count ≡ 65536 → Chained (after_transition (suc z) (suc t)) → Chained (firings_from net (numbered listed (suc z) []) (suc z) (suc t) n ++ after_transition (suc z) (suc t))
  unfolding due_after
  firings_chained z t zero n is chain =
      let none = matchings_past (numbered listed (suc z) []) (arcs_of net (suc t) Output) n (omega (arith, is)) in
      subst (λ ms. Chained (map (item (suc z) (suc t)) ms ++ after_transition (suc z) (suc t))) (sym none) chain
  firings_chained z t (suc count) n is chain =
      let places = numbered listed (suc z) [] in
      let arcs = arcs_of net (suc t) Output in
      subst (λ ms. Chained (map (item (suc z) (suc t)) ms ++ after_transition (suc z) (suc t))) (sym (matchings_step places arcs n (omega (arith, is)))) (kept (is_matching places arcs n) (firings_chained z t count (suc n) (omega (arith, is)) chain))
    where
      later : List ℕ
      later = matchings_from (numbered listed (suc z) []) (arcs_of net (suc t) Output) (suc n)

      kept : (b : Bool) → Chained (map (item (suc z) (suc t)) later ++ after_transition (suc z) (suc t)) → Chained (map (item (suc z) (suc t)) (cond b (n ∷ later) later) ++ after_transition (suc z) (suc t))
      kept true chain = (refl, chain)
      kept false chain = chain

  transitions_chained : (z count t : ℕ) → t + count ≡ length net.transitions → Chained (after_zone (suc z)) → Chained (after_transition (suc z) t)
  transitions_chained z zero t is chain =
      subst (λ l. Chained (l ++ after_zone (suc z))) (sym (transitions_past net listed (numbered listed (suc z) []) (suc z) t (omega (arith, is)))) chain
  transitions_chained z (suc count) t is chain =
      let places = numbered listed (suc z) [] in
      let firings = firings_from net places (suc z) (suc t) 0 in
      let later = transitions_from net places (suc z) (suc (suc t)) in
      subst Chained (sym (ap (λ l. l ++ after_zone (suc z)) (transitions_step net listed places (suc z) t (omega (arith, is))) ∙ append_assoc firings later (after_zone (suc z))))
      (firings_chained z t 65536 0 (omega arith) (transitions_chained z count (suc t) (omega (arith, is)) chain))

  zones_chained : (count z : ℕ) → z + count ≡ length listed → Chained (after_zone z)
  unfolding due_after
  zones_chained zero z is = subst Chained (sym (zones_past net listed z (omega (arith, is)))) tt
  zones_chained (suc count) z is =
      let chain = transitions_chained z (length net.transitions) 0 (omega arith) (zones_chained count (suc z) (omega (arith, is))) in
      subst Chained (sym (zones_step net listed z (omega (arith, is)))) (refl, chain)

  all_chained : Chained (all_due net listed)
  unfolding all_due due_after
  all_chained = (refl, zones_chained (length listed) 0 (omega arith))

  rest_due : (before rest : List Item) (d : Item) → all_due net listed ≡ before ++ (d ∷ rest) → rest ≡ due_after net listed d
  rest_due before rest d is = chained_at before rest d (subst Chained is all_chained)

  -- ---- laws
  pub dues_keep_laws : DueLaws net listed
  dues_keep_laws = record { first = target_leads net listed; each = each_stands; only = all_are_due; rest = rest_due; few = few_due net listed }
