-- How many items are due at most.
use Rattle.std.proofs.Common.{ℕ, suc, ◌+◌, ◌-◌, ◌*◌, ◌≤◌, Bool, true, false, cond, List, [], ◌∷◌, length, subst, length-append, arith}
use Rattle.std.specs.List.{filter, flat_map}
use Rattle.std.proofs.lemmas.List.{length-map}
use Rattle.std.proofs.lemmas.Nat.{mul-le}
use Rattle.std.proofs.lemmas.List.FromFn.{length-range_with_len}
use Rattle.bounds.specs.Kinds.{Kind}
use Rattle.nets.specs.Nets.{Arc, Net, Limits, arcs_of, numbered}
use Rattle.nets.specs.declared.side.Side.TheVariants.{Output}
use Rattle.zones.specs.Predecessors.{is_matching}
use Rattle.docket_dues.specs.Dues.{item, numbers, matchings_from, firings_from, steps_due, zones_from, all_due}
use Rattle.docket_dues.proofs.Lists.{numbers_from_one}

few_kept : {X : Type 0} (test : X → Bool) (xs : List X) → length (filter test xs) ≤ length xs
few_kept test [] = omega arith
few_kept test (x ∷ xs) = one (test x) (few_kept test xs)
  where
    one : (b : Bool) → length (filter test xs) ≤ length xs → length (cond b (x ∷ filter test xs) (filter test xs)) ≤ suc (length xs)
    one true h = omega (arith, h)
    one false h = omega (arith, h)

few_parts : {X Y : Type 0} (f : X → List Y) (most : ℕ) (xs : List X) → ((x : X) → length (f x) ≤ most) → length (flat_map f xs) ≤ length xs * most
few_parts f most [] each = omega arith
few_parts f most (x ∷ xs) each = omega (arith, length-append (f x) (flat_map f xs), each x, few_parts f most xs each)

few_matchings : {B : Type 0} (places : List ℕ) (arcs : List (Arc B)) (n : ℕ) → length (matchings_from places arcs n) ≤ 65536 - n
unfolding matchings_from
few_matchings places arcs n = omega (arith, few_kept (is_matching places arcs) (numbers n 65536), length-range_with_len n (65536 - n))

module _ {B : Type 0} (net : Net B) (listed : List (List ℕ)) where
  few_firings : (places : List ℕ) (z t : ℕ) → length (firings_from net places z t 0) ≤ 65536
  few_firings places z t =
      omega (arith, length-map (matchings_from places (arcs_of net t Output) 0) (item z t), few_matchings places (arcs_of net t Output) 0)

  few_steps : (z : ℕ) → length (steps_due net listed z) ≤ 1 + length net.transitions * 65536
  few_steps z =
      let places = numbered listed z [] in
      let firings = few_parts (λ t. firings_from net places z t 0) 65536 (numbers 1 (suc (length net.transitions))) (few_firings places z) in
      omega (arith, numbers_from_one (length net.transitions), firings)

  pub few_due : length (all_due net listed) ≤ 1 + length listed * (1 + length net.transitions * 65536)
  unfolding all_due
  few_due =
      let most = 1 + length net.transitions * 65536 in
      let zones = few_parts (steps_due net listed) most (numbers 1 (suc (length listed))) few_steps in
      let all = subst (λ n. length (zones_from net listed 1) ≤ n * most) (numbers_from_one (length listed)) zones in
      omega (arith, all)

  -- at the limits of a docket
  pub due_at_most : (kind : Kind B) → Limits kind net → length listed ≤ 63 → length (all_due net listed) ≤ 1 + 63 * (1 + 64 * 65536)
  due_at_most kind limits few =
      let steps : 1 + length net.transitions * 65536 ≤ 1 + 64 * 65536 = omega (arith, limits.few_transitions) in
      omega (arith, few_due, mul-le (length listed) (1 + length net.transitions * 65536) 63 (1 + 64 * 65536) few steps)
