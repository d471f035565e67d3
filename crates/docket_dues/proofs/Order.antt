-- What follows an item: the next matching, else the next transition, else the next zone, else nothing.
use Rattle.std.proofs.Common.{◌≡◌, ℕ, zero, suc, ◌+◌, ◌-◌, ◌<◌, ◌≤◌, Bool, true, false, cond, List, [], ◌∷◌, ◌++◌, map, length, Some, None, refl, ap, ◌∙◌, ⊎_elim, arith}
use Rattle.std.specs.List.{filter, flat_map}
use Rattle.std.proofs.lemmas.Bool.{cases_lt}
use Rattle.std.proofs.lemmas.List.{append_assoc}
use Rattle.bounds.specs.Kinds.{Kind}
use Rattle.nets.specs.Nets.{Arc, Every, Net, Limits, arcs_of, numbered}
use Rattle.nets.specs.declared.side.Side.TheVariants.{Output}
use Rattle.zones.specs.Predecessors.{is_matching}
use Rattle.zones.proofs.Arcs.{few_outputs}
use Rattle.zones.proofs.Digits.{zero_matches}
use Rattle.zone_matchings.specs.Next.{Next}
use Rattle.docket_dues.specs.Dues.{item, delay_item, target_item, numbers, matchings_from, firings_from, transitions_from, steps_due, zones_from, all_due, behind, due_after, Leads}
use Rattle.docket_dues.specs.declared.item.Item.{Item}
use Rattle.docket_dues.proofs.Lists.{numbers_first, numbers_none, every_number, every_filter}

-- ---- matchings, in ascending order
module _ {B : Type 0} (places : List ℕ) (arcs : List (Arc B)) where
  -- the first number is kept where it is a matching
  pub matchings_step : (n : ℕ) → n < 65536 → matchings_from places arcs n ≡ cond (is_matching places arcs n) (n ∷ matchings_from places arcs (suc n)) (matchings_from places arcs (suc n))
  unfolding matchings_from
  matchings_step n small = ap (filter (is_matching places arcs)) (numbers_first n 65536 small)

  pub matchings_first : (n : ℕ) → n < 65536 → is_matching places arcs n ≡ true → matchings_from places arcs n ≡ n ∷ matchings_from places arcs (suc n)
  matchings_first n small is =
      matchings_step n small ∙ ap (λ b. cond b (n ∷ matchings_from places arcs (suc n)) (matchings_from places arcs (suc n))) is

  pub matchings_past : (n : ℕ) → 65536 ≤ n → matchings_from places arcs n ≡ []
  unfolding matchings_from
  matchings_past n past = ap (filter (is_matching places arcs)) (numbers_none n 65536 past)

  -- a stretch without a matching
  matchings_skipped : (count first last : ℕ) → first + count ≡ last → last ≤ 65536 → ((i : ℕ) → first ≤ i → i < last → is_matching places arcs i ≡ false) → matchings_from places arcs first ≡ matchings_from places arcs last
  matchings_skipped zero first last is small free = let same : first ≡ last = omega (arith, is) in ap (matchings_from places arcs) same
  matchings_skipped (suc count) first last is small free =
      matchings_step first (omega (arith, is, small))
      ∙ ap (λ b. cond b (first ∷ matchings_from places arcs (suc first)) (matchings_from places arcs (suc first))) (free first (omega arith) (omega (arith, is)))
      ∙ matchings_skipped count (suc first) last (omega (arith, is)) small (λ i low high. free i (omega (arith, low)) high)

  pub next_matching : (n m : ℕ) → Next (is_matching places arcs) n (Some m) → matchings_from places arcs (suc n) ≡ m ∷ matchings_from places arcs (suc m)
  next_matching n m next =
      matchings_skipped (m - suc n) (suc n) m (omega (arith, next.above)) (omega (arith, next.small)) (λ i low high. next.between i (omega (arith, low)) high)
      ∙ matchings_first m next.small next.passes

  pub no_matching : (n : ℕ) → Next (is_matching places arcs) n None → matchings_from places arcs (suc n) ≡ []
  no_matching n none =
      ⊎_elim
      (λ l. matchings_skipped (65536 - suc n) (suc n) 65536 (omega (arith, l)) (omega arith) (λ i low high. none i (omega (arith, low)) high) ∙ matchings_past 65536 (omega arith))
      (λ past. matchings_past (suc n) (omega (arith, past)))
      (cases_lt n 65536)

  -- each of them
  pub each_matching : (P : ℕ → Type 0) (first : ℕ) → Every P (matchings_from places arcs first) → (n : ℕ) → first ≤ n → n < 65536 → is_matching places arcs n ≡ true → P n
  unfolding matchings_from
  each_matching P first every n low small is =
      every_number (λ i. is_matching places arcs i ≡ true → P i) first 65536 (every_filter P (is_matching places arcs) (numbers first 65536) every) n low small is

module _ {B : Type 0} (net : Net B) (listed : List (List ℕ)) where
  -- ---- transitions and zones, by their numbers
  pub transitions_step : (places : List ℕ) (z t : ℕ) → t < length net.transitions → transitions_from net places z (suc t) ≡ firings_from net places z (suc t) 0 ++ transitions_from net places z (suc (suc t))
  transitions_step places z t few =
      ap (flat_map (λ u. firings_from net places z u 0)) (numbers_first (suc t) (suc (length net.transitions)) (omega (arith, few)))

  pub transitions_past : (places : List ℕ) (z t : ℕ) → length net.transitions ≤ t → transitions_from net places z (suc t) ≡ []
  transitions_past places z t past =
      ap (flat_map (λ u. firings_from net places z u 0)) (numbers_none (suc t) (suc (length net.transitions)) (omega (arith, past)))

  pub zones_step : (z : ℕ) → z < length listed → zones_from net listed (suc z) ≡ delay_item (suc z) ∷ behind net listed (suc z) 0 0
  zones_step z few = ap (flat_map (steps_due net listed)) (numbers_first (suc z) (suc (length listed)) (omega (arith, few)))

  pub zones_past : (z : ℕ) → length listed ≤ z → zones_from net listed (suc z) ≡ []
  zones_past z past = ap (flat_map (steps_due net listed)) (numbers_none (suc z) (suc (length listed)) (omega (arith, past)))

  -- ---- the tests of what comes next
  -- whether a number says a matching of the transition with the zone's tokens
  abbrev pub says_matching : (zone transition : ℕ) → ℕ → Bool
  says_matching z t = is_matching (numbered listed z []) (arcs_of net t Output)

  -- a firing is of the last matching; the target and a delay have none
  abbrev pub LastMatching : (zone transition matching : ℕ) → Type 0
  LastMatching z t n = 1 ≤ z → 1 ≤ t → Next (says_matching z t) n None

  -- and it is of the last transition; the target has none
  abbrev pub LastOfZone : (zone transition matching : ℕ) → Type 0
  LastOfZone z t n = LastMatching z t n × (1 ≤ z → length net.transitions ≤ t)

  last_of_zone : (z t n : ℕ) → LastOfZone z t n → behind net listed z t n ≡ zones_from net listed (suc z)
  last_of_zone zero t n last = refl
  last_of_zone (suc z) zero n last =
      ap (λ l. l ++ zones_from net listed (suc (suc z))) (transitions_past (numbered listed (suc z) []) (suc z) 0 (last.1 (omega arith)))
  last_of_zone (suc z) (suc t) n last =
      let places = numbered listed (suc z) [] in
      let later = transitions_from net places (suc z) (suc (suc t)) ++ zones_from net listed (suc (suc z)) in
      ap (λ l. map (item (suc z) (suc t)) l ++ later) (no_matching places (arcs_of net (suc t) Output) n (last.0 (omega arith) (omega arith)))
      ∙ ap (λ l. l ++ zones_from net listed (suc (suc z))) (transitions_past places (suc z) (suc t) (last.1 (omega arith)))

  -- ---- what comes next
  pub target_leads : all_due net listed ≡ target_item ∷ due_after net listed target_item
  unfolding all_due due_after
  target_leads = refl

  pub next_matching_leads : (z t n m : ℕ) → 1 ≤ z → 1 ≤ t → Next (says_matching z t) n (Some m) → Leads net listed (item z t n) (Some (item z t m))
  unfolding due_after
  next_matching_leads zero t n m listed_zone firing next = absurd (omega (arith, listed_zone))
  next_matching_leads (suc z) zero n m listed_zone firing next = absurd (omega (arith, firing))
  next_matching_leads (suc z) (suc t) n m listed_zone firing next =
      let places = numbered listed (suc z) [] in
      ap (λ l. map (item (suc z) (suc t)) l ++ (transitions_from net places (suc z) (suc (suc t)) ++ zones_from net listed (suc (suc z)))) (next_matching places (arcs_of net (suc t) Output) n m next)

  pub next_zone_leads : (z t n : ℕ) → LastOfZone z t n → z < length listed → Leads net listed (item z t n) (Some (delay_item (z + 1)))
  unfolding due_after
  next_zone_leads z t n last few =
      let next : suc z ≡ z + 1 = omega arith in
      last_of_zone z t n last ∙ zones_step z few ∙ ap (λ k. delay_item k ∷ behind net listed k 0 0) next

  pub none_leads : (z t n : ℕ) → LastOfZone z t n → length listed ≤ z → Leads net listed (item z t n) None
  unfolding due_after
  none_leads z t n last past = last_of_zone z t n last ∙ zones_past z past

  module _ (kind : Kind B) (limits : Limits kind net) where
    -- the first matching of each transition is 0
    transition_first : (z t : ℕ) (later : List Item) → t < length net.transitions → transitions_from net (numbered listed z []) z (suc t) ++ later ≡ item z (suc t) 0 ∷ (firings_from net (numbered listed z []) z (suc t) 1 ++ (transitions_from net (numbered listed z []) z (suc (suc t)) ++ later))
    transition_first z t later few =
        let places = numbered listed z [] in
        let arcs = arcs_of net (suc t) Output in
        let first = matchings_first places arcs 0 (omega arith) (zero_matches places arcs (few_outputs kind net (suc t) limits)) in
        ap (λ l. l ++ later) (transitions_step places z t few ∙ ap (λ l. map (item z (suc t)) l ++ transitions_from net places z (suc (suc t))) first)
        ∙ ap (λ l. item z (suc t) 0 ∷ l) (append_assoc (firings_from net places z (suc t) 1) (transitions_from net places z (suc (suc t))) later)

    transition_leads : (z t n : ℕ) → 1 ≤ z → LastMatching z t n → t < length net.transitions → behind net listed z t n ≡ item z (suc t) 0 ∷ behind net listed z (suc t) 0
    transition_leads zero t n listed_zone last few = absurd (omega (arith, listed_zone))
    transition_leads (suc z) zero n listed_zone last few = transition_first (suc z) 0 (zones_from net listed (suc (suc z))) few
    transition_leads (suc z) (suc t) n listed_zone last few =
        let places = numbered listed (suc z) [] in
        let later = transitions_from net places (suc z) (suc (suc t)) ++ zones_from net listed (suc (suc z)) in
        ap (λ l. map (item (suc z) (suc t)) l ++ later) (no_matching places (arcs_of net (suc t) Output) n (last listed_zone (omega arith)))
        ∙ transition_first (suc z) (suc t) (zones_from net listed (suc (suc z))) few

    pub next_transition_leads : (z t n : ℕ) → 1 ≤ z → LastMatching z t n → t < length net.transitions → Leads net listed (item z t n) (Some (item z (t + 1) 0))
    unfolding due_after
    next_transition_leads z t n listed_zone last few =
        let next : suc t ≡ t + 1 = omega arith in
        transition_leads z t n listed_zone last few ∙ ap (λ u. item z u 0 ∷ behind net listed z u 0) next
