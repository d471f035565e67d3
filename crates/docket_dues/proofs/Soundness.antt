-- Answers to all that is due are a certificate.
use Rattle.std.proofs.Common.{◌≡◌, ℕ, zero, suc, ◌<◌, ◌≤◌, true, ◌⊎◌, List, [], length, get_or, sym, subst, inl, inr, ⊎_elim, arith}
use Rattle.std.proofs.lemmas.List.{get_or-map, length-map}
use Rattle.bounds.specs.Kinds.{Kind}
use Rattle.nets.specs.Markings.{Marking}
use Rattle.nets.specs.Nets.{Net, Limits, Every, arcs_of, numbered, transition_of}
use Rattle.nets.specs.declared.side.Side.TheVariants.{Output}
use Rattle.zones.specs.Predecessors.{FiringPredecessor, Void, is_matching, matches}
use Rattle.zones.specs.Safety.{Certificate, Safe, DelayVouched, FiringVouched, StepsVouched}
use Rattle.zones.specs.Zones.{Zone}
use Rattle.zones.proofs.Arcs.{few_outputs}
use Rattle.zones.proofs.Certificates.{certificates_are_sound}
use Rattle.zones.proofs.Digits.{packs}
use Rattle.docket_dues.specs.Answered.{Answered, AllAnswered, places_of_all}
use Rattle.docket_dues.specs.Dues.{item, target_item, numbers, matchings_from, firings_from, steps_due, all_due}
use Rattle.docket_dues.specs.declared.item.Item.{Item}
use Rattle.docket_dues.proofs.Lists.{every_at, every_from, every_flat, every_map, every_number}
use Rattle.docket_dues.proofs.Order.{each_matching}
use Rattle.docket_dues.proofs.Same.{vouched_same}

module _ {B : Type 0} (kind : Kind B) (net : Net B) (limits : Limits kind net) (starts : ℕ → Marking → Type 0) (target : Zone B) (listed : List (Zone B)) (all : AllAnswered kind net starts target listed) where
  abbrev Done : Item → Type 0
  Done d = Answered kind net target listed d

  abbrev places : List (List ℕ)
  places = places_of_all listed

  places_at : (i : ℕ) → i < length listed → numbered places (suc i) [] ≡ (get_or listed i target).places
  places_at i below = get_or-map (λ z. z.places) listed i target [] below

  target_done : Done target_item
  unfolding all_due
  target_done = all.answered.0

  zone_done : (i : ℕ) → i < length listed → Every Done (steps_due net places (suc i))
  unfolding all_due
  zone_done i below =
      every_number (λ z. Every Done (steps_due net places z)) 1 (suc (length places)) (every_flat Done (steps_due net places) (numbers 1 (suc (length places))) all.answered.1) (suc i) (omega arith) (omega (arith, below, length-map listed (λ z. z.places)))

  firing_done : (i t n : ℕ) → i < length listed → 1 ≤ t → t ≤ length net.transitions → n < 65536 → is_matching (numbered places (suc i) []) (arcs_of net t Output) n ≡ true → Done (item (suc i) t n)
  firing_done i t n below first last small is =
      let here = numbered places (suc i) [] in
      let arcs = arcs_of net t Output in
      let firings = every_flat Done (λ u. firings_from net here (suc i) u 0) (numbers 1 (suc (length net.transitions))) (zone_done i below).1 in
      let of_transition = every_number (λ u. Every Done (firings_from net here (suc i) u 0)) 1 (suc (length net.transitions)) firings t first (omega (arith, last)) in
      each_matching here arcs (λ m. Done (item (suc i) t m)) 0 (every_map Done (item (suc i) t) (matchings_from here arcs 0) of_transition) n (omega arith) small is

  delay_vouched : (i : ℕ) → i < length listed → DelayVouched kind listed (get_or listed i target)
  delay_vouched i below =
      ⊎_elim (λ void. absurd void) (λ v. record { before = v.asked; is = v.is; vouched = v.vouched }) (zone_done i below).0

  firing_vouched : (i t : ℕ) (matching : List ℕ) → i < length listed → 1 ≤ t → t ≤ length net.transitions → matches (get_or listed i target).places (transition_of net t).outputs matching ≡ true → Void kind (transition_of net t) matching (get_or listed i target) ⊎ FiringVouched kind listed (get_or listed i target) (transition_of net t) matching
  firing_vouched i zero matching below first last m = absurd (omega (arith, first))
  firing_vouched i (suc t) matching below first last m =
      let z = get_or listed i target in
      let small = every_at (λ z. length z.places ≤ 8) listed target all.few_tokens i below in
      let said = packs z.places (arcs_of net (suc t) Output) matching (few_outputs kind net (suc t) limits) (omega (arith, small)) m in
      let is = subst (λ ps. is_matching ps (arcs_of net (suc t) Output) said.0 ≡ true) (sym (places_at i below)) said.3 in
      ⊎_elim
      (λ void. inl (subst (λ ds. Void kind (transition_of net (suc t)) ds z) said.2 void))
      (λ v. inr (record { before = v.asked; is = subst (λ ds. FiringPredecessor kind (transition_of net (suc t)) ds z v.asked) said.2 v.is; vouched = v.vouched }))
      (firing_done i (suc t) said.0 below first last said.1 is)

  steps_vouched : (i : ℕ) → i < length listed → StepsVouched kind net listed (get_or listed i target)
  steps_vouched i below =
      record { small = every_at _ listed target all.small i below; delay = delay_vouched i below; firings = λ t matching first last m. firing_vouched i t matching below first last m }

  pub certificate : Certificate kind net starts target listed
  certificate =
      record {
        covered = ⊎_elim (λ void. absurd void) (λ v. vouched_same kind target v.asked listed v.is v.vouched) target_done;
        steps = every_from (StepsVouched kind net listed) listed target steps_vouched;
        apart = all.apart;
      }

  pub safe : Safe kind net starts target
  safe = certificates_are_sound kind net starts target listed certificate
