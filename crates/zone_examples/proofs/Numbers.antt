-- By which number each example is refused, or that it is taken.
use Rattle.std.proofs.Common.{◌≡◌, ℕ, ◌≤◌, true, false, List, [], ◌∷◌, ◌++◌, Some, None, Option, sym, refl, ap, ◌∙◌, subst, inl, inr, arith}
use Rattle.std.proofs.lemmas.Bool.{both_ways, true≢false}
use Rattle.bounds.specs.Kinds.{Kind}
use Rattle.nets.specs.Markings.{Marking}
use Rattle.nets.specs.Nets.{Net}
use Rattle.zone_walks.proofs.NormalForms.{same_back}
use Rattle.zones.specs.Zones.{Zone, Inconsistent, Satisfies}
use Rattle.zones.proofs.ZoneLaws.{zones_keep_laws}
use Rattle.docket_records.specs.ZoneRecords.{bound_at, mark_under_plain, zone_of}
use Rattle.zone_markings.specs.Initial.{marking_of}
use Rattle.docket_rules.specs.Tables.{Answer, Answers, Rule, number_of, post_table, record_rules, rule}
use Rattle.docket_rules.specs.Worlds.{State}
use Rattle.zone_examples.specs.WorkedExamples.{FirstNumber, NumberIs, Posting, at_least_3, at_most_2, at_most_3, below_2, below_3, free, record_of_none, record_of_one, token_of_age}
use Rattle.zone_examples.proofs.OneToken.{below_three, three_three_solved, two_three}
use Rattle.zone_examples.proofs.Records.{Well, at_two_bounds, at_two_plain, at_two_well, at_two_zone, below_two_bounds, below_two_marked, below_two_well, below_two_zone, none_plain, none_well, none_zone, strict_three_bounds, strict_three_marked, strict_three_well, strict_three_zone, three_bounds, three_plain, three_well, three_zone, two_bounds, two_plain, two_well, two_zone}
use Rattle.zone_examples.proofs.Starts.{none_asked_of, one_below_two, two_at_most_two, two_below_two}
use Rattle.zone_examples.proofs.Zones.{inconsistent_same, satisfies_same}

answered_first : (table : List Rule) (number : Option ℕ) (answer : Answer) → FirstNumber table number → Answers table answer → number_of answer ≡ number
answered_first [] number answer first is = ap number_of is ∙ sym first
answered_first (r ∷ later) number answer (inl f) (inl g) = g.1 ∙ sym f.1
answered_first (r ∷ later) number answer (inl f) (inr g) = absurd (g.0 f.0)
answered_first (r ∷ later) number answer (inr f) (inl g) = absurd (f.0 g.0)
answered_first (r ∷ later) number answer (inr f) (inr g) = answered_first later number answer f.1 g.1

number_is : (table : List Rule) (number : Option ℕ) → FirstNumber table number → NumberIs table number
number_is table number first = record { first = first; answered = λ answer is. answered_first table number answer first is }

module _ {B : Type 0} (kind : Kind B) where
  -- a record without another fault comes to the rule of 25
  well_first : (places : ℕ) (bytes : List ℕ) (later : List Rule) (number : Option ℕ) → Well places bytes → mark_under_plain kind.marks bytes ≡ false → FirstNumber (rule 25 (Inconsistent kind (zone_of kind bytes)) ∷ later) number → FirstNumber (record_rules kind places bytes ++ later) number
  well_first places bytes later number well plain first =
      inr (both_ways _ well.long, inr (both_ways _ well.clean, inr (both_ways _ well.few, inr (both_ways _ well.placed, inr (both_ways _ plain, first)))))

  well_posted : (net : Net B) (s : State) (bytes : List ℕ) (number : Option ℕ) → Posting s → Well net.places bytes → mark_under_plain kind.marks bytes ≡ false → (Inconsistent kind (zone_of kind bytes) → ⊥) → FirstNumber (rule 26 (Satisfies kind 1 (zone_of kind bytes) (marking_of s.initial)) ∷ []) number → NumberIs (post_table kind net s true bytes) number
  well_posted net s bytes number posting well plain consistent first =
      number_is (post_table kind net s true bytes) number
      (inr (λ h. true≢false (sym posting.listing ∙ h), inr (λ h. true≢false h, inr (posting.room, well_first net.places bytes (rule 26 (Satisfies kind 1 (zone_of kind bytes) (marking_of s.initial)) ∷ []) number well plain (inr (consistent, first))))))

  -- ---- 25
  pub two_is_25 : (places : ℕ) → 1 ≤ places → NumberIs (record_rules kind places (record_of_one at_least_3 at_most_2)) (Some 25)
  two_is_25 places some =
      number_is _ _ (well_first places (record_of_one at_least_3 at_most_2) [] (Some 25) (two_well places some) (two_plain kind.marks)
      (inl (subst (Inconsistent kind) (sym (two_zone kind)) (inconsistent_same kind (0 ∷ []) _ _ (two_bounds kind) (two_three kind)), refl)))

  pub three_is_none : (places : ℕ) → 1 ≤ places → NumberIs (record_rules kind places (record_of_one at_least_3 at_most_3)) None
  three_is_none places some =
      number_is _ _ (well_first places (record_of_one at_least_3 at_most_3) [] None (three_well places some) (three_plain kind.marks)
      (inr (λ negative. (three_three_solved kind).none (inconsistent_same kind (0 ∷ []) _ _ (same_back kind 2 _ _ (three_bounds kind)) (subst (Inconsistent kind) (three_zone kind) negative)), refl)))

  pub strict_three_is_25 : (places : ℕ) → 1 ≤ places → kind.marks ≡ true → NumberIs (record_rules kind places (record_of_one at_least_3 below_3)) (Some 25)
  strict_three_is_25 places some marks =
      number_is _ _ (well_first places (record_of_one at_least_3 below_3) [] (Some 25) (strict_three_well places some) (strict_three_marked kind.marks marks)
      (inl (subst (Inconsistent kind) (sym (strict_three_zone kind)) (inconsistent_same kind (0 ∷ []) _ _ (strict_three_bounds kind marks) (below_three kind marks)), refl)))

  -- ---- 26
  met : (z : Zone B) (m : Marking) → Satisfies kind 1 z m → Inconsistent kind z → ⊥
  met z m s inconsistent = (zones_keep_laws kind).none 1 z m (omega arith) inconsistent s

  pub none_is_26 : (net : Net B) (s : State) → Posting s → NumberIs (post_table kind net s true record_of_none) (Some 26)
  none_is_26 net s posting =
      let m = marking_of s.initial in
      let all : Satisfies kind 1 (zone_of kind record_of_none) m = subst (λ z. Satisfies kind 1 z m) (sym (none_zone kind)) (none_asked_of kind (bound_at kind record_of_none) m) in
      well_posted net s record_of_none (Some 26) posting (none_well net.places) (none_plain kind.marks) (met (zone_of kind record_of_none) m all) (inl (all, refl))

  pub two_is_26 : (net : Net B) (s : State) → 1 ≤ net.places → Posting s → s.initial ≡ record { place = 0; age = 2 } ∷ [] → NumberIs (post_table kind net s true (record_of_one free at_most_2)) (Some 26)
  two_is_26 net s some posting initial =
      let bytes = record_of_one free at_most_2 in
      let has : Satisfies kind 1 (zone_of kind bytes) (token_of_age 2) = subst (λ z. Satisfies kind 1 z (token_of_age 2)) (sym (at_two_zone kind)) (satisfies_same kind (0 ∷ []) _ _ (at_two_bounds kind) (token_of_age 2) (two_at_most_two kind)) in
      well_posted net s bytes (Some 26) posting (at_two_well net.places some) (at_two_plain kind.marks) (met (zone_of kind bytes) (token_of_age 2) has) (inl (subst (λ tokens. Satisfies kind 1 (zone_of kind bytes) (marking_of tokens)) (sym initial) has, refl))

  pub strict_two_is_taken : (net : Net B) (s : State) → 1 ≤ net.places → Posting s → s.initial ≡ record { place = 0; age = 2 } ∷ [] → kind.marks ≡ true → NumberIs (post_table kind net s true (record_of_one free below_2)) None
  strict_two_is_taken net s some posting initial marks =
      let bytes = record_of_one free below_2 in
      let younger : Satisfies kind 1 (zone_of kind bytes) (token_of_age 1) = subst (λ z. Satisfies kind 1 z (token_of_age 1)) (sym (below_two_zone kind)) (satisfies_same kind (0 ∷ []) _ _ (below_two_bounds kind marks) (token_of_age 1) (one_below_two kind marks)) in
      well_posted net s bytes None posting (below_two_well net.places some) (below_two_marked kind.marks marks) (met (zone_of kind bytes) (token_of_age 1) younger)
      (inr (λ has. two_below_two kind marks (satisfies_same kind (0 ∷ []) _ _ (same_back kind 2 _ _ (below_two_bounds kind marks)) (token_of_age 2) (subst (λ z. Satisfies kind 1 z (token_of_age 2)) (below_two_zone kind) (subst (λ tokens. Satisfies kind 1 (zone_of kind bytes) (marking_of tokens)) initial has))), refl))
