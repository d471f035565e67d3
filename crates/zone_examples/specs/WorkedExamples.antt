-- Small zones worked out by hand, over every kind of bounds: each statement says what the rules
-- make of numbers written out, as zones or as the bytes of a record, and by which number a call
-- that is given them is refused.
use Rattle.std.specs.Prelude.{◌≡◌, ℕ, zero, suc, ◌≤◌, true, false, ◌⊎◌, List, [], ◌∷◌, ◌++◌}
use Rattle.std.specs.Prelude.{replicate, pos, neg_ℤ, slice_index_or, IsTrue, Some, None, Option}
use Rattle.bounds.specs.Kinds.{Kind}
use Rattle.bounds.specs.declared.range.Range.{Range}
use Rattle.nets.specs.Markings.{Marking}
use Rattle.nets.specs.Nets.{Net, Transition}
use Rattle.zone_walks.specs.Walks.{Matrix, counted, NormalForm}
use Rattle.zones.specs.Predecessors.{DelayPredecessor, FiringPredecessor, matches, narrowed}
use Rattle.zones.specs.Zones.{Zone, Inconsistent, InNormalForm, NormalOf, Satisfies}
use Rattle.docket_rules.specs.Tables.{Answer, Answers, Rule, is_listing, most_listed, number_of}
use Rattle.docket_rules.specs.Tables.{post_table, record_rules}
use Rattle.docket_rules.specs.Worlds.{State, listed_count}

-- bounds written out: row j, column i
abbrev pub table : {B : Type 0} → B → List (List B) → Matrix B
table none rows j i = slice_index_or (slice_index_or rows j []) i none

module _ {B : Type 0} (kind : Kind B) where
  -- the bounds n, -n and n strict
  abbrev pub plus : ℕ → B
  plus n = kind.number (pos n) false

  abbrev pub minus : ℕ → B
  minus n = kind.number (neg_ℤ (pos n)) false

  abbrev pub strictly : ℕ → B
  strictly n = kind.number (pos n) true

  -- the ages from low to high
  abbrev pub between : (low high : ℕ) → Range B
  between low high = record { upper = plus high; lower = minus low }

  -- one token in a place; the bounds (1,0) and (0,1)
  abbrev pub one_token : (place : ℕ) (upper lower : B) → Zone B
  one_token place upper lower =
      record {
        places = place ∷ [];
        bound = table kind.no_limit
            ((kind.zero ∷ lower ∷ [])
            ∷ (upper ∷ kind.zero ∷ [])
            ∷ []);
      }

  -- two tokens in their places; the bounds (0,1), (0,2), (1,0), (1,2), (2,0), (2,1)
  abbrev pub two_tokens : (first second : ℕ) (b01 b02 b10 b12 b20 b21 : B) → Zone B
  two_tokens first second b01 b02 b10 b12 b20 b21 =
      record {
        places = first ∷ second ∷ [];
        bound = table kind.no_limit
            ((kind.zero ∷ b01 ∷ b02 ∷ [])
            ∷ (b10 ∷ kind.zero ∷ b12 ∷ [])
            ∷ (b20 ∷ b21 ∷ kind.zero ∷ [])
            ∷ []);
      }

  -- ---- two tokens, the first narrowed, and a delay before that
  abbrev pub up_to_eight : Zone B
  up_to_eight = two_tokens 0 0 (plus 0) (plus 0) (plus 8) (plus 8) (plus 8) (plus 4)

  abbrev pub one_to_six : Zone B
  one_to_six = two_tokens 0 0 (minus 1) (plus 0) (plus 6) (plus 6) (plus 8) (plus 4)

  abbrev pub up_to_six : Zone B
  up_to_six = two_tokens 0 0 (plus 0) (plus 0) (plus 6) (plus 6) (plus 8) (plus 4)

  -- ---- tokens of one age in the places 1 and 2, and a firing that put the second there with the
  -- age 3
  abbrev pub same_age : Zone B
  same_age =
      two_tokens 1 2 kind.no_limit kind.no_limit kind.no_limit (plus 0) kind.no_limit (plus 0)

  abbrev pub same_age_form : Zone B
  same_age_form = two_tokens 1 2 (plus 0) (plus 0) kind.no_limit (plus 0) kind.no_limit (plus 0)

  abbrev pub puts_at_three : Transition B
  puts_at_three =
      record {
        inputs = record { place = 0; range = between 0 1 } ∷ [];
        outputs = record { place = 2; range = between 3 3 } ∷ [];
      }

  -- the first token keeps the age 3, which it had because the second one had it
  abbrev pub before_firing : Zone B
  before_firing = two_tokens 1 0 (minus 3) (plus 0) (plus 3) (plus 3) (plus 1) (minus 2)

  -- ---- initial markings
  abbrev pub no_tokens : Zone B
  no_tokens = record { places = []; bound = table kind.no_limit [] }

-- one token in place 0
abbrev pub token_of_age : ℕ → Marking
token_of_age n = record { place = 0; age = n } ∷ []

-- ---- records of 192 bytes: one token in place 0, or none
-- two bounds without limit, one after the other
abbrev pub free : List ℕ
free = 64 ∷ 0 ∷ 4 ∷ 0 ∷ 0 ∷ []

abbrev pub free_pairs : ℕ → List ℕ
free_pairs zero = []
free_pairs (suc n) = free ++ free_pairs n

-- a bound, and one without limit: -3, 2, 2 strict, 3, 3 strict
abbrev pub at_least_3 : List ℕ
at_least_3 = 127 ∷ 255 ∷ 212 ∷ 0 ∷ 0 ∷ []

abbrev pub at_most_2 : List ℕ
at_most_2 = 0 ∷ 0 ∷ 36 ∷ 0 ∷ 0 ∷ []

abbrev pub below_2 : List ℕ
below_2 = 128 ∷ 0 ∷ 36 ∷ 0 ∷ 0 ∷ []

abbrev pub at_most_3 : List ℕ
at_most_3 = 0 ∷ 0 ∷ 52 ∷ 0 ∷ 0 ∷ []

abbrev pub below_3 : List ℕ
below_3 = 128 ∷ 0 ∷ 52 ∷ 0 ∷ 0 ∷ []

-- the bounds (0,1) and (0,2), and (1,0) and (1,2)
abbrev pub record_of_one : (lower upper : List ℕ) → List ℕ
record_of_one lower upper =
    (1 ∷ replicate 11 0) ++ (lower ++ (free_pairs 3 ++ (upper ++ free_pairs 31)))

abbrev pub record_of_none : List ℕ
record_of_none = replicate 12 0 ++ free_pairs 36

-- ---- the number of the first rule that holds; none where no rule holds
abbrev pub FirstNumber : List Rule → Option ℕ → Type 0
FirstNumber [] number = number ≡ None
FirstNumber (r ∷ later) number =
    (r.when × (number ≡ Some r.number)) ⊎ ((r.when → ⊥) × FirstNumber later number)

-- and so what each answer by the table is refused with
pub record NumberIs (table : List Rule) (number : Option ℕ) : Type 0 where
  pub first : FirstNumber table number
  pub answered : (answer : Answer) → Answers table answer → number_of answer ≡ number

-- a zone can be posted, by the state alone
pub record Posting (s : State) : Type 0 where
  pub listing : IsTrue (is_listing s.stage)
  pub room : listed_count s ≡ most_listed → ⊥

pub record WorkedExamples {B : Type 0} (kind : Kind B) : Type 0 where
  pub a_normal_form : InNormalForm kind (up_to_eight kind)
  pub its_own_normal_form : NormalOf kind (up_to_eight kind) (up_to_eight kind)
  -- its first token narrowed by the range from 1 to 6
  pub narrowed_by_one_to_six : NormalForm kind 3
      (counted kind (narrowed kind 1 (between kind 1 6) (up_to_eight kind).bound))
      (one_to_six kind).bound
  pub its_delay_predecessor : DelayPredecessor kind (one_to_six kind) (up_to_six kind)
  -- the clock's bounds count as zero
  pub no_age_below_zero : NormalOf kind (same_age kind) (same_age_form kind)
  pub second_token_matches : IsTrue (matches (same_age_form kind).places
      (puts_at_three kind).outputs (2 ∷ []))
  -- the second token is narrowed before it is taken off, so the first one is narrowed with it
  pub narrowed_before_taken_off : FiringPredecessor kind (puts_at_three kind) (2 ∷ [])
      (same_age_form kind) (before_firing kind)
  -- an age of at most 2 and at least 3
  pub two_below_three : Inconsistent kind (one_token kind 0 (plus kind 2) (minus kind 3))
  -- an age of at most 3 and at least 3
  pub three_meets_three : Inconsistent kind (one_token kind 0 (plus kind 3) (minus kind 3)) → ⊥
  pub three_itself : InNormalForm kind (one_token kind 0 (plus kind 3) (minus kind 3))
  -- an age below 3 and at least 3, in a kind that takes the mark
  pub strict_three : kind.marks ≡ true → Inconsistent kind
      (one_token kind 0 (strictly kind 3) (minus kind 3))
  -- every marking satisfies a zone of no tokens, so such a zone is never listed
  pub none_asked : (m : Marking) → Satisfies kind 1 (no_tokens kind) m
  -- a token of age 2 is at most 2 old, and not below 2, in a kind that takes the mark
  pub two_at_most_two : Satisfies kind 1 (one_token kind 0 (plus kind 2) kind.no_limit)
      (token_of_age 2)
  pub two_below_two : kind.marks ≡ true → Satisfies kind 1
      (one_token kind 0 (strictly kind 2) kind.no_limit) (token_of_age 2) → ⊥
  -- ---- by record and number, under a net with the place 0
  -- an age of at most 2 and at least 3 is refused as inconsistent
  pub two_is_25 : (places : ℕ) → 1 ≤ places →
      NumberIs (record_rules kind places (record_of_one at_least_3 at_most_2)) (Some 25)
  -- of at most 3 is not refused, and below 3 is
  pub three_is_none : (places : ℕ) → 1 ≤ places →
      NumberIs (record_rules kind places (record_of_one at_least_3 at_most_3)) None
  pub strict_three_is_25 : (places : ℕ) → 1 ≤ places → kind.marks ≡ true →
      NumberIs (record_rules kind places (record_of_one at_least_3 below_3)) (Some 25)
  -- a listed zone of no tokens has every initial marking
  pub none_is_26 : (net : Net B) (s : State) → Posting s →
      NumberIs (post_table kind net s true record_of_none) (Some 26)
  -- with one initial token, of age 2: at most 2 has it, and below 2 is taken
  pub two_is_26 : (net : Net B) (s : State) → 1 ≤ net.places → Posting s →
      s.initial ≡ record { place = 0; age = 2 } ∷ [] →
      NumberIs (post_table kind net s true (record_of_one free at_most_2)) (Some 26)
  pub strict_two_is_taken : (net : Net B) (s : State) → 1 ≤ net.places → Posting s →
      s.initial ≡ record { place = 0; age = 2 } ∷ [] → kind.marks ≡ true →
      NumberIs (post_table kind net s true (record_of_one free below_2)) None
