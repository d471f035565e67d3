-- The worked examples hold, over every kind.
use Rattle.std.proofs.Common.{zero, suc, None, [], ◌∷◌, refl, arith}
use Rattle.bounds.specs.Kinds.{Kind}
use Rattle.zone_walks.specs.Walks.{Matrix, counted, Still}
use Rattle.zone_walks.proofs.Closed.{Same}
use Rattle.zone_walks.proofs.NormalForms.{same_back}
use Rattle.zones.specs.Predecessors.{narrowed, released, with_token, picked, FiringPredecessor}
use Rattle.zone_examples.specs.WorkedExamples.{WorkedExamples, between, up_to_eight, one_to_six, up_to_six, same_age, same_age_form, puts_at_three, before_firing}
use Rattle.zone_examples.proofs.Computed.{Entry, each}
use Rattle.zone_examples.proofs.Numbers.{none_is_26, strict_three_is_25, strict_two_is_taken, three_is_none, two_is_25, two_is_26}
use Rattle.zone_examples.proofs.OneToken.{below_three, down, one_still, three_three_solved, two_three, up}
use Rattle.zone_examples.proofs.Starts.{none_asked, two_at_most_two, two_below_two}
use Rattle.zone_examples.proofs.Squares.{square, square_same, narrowed_entries, released_entries, with_token_entries, narrowed_same, released_same, with_token_same, Solved, solved}

abbrev eight : Matrix Entry
eight = square (up 0) (up 0) (up 8) (up 8) (up 8) (up 4)

abbrev six_above_one : Matrix Entry
six_above_one = square (down 1) (up 0) (up 6) (up 6) (up 8) (up 4)

abbrev six : Matrix Entry
six = square (up 0) (up 0) (up 6) (up 6) (up 8) (up 4)

abbrev equal : Matrix Entry
equal = square None None None (up 0) None (up 0)

abbrev equal_form : Matrix Entry
equal_form = square (up 0) (up 0) None (up 0) None (up 0)

-- the second token narrowed to the age 3
abbrev both_three : Matrix Entry
both_three = square (down 3) (down 3) (up 3) (up 0) (up 3) (up 0)

abbrev before : Matrix Entry
before = square (down 3) (up 0) (up 3) (up 3) (up 1) (down 2)

module _ {B : Type 0} (kind : Kind B) where
  eight_same : Same 3 (up_to_eight kind).bound (each kind eight)
  eight_same = square_same kind 0 0 (up 0) (up 0) (up 8) (up 8) (up 8) (up 4)

  six_above_one_same : Same 3 (one_to_six kind).bound (each kind six_above_one)
  six_above_one_same = square_same kind 0 0 (down 1) (up 0) (up 6) (up 6) (up 8) (up 4)

  six_same : Same 3 (up_to_six kind).bound (each kind six)
  six_same = square_same kind 0 0 (up 0) (up 0) (up 6) (up 6) (up 8) (up 4)

  equal_same : Same 3 (same_age kind).bound (each kind equal)
  equal_same = square_same kind 1 2 None None None (up 0) None (up 0)

  equal_form_same : Same 3 (same_age_form kind).bound (each kind equal_form)
  equal_form_same = square_same kind 1 2 (up 0) (up 0) None (up 0) None (up 0)

  before_same : Same 3 (before_firing kind).bound (each kind before)
  before_same = square_same kind 1 0 (down 3) (up 0) (up 3) (up 3) (up 1) (down 2)

  back : (x : Matrix B) (y : Matrix Entry) → Same 3 x (each kind y) → Same 3 (each kind y) x
  back x y = same_back kind 3 x (each kind y)

  -- ---- two tokens
  eight_solved : Solved kind 3 (counted kind (up_to_eight kind).bound) (up_to_eight kind).bound
  eight_solved = solved kind 3 (up_to_eight kind).bound (up_to_eight kind).bound eight eight (omega arith) eight_same (back _ eight eight_same) refl

  narrowed_solved : Solved kind 3 (counted kind (narrowed kind 1 (between kind 1 6) (up_to_eight kind).bound)) (one_to_six kind).bound
  narrowed_solved =
      solved kind 3 (narrowed kind 1 (between kind 1 6) (up_to_eight kind).bound) (one_to_six kind).bound (narrowed_entries 1 (up 6) (down 1) eight) six_above_one (omega arith)
      (narrowed_same kind 3 (up_to_eight kind).bound eight eight_same 1 (up 6) (down 1) refl refl refl) (back _ six_above_one six_above_one_same) refl

  released_solved : Solved kind 3 (counted kind (released kind (one_to_six kind).bound)) (up_to_six kind).bound
  released_solved =
      solved kind 3 (released kind (one_to_six kind).bound) (up_to_six kind).bound (released_entries six_above_one) six (omega arith)
      (released_same kind 3 (one_to_six kind).bound six_above_one six_above_one_same) (back _ six six_same) refl

  -- ---- a firing
  equal_solved : Solved kind 3 (counted kind (same_age kind).bound) (same_age_form kind).bound
  equal_solved = solved kind 3 (same_age kind).bound (same_age_form kind).bound equal equal_form (omega arith) equal_same (back _ equal_form equal_form_same) refl

  three_solved : Solved kind 3 (counted kind (narrowed kind 2 (between kind 3 3) (same_age_form kind).bound)) (each kind both_three)
  three_solved =
      solved kind 3 (narrowed kind 2 (between kind 3 3) (same_age_form kind).bound) (each kind both_three) (narrowed_entries 2 (up 3) (down 3) equal_form) both_three (omega arith)
      (narrowed_same kind 3 (same_age_form kind).bound equal_form equal_form_same 2 (up 3) (down 3) refl refl refl) (λ j i p q. refl) refl

  before_solved : Solved kind 3 (counted kind (with_token kind 2 (between kind 0 1) (picked (0 ∷ 1 ∷ []) (each kind both_three)))) (before_firing kind).bound
  before_solved =
      solved kind 3 (with_token kind 2 (between kind 0 1) (picked (0 ∷ 1 ∷ []) (each kind both_three))) (before_firing kind).bound (with_token_entries 2 (up 1) (down 0) (picked (0 ∷ 1 ∷ []) both_three)) before (omega arith)
      (λ j i p q. with_token_same kind 2 (up 1) (down 0) (picked (0 ∷ 1 ∷ []) both_three) j i) (back _ before before_same) refl

  fired : FiringPredecessor kind (puts_at_three kind) (2 ∷ []) (same_age_form kind) (before_firing kind)
  fired = record { possible = three_solved.none; narrow = each kind both_three; narrows = three_solved.normal; places = refl; bounds = before_solved.normal }

  two_still : Still kind 3 (up_to_eight kind).bound
  two_still zero p = refl
  two_still (suc zero) p = refl
  two_still (suc (suc zero)) p = refl
  two_still (suc (suc (suc j))) p = absurd (omega (arith, p))

pub worked_examples_hold : {B : Type 0} (kind : Kind B) → WorkedExamples kind
worked_examples_hold kind =
    record {
      a_normal_form = record { still = two_still kind; bounds = (eight_solved kind).normal };
      its_own_normal_form = record { places = refl; bounds = (eight_solved kind).normal };
      narrowed_by_one_to_six = (narrowed_solved kind).normal;
      its_delay_predecessor = record { places = refl; bounds = (released_solved kind).normal };
      no_age_below_zero = record { places = refl; bounds = (equal_solved kind).normal };
      second_token_matches = refl;
      narrowed_before_taken_off = fired kind;
      two_below_three = two_three kind;
      three_meets_three = (three_three_solved kind).none;
      three_itself = record { still = one_still kind; bounds = (three_three_solved kind).normal };
      strict_three = below_three kind;
      none_asked = none_asked kind;
      two_at_most_two = two_at_most_two kind;
      two_below_two = two_below_two kind;
      two_is_25 = two_is_25 kind;
      three_is_none = three_is_none kind;
      strict_three_is_25 = strict_three_is_25 kind;
      none_is_26 = none_is_26 kind;
      two_is_26 = two_is_26 kind;
      strict_two_is_taken = strict_two_is_taken kind;
    }
