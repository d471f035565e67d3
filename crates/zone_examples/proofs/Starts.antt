-- Which initial markings satisfy small zones, over every kind.
use Rattle.std.proofs.Common.{◌≡◌, ℕ, zero, suc, true, false, [], ◌∷◌, ◌++◌, map, length, pos, ◌-ℤ◌, refl, ap, ◌∙◌, arith}
use Rattle.std.proofs.lemmas.Bool.{both_ways}
use Rattle.bounds.specs.Kinds.{Kind}
use Rattle.nets.specs.Markings.{Marking, Token, Permuted}
use Rattle.nets.proofs.Bags.{permuted_same}
use Rattle.zone_walks.specs.Walks.{Matrix}
use Rattle.zones.proofs.Bags.{Taken, Without, taken_back}
use Rattle.zones.proofs.Bags.Taken.{here, there}
use Rattle.zones.proofs.Between.{Between, to_counted, from_counted}
use Rattle.zones.specs.Zones.{Satisfies, age_of}
use Rattle.zone_examples.proofs.Computed.{unmarked_named}
use Rattle.zone_examples.specs.WorkedExamples.{no_tokens, one_token, plus, strictly, token_of_age}

-- the token that a bag of one token has
only : (t c : Token) (rest : Marking) → Permuted (t ∷ []) (c ∷ rest) → t ≡ c
only t c rest p = first (taken_back c p (here c rest refl))
  where
    first : Without c (t ∷ []) rest → t ≡ c
    first w = taken w.taken
      where
        taken : {left : Marking} → Taken c (t ∷ []) left → t ≡ c
        taken (here x xs e) = e
        taken (there x h) = elim h [ ]

module _ {B : Type 0} (kind : Kind B) where
  pub none_asked_of : (d : Matrix B) (m : Marking) → Satisfies kind 1 (record { places = []; bound = d }) m
  none_asked_of d m =
      record {
        chosen = [];
        rest = m;
        pairing = permuted_same m;
        places = refl;
        allowed = to_counted kind 1 (omega arith) 1 d [] (λ j i p q apart. absurd (apart (omega (arith, p, q))));
      }

  pub none_asked : (m : Marking) → Satisfies kind 1 (no_tokens kind) m
  none_asked m = none_asked_of (no_tokens kind).bound m

  -- a token of age n, where its bound allows that
  module _ (u : B) (n : ℕ) (allowed : kind.allows 1 u (pos n -ℤ pos 0) ≡ true) where
    between_clock : Between kind 1 2 (one_token kind 0 u kind.no_limit).bound (age_of (token_of_age n))
    between_clock zero zero p q apart = absurd (apart refl)
    between_clock zero (suc zero) p q apart = kind.no_limit_allows 1 _ (omega arith)
    between_clock (suc zero) zero p q apart = allowed
    between_clock (suc zero) (suc zero) p q apart = absurd (apart refl)
    between_clock zero (suc (suc i)) p q apart = absurd (omega (arith, q))
    between_clock (suc zero) (suc (suc i)) p q apart = absurd (omega (arith, q))
    between_clock (suc (suc j)) i p q apart = absurd (omega (arith, p))

    pub allowed_age : Satisfies kind 1 (one_token kind 0 u kind.no_limit) (token_of_age n)
    allowed_age =
        record {
          chosen = token_of_age n;
          rest = [];
          pairing = permuted_same (token_of_age n);
          places = refl;
          allowed = to_counted kind 1 (omega arith) 2 (one_token kind 0 u kind.no_limit).bound (token_of_age n) between_clock;
        }

  pub two_at_most_two : Satisfies kind 1 (one_token kind 0 (plus kind 2) kind.no_limit) (token_of_age 2)
  two_at_most_two = allowed_age (plus kind 2) 2 (kind.numbers_allow 1 (pos 2) false (pos 2) (omega arith) (unmarked_named kind (pos 2) refl))

  pub one_below_two : kind.marks ≡ true → Satisfies kind 1 (one_token kind 0 (strictly kind 2) kind.no_limit) (token_of_age 1)
  one_below_two m = allowed_age (strictly kind 2) 1 (kind.numbers_allow 1 (pos 2) true (pos 1) (omega arith) (record { small = omega arith; takes = λ e. m }))

  two_allowed : (chosen rest : Marking) → map (λ t. t.place) chosen ≡ 0 ∷ [] → Permuted (token_of_age 2) (chosen ++ rest) → Between kind 1 2 (one_token kind 0 (strictly kind 2) kind.no_limit).bound (age_of chosen) → kind.allows 1 (strictly kind 2) (pos 2) ≡ true
  two_allowed [] rest places p between = absurd (omega (arith, ap length places))
  two_allowed (c ∷ chosen) rest places p between =
      ap (λ t. kind.allows 1 (strictly kind 2) (pos t.age -ℤ pos 0)) (only (record { place = 0; age = 2 }) c (chosen ++ rest) p)
      ∙ between 1 0 (omega arith) (omega arith) (λ e. omega (arith, e))

  pub two_below_two : kind.marks ≡ true → Satisfies kind 1 (one_token kind 0 (strictly kind 2) kind.no_limit) (token_of_age 2) → ⊥
  two_below_two m s =
      let z = one_token kind 0 (strictly kind 2) kind.no_limit in
      both_ways (kind.allows 1 (strictly kind 2) (pos 2)) (kind.numbers_allow 1 (pos 2) true (pos 2) (omega arith) (record { small = omega arith; takes = λ e. m }))
      (two_allowed s.chosen s.rest s.places s.pairing (from_counted kind 1 (omega arith) 2 z.bound (age_of s.chosen) s.allowed))
