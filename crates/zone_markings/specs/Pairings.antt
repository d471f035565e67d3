-- Pairing the tokens of a zone with numbered tokens, one after the other.
--     search    what numbers there are, where each stands, and which pairs of them two points of
--               the zone allow
--     chosen    the clock, 0, and the number of the token that each token of the zone so far is
--               paired with
use Rattle.std.specs.Prelude.{ℕ, Bool, true, not, ◌&&◌, List, [], ◌∷◌, ◌++◌, length, pos, ◌-ℤ◌}
use Rattle.std.specs.Prelude.{◌==◌}
use Rattle.std.specs.List.{list_any, list_all, range_with_len, zip}
use Rattle.bounds.specs.Kinds.{Kind}
use Rattle.zone_markings.specs.Initial.{marking_of, token_at}
use Rattle.docket_records.specs.declared.token.InitialToken.{InitialToken}
use Rattle.zone_cells.specs.Cells.{in_draft}
use Rattle.nets.specs.Markings.{Marking}
use Rattle.zone_walks.specs.Walks.{Matrix}
use Rattle.zones.specs.Predecessors.{among}

pub record Search : Type 0 where
  pub count : ℕ
  pub place : ℕ → ℕ
  -- points j and i may have these numbers
  pub allows : (j i number other : ℕ) → Bool

-- among the tokens of a marking: the bound of two points allows the difference of the ages of two
-- numbers
abbrev pub by_ages : {B : Type 0} → Kind B → Matrix B → Marking → Search
by_ages kind d m =
    record {
      count = length m;
      place = λ number. (token_at m number).place;
      allows = λ j i number other.
          kind.allows 1 (d j i) (pos (token_at m number).age -ℤ pos (token_at m other).age);
    }

-- among initial tokens, for a zone in a draft
abbrev pub search_of : {B : Type 0} → Kind B → List B → List InitialToken → Search
search_of kind cells tokens = by_ages kind (in_draft kind cells) (marking_of tokens)

module _ (s : Search) where
  -- both ways between the next token of the zone and an earlier point
  abbrev pub allows_both : ℕ → ℕ → ℕ × ℕ → Bool
  allows_both next number p = s.allows next p.0 number p.1 && s.allows p.0 next p.1 number

  -- and every earlier point
  abbrev pub allows_all : List ℕ → ℕ → Bool
  allows_all chosen number =
      list_all (allows_both (length chosen) number) (zip (range_with_len 0 (length chosen)) chosen)

  -- the next token of the zone, in this place, can be paired with the number
  abbrev pub number_fits : List ℕ → ℕ → ℕ → Bool
  number_fits chosen place number =
      not (among number chosen) && (s.place number == place && allows_all chosen number)

  -- the number can be the next, and what is said of the numbers after that holds
  abbrev pub follows : List ℕ → ℕ → (List ℕ → Bool) → ℕ → Bool
  follows chosen place rest number = number_fits chosen place number && rest (chosen ++ number ∷ [])

  -- tokens in these places can be paired after those that are chosen
  abbrev pub extends : List ℕ → List ℕ → Bool
  extends chosen [] = true
  extends chosen (place ∷ places) =
      list_any (follows chosen place (λ more. extends more places)) (range_with_len 1 s.count)

  -- the number can be the next, and tokens in these places can be paired after it
  abbrev pub leads : List ℕ → ℕ → List ℕ → ℕ → Bool
  leads chosen place later number = follows chosen place (λ more. extends more later) number
