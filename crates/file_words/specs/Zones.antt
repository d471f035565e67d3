-- A zone, written for people: its tokens with their places, and the table of its bounds.
use Rattle.std.specs.Prelude.{ℕ, ◌+◌, List, [], ◌∷◌, ◌++◌, codes, decimal, length, slice_index}
use Rattle.net_words.specs.Summaries.{counted_text}
use Rattle.file_words.specs.Tables.{below, numbered_text, table_text}

-- the target is number 0, and the listed zones follow it
abbrev pub name_text : ℕ → List ℕ
name_text n = numbered_text (codes "target") (codes "zone") n

abbrev pub title_line : ℕ → ℕ → List ℕ
title_line n tokens =
    name_text n ++ (codes ": " ++ (counted_text tokens (codes "token") ++ (10 ∷ [])))

abbrev pub place_line : ℕ → ℕ → List ℕ
place_line number place =
    codes "  token " ++ (decimal number ++ (codes " in place " ++ (decimal place ++ (10 ∷ []))))

-- a line for each token, numbered from 1
abbrev pub places_text : List ℕ → List ℕ
places_text places = below (λ t. place_line (t + 1) (slice_index places t)) (length places)

abbrev pub zone_text : {B : Type 0} → (B → List ℕ) → ℕ → List ℕ → (ℕ → ℕ → B) → List ℕ
zone_text words number places bounds =
    title_line number (length places)
    ++ (places_text places ++ table_text words bounds (length places + 1))
