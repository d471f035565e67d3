-- The tokens of a zone that a matching names, or those that it does not.
use Rattle.std.specs.Prelude.{ℕ, zero, suc, Bool, not, List, [], ◌∷◌, if◌then◌else◌}
use Rattle.zones.specs.Predecessors.{among}

abbrev pub agrees : Bool → Bool → Bool
agrees a b = if a then b else not b

-- so many tokens from the first one on, those that are among the matching or those that are not
abbrev pub sifted : Bool → List ℕ → ℕ → ℕ → List ℕ
sifted matched matching first zero = []
sifted matched matching first (suc n) =
    if agrees (among first matching) matched then first ∷ sifted matched matching (suc first) n
    else sifted matched matching (suc first) n
