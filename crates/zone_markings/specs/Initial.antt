-- The marking that initial tokens are.
use Rattle.std.specs.Prelude.{ℕ, List, map}
use Rattle.docket_records.specs.declared.token.InitialToken.{InitialToken}
use Rattle.nets.specs.Markings.{Token, Marking}
use Rattle.nets.specs.Nets.{numbered}
use Rattle.zones.specs.Zones.{no_token}

abbrev pub as_token : InitialToken → Token
as_token t = record { place = t.place; age = t.age }

-- their ages count whole units
abbrev pub marking_of : List InitialToken → Marking
marking_of tokens = map as_token tokens

abbrev pub clock : InitialToken
clock = record { place = 0; age = 0 }

-- the token with this number, from 1; the clock, 0, is at age 0
abbrev pub token_at : Marking → ℕ → Token
token_at m n = numbered m n no_token
