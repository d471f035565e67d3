-- The docket header and the initial tokens that bytes say, and what is wrong with bytes that say
-- none.
--     header    4 bits for the initial tokens, 6 for the listed zones, 22 that are spare; the most
--               significant bit first
--     token     6 bits for the place, 15 for the age, 3 that are spare
use Rattle.std.specs.Prelude.{ℕ, Bool, not, List, Result, ◌==◌}
use Rattle.net_records.specs.Bits.{field}
use Rattle.docket_records.specs.Records.{header_size, read_as, token_size}
use Rattle.docket_records.specs.declared.docket_header.DocketHeader.{DocketHeader}
use Rattle.docket_records.specs.declared.fault.EntryRefusal.{EntryRefusal}
use Rattle.docket_records.specs.declared.token.InitialToken.{InitialToken}

unfoldable pub docket_header_of : List ℕ → DocketHeader
docket_header_of bytes = record { initial = field bytes 0 4; zones = field bytes 4 6 }

unfoldable pub header_spare : List ℕ → Bool
header_spare bytes = not (field bytes 10 22 == 0)

unfoldable pub token_of : List ℕ → InitialToken
token_of bytes = record { place = field bytes 0 6; age = field bytes 6 15 }

unfoldable pub token_spare : List ℕ → Bool
token_spare bytes = not (field bytes 21 3 == 0)

abbrev pub docket_header : List ℕ → Result DocketHeader EntryRefusal
docket_header bytes = read_as header_size header_spare docket_header_of bytes

abbrev pub initial_token : List ℕ → Result InitialToken EntryRefusal
initial_token bytes = read_as token_size token_spare token_of bytes
