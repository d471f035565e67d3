-- The initial tokens that an open is given, or what is wrong with them.
use Rattle.std.specs.Prelude.{ℕ, if◌then◌else◌, ◌||◌, length, Ok, Err, Result, nat_le, nat_lt}
use Rattle.std.specs.List.{list_any}
use Rattle.arrayvec.specs.ArrayVec.{ArrayVec}
use Rattle.docket_records.specs.declared.fault.EntryRefusal.{EntryRefusal}
use Rattle.docket_records.specs.declared.fault.EntryRefusal.TheVariants.{TooMany, NoSuchPlace}
use Rattle.docket_records.specs.declared.token.InitialToken.{InitialToken}
use Rattle.docket_rules.specs.Tables.{Given, initial_tokens, too_old}

abbrev pub gathered : (net_places : ℕ) → Given → Result (ArrayVec InitialToken) EntryRefusal
gathered net_places g =
    if nat_lt 8 (length g.places) || list_any too_old g.ages then Err TooMany
    else if list_any (nat_le net_places) g.places then Err NoSuchPlace
    else Ok (record { items = initial_tokens g })
