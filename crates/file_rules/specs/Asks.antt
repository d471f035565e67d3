-- What a file asks for after its net records: calls on a blank docket in their order, each with the
-- number of its record.
--     docket header      how many initial tokens and listed zones follow
--     initial tokens     with the target, what open is given
--     zones              one post each; after the last comes the close, which has no record
--     vouchers           one discharge each, to the end of the file
-- A record that is cut short, or has a spare bit set where no call looks, is refused before any
-- call. Whoever watches the walk hears of each record in his own words.
use Rattle.std.specs.Prelude.{ℕ, zero, suc, ◌+◌, ◌*◌, ◌/◌, List, [], ◌∷◌, ◌++◌, map, length, take}
use Rattle.std.specs.Prelude.{drop, replicate, Ok, Err, Result, nat_lt, if◌then◌else◌}
use Rattle.bounds.specs.Kinds.{Kind}
use Rattle.docket_records.specs.DocketRecords.{docket_header, docket_header_of, initial_token}
use Rattle.docket_records.specs.DocketRecords.{token_of}
use Rattle.docket_records.specs.declared.docket_header.DocketHeader.{DocketHeader}
use Rattle.docket_records.specs.declared.fault.EntryRefusal.{EntryRefusal}
use Rattle.docket_records.specs.declared.fault.EntryRefusal.TheVariants.{WrongLength}
use Rattle.docket_records.specs.declared.token.InitialToken.{InitialToken}
use Rattle.docket_rules.specs.Calls.{Call, Open, Post, Close, Discharge}
use Rattle.docket_records.specs.declared.voucher.Voucher.{Voucher}
use Rattle.docket_rules.specs.Tables.{Answer, Given, given}
use Rattle.docket_rules.specs.Worlds.{State, World}
use Rattle.docket_records.specs.Records.{header_size, token_size, voucher_size, zone_size}
use Rattle.zone_cells.specs.Sizes.{draft_cells}

-- what a watcher says of the docket header, of an initial token by its number, of a zone that was
-- taken into this world, and of a voucher that this docket is about to answer
pub record Words (B : Type 0) : Type 0 where
  pub header : DocketHeader → List ℕ
  pub token : (number : ℕ) → InitialToken → List ℕ
  pub zone : World B → List ℕ
  pub voucher : State → Voucher → List ℕ

pub data Ask (B : Type 0) : Type 0 where
  -- a record that is read without a call
  Read : (said : Words B → List ℕ) → Ask B
  -- a record that is refused before any call
  Refuse : (at : ℕ) (refusal : EntryRefusal) → Ask B
  -- a call, up to its answer
  Make : (at : ℕ) (call : Answer → Call B) → Ask B

-- ---- the docket header and the initial tokens
abbrev pub read_ask : {B X : Type 0} → ℕ → (X → Words B → List ℕ) → Result X EntryRefusal → Ask B
read_ask at said (Ok x) = Read (said x)
read_ask at said (Err refusal) = Refuse at refusal

abbrev pub header_ask : {B : Type 0} → ℕ → (rest : List ℕ) → Ask B
header_ask at rest =
    read_ask at (λ header words. words.header header) (docket_header (take header_size rest))

abbrev pub token_ask : {B : Type 0} → (number at : ℕ) → (rest : List ℕ) → Ask B
token_ask number at rest =
    read_ask at (λ token words. words.token number token) (initial_token (take token_size rest))

-- n tokens, the first of them record `at`
abbrev pub initial_tokens_of : (n : ℕ) → (rest : List ℕ) → List InitialToken
initial_tokens_of zero rest = []
initial_tokens_of (suc n) rest =
    token_of (take token_size rest) ∷ initial_tokens_of n (drop token_size rest)

-- n tokens, of which the first has this number
abbrev pub tokens_asked : {B : Type 0} → (n number at : ℕ) → (rest : List ℕ) → List (Ask B)
tokens_asked zero number at rest = []
tokens_asked (suc n) number at rest =
    token_ask number at rest ∷ tokens_asked n (number + 1) (at + 1) (drop token_size rest)

abbrev pub places_given : List InitialToken → List ℕ
places_given tokens = map (λ t. t.place) tokens

abbrev pub ages_given : List InitialToken → List ℕ
ages_given tokens = map (λ t. t.age) tokens

abbrev pub as_given : List InitialToken → Given
as_given tokens = given (places_given tokens) (ages_given tokens)

-- ---- the calls
-- the scratch page is lent with no limit in each cell
abbrev pub scratch_page : {B : Type 0} → Kind B → List B
scratch_page kind = replicate draft_cells kind.no_limit

-- the call with a record of so many bytes
abbrev pub with_record : {B : Type 0} → (size at : ℕ) → (rest : List ℕ) →
    (List ℕ → Answer → Call B) → Ask B
with_record size at rest call =
    if nat_lt (length rest) size then Refuse at WrongLength else Make at (call (take size rest))

module _ {B : Type 0} (kind : Kind B) where
  abbrev pub target_ask : (tokens : List InitialToken) (at : ℕ) (rest : List ℕ) → Ask B
  target_ask tokens at rest =
      with_record zone_size at rest (λ target. Open (as_given tokens) target (scratch_page kind))

  abbrev pub zone_ask : (at : ℕ) (rest : List ℕ) → Ask B
  zone_ask at rest = with_record zone_size at rest (λ zone. Post zone (scratch_page kind))

  abbrev pub voucher_ask : (at : ℕ) (rest : List ℕ) → Ask B
  voucher_ask at rest =
      with_record voucher_size at rest (λ voucher. Discharge voucher (scratch_page kind))

  abbrev pub vouchers_asked : (n at : ℕ) (rest : List ℕ) → List (Ask B)
  vouchers_asked zero at rest = []
  vouchers_asked (suc n) at rest =
      voucher_ask at rest ∷ vouchers_asked n (at + 1) (drop voucher_size rest)

  -- so many vouchers there are to the end, the last perhaps cut short
  abbrev pub voucher_count : (rest : List ℕ) → ℕ
  voucher_count rest = (length rest + 5) / voucher_size

  abbrev pub proving_asked : (at : ℕ) (rest : List ℕ) → List (Ask B)
  proving_asked at rest = Make at Close ∷ vouchers_asked (voucher_count rest) at rest

  -- n zones, and what follows them
  abbrev pub zones_asked : (n at : ℕ) (rest : List ℕ) → List (Ask B)
  zones_asked zero at rest = proving_asked at rest
  zones_asked (suc n) at rest = zone_ask at rest ∷ zones_asked n (at + 1) (drop zone_size rest)

  abbrev pub target_asked : (tokens : List InitialToken) (zones at : ℕ) (rest : List ℕ) →
      List (Ask B)
  target_asked tokens zones at rest =
      target_ask tokens at rest ∷ zones_asked zones (at + 1) (drop zone_size rest)

  abbrev pub marking_asked : DocketHeader → (at : ℕ) (rest : List ℕ) → List (Ask B)
  marking_asked h at rest = tokens_asked h.initial 1 at rest
      ++ target_asked (initial_tokens_of h.initial rest) h.zones (at
      + h.initial) (drop (token_size * h.initial) rest)

  -- the docket part of a file, its header record `at`
  abbrev pub docket_asked : (at : ℕ) (rest : List ℕ) → List (Ask B)
  docket_asked at rest =
      header_ask at rest
      ∷ marking_asked (docket_header_of (take header_size rest)) (at + 1) (drop header_size rest)
