-- What a line says of the bytes: of a sealed one, that the net which they say is safe; of a due
-- one, which item is next.
use Rattle.std.specs.Prelude.{◌≡◌, ℕ, zero, suc, ◌+◌, ◌*◌, List, [], ◌∷◌, take, drop, length, Some}
use Rattle.std.specs.Prelude.{None}
use Rattle.bounds.specs.Kinds.{Kind}
use Rattle.bounds.specs.MarkedKind.{marked_kind}
use Rattle.bounds.specs.PlainKind.{plain_kind}
use Rattle.docket_dues.specs.Answered.{places_of_all}
use Rattle.docket_dues.specs.Dues.{all_due}
use Rattle.docket_dues.specs.declared.item.Item.{Item}
use Rattle.docket_records.specs.DocketRecords.{docket_header_of}
use Rattle.docket_records.specs.Records.{header_size, token_size, voucher_size, zone_size}
use Rattle.docket_records.specs.ZoneRecords.{zone_of}
use Rattle.docket_records.specs.declared.docket_header.DocketHeader.{DocketHeader}
use Rattle.docket_records.specs.declared.token.InitialToken.{InitialToken}
use Rattle.zone_markings.specs.Initial.{marking_of}
use Rattle.nets.specs.Markings.{Marking}
use Rattle.nets.specs.Nets.{Limits}
use Rattle.net_records.specs.NetBytes.{later_records, net_of}
use Rattle.net_records.specs.NetRecords.{net_fault}
use Rattle.net_records.specs.declared.header.NetKind.{NetKind}
use Rattle.net_records.specs.declared.header.NetKind.TheVariants.{Plain, Marked}
use Rattle.file_rules.specs.Asks.{initial_tokens_of}
use Rattle.file_rules.specs.Reports.{Reports, net_kind_of}
use Rattle.file_rules.specs.declared.line.Line.{Line}
use Rattle.file_rules.specs.declared.line.Line.TheVariants.{Sealed, Due, Refused}
use Rattle.docket_rules.specs.Promise.{first_due}
use Rattle.zones.specs.Safety.{Safe, starts_at}
use Rattle.zones.specs.Zones.{Zone}

-- ---- what the bytes say after the net
abbrev pub file_header_of : List ℕ → DocketHeader
file_header_of bytes = docket_header_of (take header_size (later_records bytes))

abbrev pub tokens_of_file : List ℕ → List InitialToken
tokens_of_file bytes =
    initial_tokens_of (file_header_of bytes).initial (drop header_size (later_records bytes))

abbrev pub initial_of : List ℕ → Marking
initial_of bytes = marking_of (tokens_of_file bytes)

-- where the target's record begins
abbrev pub target_start : List ℕ → ℕ
target_start bytes = header_size + token_size * (file_header_of bytes).initial

abbrev pub target_of : {B : Type 0} → Kind B → List ℕ → Zone B
target_of kind bytes =
    zone_of kind (take zone_size (drop (target_start bytes) (later_records bytes)))

-- n zones, a record each
abbrev pub zones_of : {B : Type 0} → Kind B → (n : ℕ) → (rest : List ℕ) → List (Zone B)
zones_of kind zero rest = []
zones_of kind (suc n) rest =
    zone_of kind (take zone_size rest) ∷ zones_of kind n (drop zone_size rest)

abbrev pub listed_of : {B : Type 0} → Kind B → List ℕ → List (Zone B)
listed_of kind bytes =
    zones_of kind (file_header_of bytes).zones
    (drop (target_start bytes + zone_size) (later_records bytes))

-- what is due for the net and these zones after so many vouchers, the earliest first
abbrev pub left_of : {B : Type 0} → Kind B → List ℕ → (vouchers : ℕ) → List Item
left_of kind bytes vouchers =
    drop vouchers (all_due (net_of kind bytes) (places_of_all (listed_of kind bytes)))

-- ---- a seal
-- a lawful net, and no run of it on any grid from the initial marking covers the target
pub record SafeBytes {B : Type 0} (kind : Kind B) (bytes : List ℕ) : Type 0 where
  pub lawful : Limits kind (net_of kind bytes)
  pub safe : Safe kind (net_of kind bytes) (starts_at (initial_of bytes)) (target_of kind bytes)

abbrev pub SafeOf : NetKind → List ℕ → Type 0
SafeOf Plain bytes = SafeBytes plain_kind bytes
SafeOf Marked bytes = SafeBytes marked_kind bytes

pub record SealTrue (bytes : List ℕ) : Type 0 where
  pub net : net_fault bytes ≡ None
  pub safe : SafeOf (net_kind_of bytes) bytes

abbrev pub Truth : List ℕ → Line → Type 0
Truth bytes (Sealed zones vouchers) = SealTrue bytes
Truth bytes (Due item vouchers) = Unit {0}
Truth bytes (Refused fault) = Unit {0}

-- ---- counts
-- every record of the file was taken: the zones that the header says, and so many vouchers
pub record AllTaken (bytes : List ℕ) (vouchers : ℕ) : Type 0 where
  pub all : length (later_records bytes) ≡ target_start bytes
      + (zone_size + zone_size * (file_header_of bytes).zones) + voucher_size * vouchers

abbrev pub Counts : List ℕ → Line → Type 0
Counts bytes (Sealed zones vouchers) =
    (zones ≡ (file_header_of bytes).zones) × AllTaken bytes vouchers
Counts bytes (Due item vouchers) = AllTaken bytes vouchers
Counts bytes (Refused fault) = Unit {0}

-- ---- items
-- a seal leaves none, and a due line names the first that is left
abbrev pub ItemsUnder : {B : Type 0} → Kind B → List ℕ → Line → Type 0
ItemsUnder kind bytes (Sealed zones vouchers) = left_of kind bytes vouchers ≡ []
ItemsUnder kind bytes (Due item vouchers) = first_due (left_of kind bytes vouchers) ≡ Some item
ItemsUnder kind bytes (Refused fault) = Unit {0}

abbrev pub ItemsOf : NetKind → List ℕ → Line → Type 0
ItemsOf Plain bytes line = ItemsUnder plain_kind bytes line
ItemsOf Marked bytes line = ItemsUnder marked_kind bytes line

abbrev pub Items : List ℕ → Line → Type 0
Items bytes line = ItemsOf (net_kind_of bytes) bytes line

-- ---- what is promised of every file
pub record LinePromise (bytes : List ℕ) : Type 0 where
  pub truth : (line : Line) → Reports bytes line → Truth bytes line
  pub counts : (line : Line) → Reports bytes line → Counts bytes line
  pub items : (line : Line) → Reports bytes line → Items bytes line
  -- the rules give one line alone
  pub one : (line other : Line) → Reports bytes line → Reports bytes other → line ≡ other
