-- An item that is due, and what a voucher claims of it, written for people.
use Rattle.std.specs.Prelude.{ℕ, ◌+◌, List, [], ◌∷◌, ◌++◌, codes, decimal, length, take, min}
use Rattle.std.specs.Prelude.{Option, Some, None, ◌==◌, slice_index, if◌then◌else◌}
use Rattle.file_words.specs.Tables.{below}
use Rattle.docket_dues.specs.declared.item.Item.{Item}
use Rattle.docket_records.specs.declared.voucher.Voucher.{Voucher}
use Rattle.docket_rules.specs.Calls.{most_taken, next_due_of}
use Rattle.docket_rules.specs.Tables.{partners_used}
use Rattle.docket_rules.specs.Worlds.{State}
use Rattle.zones.specs.Predecessors.{fields}

abbrev pub spaced_text : List ℕ → ℕ → List ℕ
spaced_text ns i = codes " " ++ decimal (slice_index ns i)

-- numbers, each after a space
abbrev pub numbers_text : List ℕ → List ℕ
numbers_text ns = below (spaced_text ns) (length ns)

-- ---- an item
-- a matching by its four digits
abbrev pub firing_text : ℕ → ℕ → List ℕ
firing_text transition matching =
    codes "transition "
    ++ (decimal transition ++ (codes " by matching" ++ numbers_text (fields matching)))

abbrev pub before_text : ℕ → ℕ → List ℕ
before_text transition matching =
    if transition == 0 then codes "a delay" else firing_text transition matching

abbrev pub item_text : Item → List ℕ
item_text d =
    if d.zone == 0 then codes "the target" else codes "zone "
    ++ (decimal d.zone ++ (codes " before " ++ before_text d.transition d.matching))

-- a voucher can follow the last item
abbrev pub due_text : Option Item → List ℕ
due_text None = codes "no item"
due_text (Some d) = item_text d

-- ---- a voucher
-- the zone that vouches, and for each of its tokens in their order the token of the item that it is
-- paired with
abbrev pub claim_text : Voucher → (used : ℕ) → List ℕ
claim_text v used =
    if v.void then codes "void"
    else (codes "zone "
    ++ (decimal v.zone ++ (codes ", tokens" ++ numbers_text (take used v.partners))))

-- vouchers are numbered from 1
abbrev pub voucher_text : (number : ℕ) → Option Item → Voucher → (used : ℕ) → List ℕ
voucher_text number due v used =
    codes "voucher "
    ++ (decimal number ++ (codes " for " ++ (due_text due ++ (codes ": " ++ claim_text v used))))

-- a voucher before its answer, numbered as the docket counts them
abbrev pub voucher_line : State → Voucher → List ℕ
voucher_line s v =
    voucher_text (min (s.taken + 1) most_taken) (next_due_of s.stage) v (partners_used s v)
    ++ (10 ∷ [])
