-- What a pairing of a page's tokens with those of a zone that is asked for can lack: each lack as a
-- test.
--     page      a zone of the book, which is to vouch
--     asked     the zone that it is to vouch for
--     pairing   for each token of the page a token of the zone that is asked for
use Rattle.std.specs.Prelude.{ℕ, ◌+◌, Bool, not, ◌&&◌, ◌||◌, List, length, take, ◌==◌, nat_lt}
use Rattle.std.specs.Prelude.{slice_index}
use Rattle.std.specs.List.{list_any, range_with_len}
use Rattle.bounds.specs.Kinds.{Kind}
use Rattle.nets.specs.Nets.{numbered}
use Rattle.zones.specs.Predecessors.{among}
use Rattle.zones.specs.Vouching.{partner}
use Rattle.zone_walks.specs.Walks.{Matrix}

-- ---- partners; tokens are counted from 0 here
abbrev pub no_partner : ℕ → ℕ → Bool
no_partner count p = p == 0 || nat_lt count p

-- an earlier token has the same partner
abbrev pub partner_taken : List ℕ → ℕ → Bool
partner_taken pairing k = among (slice_index pairing k) (take k pairing)

abbrev pub partner_unsound : ℕ → List ℕ → ℕ → Bool
partner_unsound count pairing k =
    no_partner count (slice_index pairing k) || partner_taken pairing k

-- not one partner for each token, one that is no token of the zone asked for, or one twice
abbrev pub partners_unsound : List ℕ → List ℕ → List ℕ → Bool
partners_unsound page_places asked_places pairing =
    not (length pairing == length page_places) ||
    list_any (partner_unsound (length asked_places) pairing) (range_with_len 0 (length pairing))

-- ---- places
abbrev pub place_differs : List ℕ → List ℕ → List ℕ → ℕ → Bool
place_differs page_places asked_places pairing k =
    not (numbered asked_places (slice_index pairing k) 0 == slice_index page_places k)

abbrev pub places_differ : List ℕ → List ℕ → List ℕ → Bool
places_differ page_places asked_places pairing =
    list_any (place_differs page_places asked_places pairing) (range_with_len 0 (length pairing))

-- ---- bounds
abbrev pub exceeds : {B : Type 0} → Kind B → (page asked : Matrix B) → List ℕ → ℕ → ℕ → Bool
exceeds kind page asked pairing j i =
    not (j == i) && not (kind.at_most (asked (partner pairing j) (partner pairing i)) (page j i))

abbrev pub exceeds_in_row : {B : Type 0} → Kind B → (page asked : Matrix B) → List ℕ → ℕ → Bool
exceeds_in_row kind page asked pairing j =
    list_any (exceeds kind page asked pairing j) (range_with_len 0 (length pairing + 1))

-- some bound asked for is larger than the page's
abbrev pub bound_exceeds : {B : Type 0} → Kind B → (page asked : Matrix B) → List ℕ → Bool
bound_exceeds kind page asked pairing =
    list_any (exceeds_in_row kind page asked pairing) (range_with_len 0 (length pairing + 1))
