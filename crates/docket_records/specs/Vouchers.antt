-- The voucher that bytes say, and which fields it leaves unused.
--     voucher     void 1 bit, zone 6, eight partners of 4, spare 9; the most significant bit first
--     partners    for token 1, 2, .. of the listed zone a token of the item
use Rattle.std.specs.Prelude.{ℕ, ◌+◌, ◌*◌, Bool, not, ◌||◌, List, map, drop, Result, ◌==◌}
use Rattle.std.specs.Prelude.{if◌then◌else◌}
use Rattle.std.specs.List.{list_any, range_with_len}
use Rattle.net_records.specs.Bits.{field}
use Rattle.docket_records.specs.Records.{read_as, voucher_size}
use Rattle.docket_records.specs.declared.fault.EntryRefusal.{EntryRefusal}
use Rattle.docket_records.specs.declared.voucher.Voucher.{Voucher}

abbrev pub partner_at : List ℕ → ℕ → ℕ
partner_at bytes i = field bytes (7 + 4 * i) 4

unfoldable pub voucher_of : List ℕ → Voucher
voucher_of bytes =
    record {
      void = field bytes 0 1 == 1;
      zone = field bytes 1 6;
      partners = map (partner_at bytes) (range_with_len 0 8);
    }

unfoldable pub voucher_spare : List ℕ → Bool
voucher_spare bytes = not (field bytes 39 9 == 0)

abbrev pub voucher : List ℕ → Result Voucher EntryRefusal
voucher bytes = read_as voucher_size voucher_spare voucher_of bytes

abbrev pub some_set : List ℕ → Bool
some_set numbers = list_any (λ n. not (n == 0)) numbers

-- A field that is not used is not zero: a claim of void uses nothing else, and where a zone of so
-- many tokens is named, the partners past them are not used.
abbrev pub unused_set : Voucher → ℕ → Bool
unused_set v tokens =
    if v.void then not (v.zone == 0) || some_set v.partners else some_set (drop tokens v.partners)
