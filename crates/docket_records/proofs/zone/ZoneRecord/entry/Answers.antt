use Rattle.std.proofs.Common.{◌≡◌, ◌+◌, ◌*◌, ◌/◌, ◌%◌, eqb, ap, ◌∙◌, w32, SFits, rules}
use Rattle.std.proofs.lemmas.Int.{to_z-of_z}
use Rattle.net_records.specs.Bits.{field}
use Rattle.docket_records.specs.ZoneRecords.{mark_at, number_at, limit_of, signed, entry_start}
use Rattle.docket_records.proofs.Windows.{first_bit, rest_bits}
use Rattle.docket_records.proofs.zone.ZoneRecord.entry.Goals as goal

pub returns : goal.returns
unfolding mark_at number_at
returns c =
    let xs = c.args.self.now.bytes.now in
    let from = entry_start c.args.j c.args.i in
    let fits : SFits w32 c.signed.result = search rules in
    let both : c.bits-both.result ≡ field xs from 20 =
    c.bits-both.ensures.value ∙ ap (λ n. field xs (96 + 20 * n) 20) c.entry_number.ensures in
    let mark = ap (λ n. eqb (n / 524288) 1) both ∙ ap (λ n. eqb n 1) (first_bit xs from) in
    let code = to_z-of_z w32 c.signed.result fits ∙ c.signed.ensures ∙ ap (λ n. signed (n % 524288)) both ∙ ap signed (rest_bits xs from) in
    λ k. record { mark = mark k; number = (c.limit_of.ensures ∙ ap limit_of code) k }
