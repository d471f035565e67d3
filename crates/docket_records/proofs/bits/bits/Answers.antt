use Rattle.std.proofs.Common.{◌≡◌, ◌-◌, ◌*◌, ◌/◌, ◌%◌, ◌^◌, sym, ap, ◌∙◌, arith}
use Rattle.std.proofs.lemmas.Nat.{one_shl}
use Rattle.docket_records.proofs.Windows.{window_field}
use Rattle.docket_records.proofs.bits.bits.Goals as goal

pub returns-clause-value : goal.returns-clause-value
returns-clause-value c =
    let w = c.args.width in
    let r = 24 - c.args.from % 8 - w in
    let one : (1 * 2 ^ w) % 4294967296 ≡ 2 ^ w = one_shl w 32 (omega (arith, c.requires)) in
    ap (λ n. c.window.result / 2 ^ r % n) one ∙ ap (λ n. n / 2 ^ r % 2 ^ w) c.window.ensures ∙ sym (window_field c.args.bytes.now c.args.from w c.requires)
