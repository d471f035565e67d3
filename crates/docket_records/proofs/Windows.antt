-- Fields of bits by the numbers of the bytes around them.
use Rattle.std.proofs.Common.{◌≡◌, ℕ, ◌+◌, ◌-◌, ◌*◌, ◌/◌, ◌%◌, ◌^◌, ◌<◌, ◌≤◌, List, get_or, sym, ap, ◌∙◌, add-zero, mul_assoc, add-mul, zero-add, arith}
use Rattle.std.proofs.lemmas.Nat.{pow-add, shr_high, mod_low}
use Rattle.net_records.proofs.Fields.{byte_field, field_join, field_below}
use Rattle.net_records.specs.Bits.{bit, field}

-- a field among more bits: `p` stand before it and `r` after it
pub field_within : (xs : List ℕ) (from p w r : ℕ) → field xs (from + p) w ≡ field xs from (p + (w + r)) / 2 ^ r % 2 ^ w
field_within xs from p w r =
    let a = field xs from p in
    let f = field xs (from + p) w in
    let z = field xs (from + p + w) r in
    let whole : field xs from (p + (w + r)) ≡ (a * 2 ^ w + f) * 2 ^ r + z =
    field_join xs from p (w + r)
    ∙ ap (λ n. a * 2 ^ (w + r) + n) (field_join xs (from + p) w r)
    ∙ regroup a f z (2 ^ (w + r)) (2 ^ w) (2 ^ r) (pow-add 2 w r) in
    sym (ap (λ n. n / 2 ^ r % 2 ^ w) whole ∙ ap (λ n. n % 2 ^ w) (shr_high (a * 2 ^ w + f) r z (field_below xs (from + p + w) r)) ∙ mod_low a w f (field_below xs (from + p) w))
  where
    regroup : (a f z u v t : ℕ) → u ≡ v * t → a * u + (f * t + z) ≡ (a * v + f) * t + z
    regroup a f z u v t e = omega (arith, ap (λ n. a * n) e, mul_assoc a v t, add-mul (a * v) f t)

-- three bytes as one number
pub three_bytes : (xs : List ℕ) (at a b c : ℕ) → ((i : ℕ) → get_or xs i 0 < 256) → a ≡ get_or xs at 0 → b ≡ get_or xs (at + 1) 0 → c ≡ get_or xs (at + 2) 0 → a * 65536 + b * 256 + c ≡ field xs (8 * at) 24
three_bytes xs at a b c byte is_a is_b is_c =
    sym (field_join xs (8 * at) 8 16
    ∙ ap (λ n. field xs (8 * at) 8 * 65536 + n) (field_join xs (8 * at + 8) 8 8)
    ∙ parts _ _ _ a b c (one (8 * at) at (omega arith) ∙ sym is_a) (one (8 * at + 8) (at + 1) (omega arith) ∙ sym is_b) (one (8 * at + 8 + 8) (at + 2) (omega arith) ∙ sym is_c))
  where
    one : (from i : ℕ) → from ≡ 8 * i + 0 → field xs from 8 ≡ get_or xs i 0
    one from i e = ap (λ n. field xs n 8) e ∙ byte_field xs i 0 8 (omega arith) ∙ omega (arith, byte i)

    parts : (f g h a b c : ℕ) → f ≡ a → g ≡ b → h ≡ c → f * 65536 + (g * 256 + h) ≡ a * 65536 + b * 256 + c
    parts f g h a b c p q r = omega arith

-- a field of which three bytes have all bits
pub window_field : (xs : List ℕ) (from w : ℕ) → from % 8 + w ≤ 24 → field xs from w ≡ field xs (8 * (from / 8)) 24 / 2 ^ (24 - from % 8 - w) % 2 ^ w
window_field xs from w h =
    let r = 24 - from % 8 - w in
    let start : from ≡ 8 * (from / 8) + from % 8 = omega arith in
    let size : from % 8 + (w + r) ≡ 24 = omega arith in
    ap (λ n. field xs n w) start
    ∙ field_within xs (8 * (from / 8)) (from % 8) w r
    ∙ ap (λ n. field xs (8 * (from / 8)) n / 2 ^ r % 2 ^ w) size

-- ---- a field of 20 bits as a bit and a field of 19
one_bit : (xs : List ℕ) (from : ℕ) → field xs from 1 ≡ bit xs from
one_bit xs from = zero-add (bit xs (from + 0)) ∙ ap (bit xs) (add-zero from)

pub first_bit : (xs : List ℕ) (from : ℕ) → field xs from 20 / 2 ^ 19 ≡ bit xs from
first_bit xs from =
    ap (λ n. n / 2 ^ 19) (field_join xs from 1 19)
    ∙ shr_high (field xs from 1) 19 (field xs (from + 1) 19) (field_below xs (from + 1) 19)
    ∙ one_bit xs from

pub rest_bits : (xs : List ℕ) (from : ℕ) → field xs from 20 % 2 ^ 19 ≡ field xs (from + 1) 19
rest_bits xs from =
    ap (λ n. n % 2 ^ 19) (field_join xs from 1 19) ∙ mod_low (field xs from 1) 19 (field xs (from + 1) 19) (field_below xs (from + 1) 19)
