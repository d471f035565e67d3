-- Fields of bits by quotients and remainders of their bytes.
use Rattle.std.proofs.Common.{◌≡◌, ℕ, zero, suc, ◌+◌, ◌-◌, ◌*◌, ◌/◌, ◌%◌, ◌^◌, ◌<◌, ◌≤◌, Bool, cond, eqb, List, [], ◌∷◌, get_or, take, drop, Some, None, sym, refl, ap, ◌∙◌, add-zero, add-suc, mul_assoc, mul_comm, pow-suc, arith}
use Rattle.std.proofs.lemmas.Nat.{mod-pow-add, shr-shr}
use Rattle.std.proofs.lemmas.List.{get_or-take}
use Rattle.nets.specs.declared.side.Side.{Side}
use Rattle.nets.specs.declared.side.Side.TheVariants.{Input, Output}
use Rattle.net_records.specs.Bits.{bit, field, flag}
use Rattle.net_records.specs.NetBytes.{side_count}
use Rattle.net_records.specs.NetRecords.{transition_record}
use Rattle.net_records.specs.Slots.{zero_end, end_at, slot_of, slots_of}
use Rattle.net_records.specs.declared.slot.End.{End}
use Rattle.net_records.specs.declared.slot.Slot.{Slot}
use Rattle.net_records.specs.declared.transition.TransitionRecord.{TransitionRecord}

-- a field is below what its bits can write
pub field_below : (xs : List ℕ) (from w : ℕ) → field xs from w < 2 ^ w
field_below xs from zero = omega arith
field_below xs from (suc w) =
    let last : bit xs (from + w) < 2 = omega arith in
    omega (arith, field_below xs from w, pow-suc 2 w)

-- the bits of one byte
byte_bit : (xs : List ℕ) (i p : ℕ) → p < 8 → bit xs (8 * i + p) ≡ get_or xs i 0 / 2 ^ (7 - p) % 2
byte_bit xs i p h =
    let q : (8 * i + p) / 8 ≡ i = omega arith in
    let r : (8 * i + p) % 8 ≡ p = omega arith in
    ap (λ n. get_or xs n 0 / 2 ^ (7 - (8 * i + p) % 8) % 2) q ∙ ap (λ n. get_or xs i 0 / 2 ^ (7 - n) % 2) r

-- one bit more at the low end
low_bit : (n w : ℕ) → 2 * (n / 2 % 2 ^ w) + n % 2 ≡ n % 2 ^ (w + 1)
low_bit n w = ap (λ m. m + n % 2) (mul_comm 2 (n / 2 % 2 ^ w)) ∙ sym (mod-pow-add n w 1)

-- a field within one byte
pub byte_field : (xs : List ℕ) (i p w : ℕ) → p + w ≤ 8 → field xs (8 * i + p) w ≡ get_or xs i 0 / 2 ^ (8 - (p + w)) % 2 ^ w
byte_field xs i p zero h = omega arith
byte_field xs i p (suc w) h =
    let b = get_or xs i 0 in
    let front : field xs (8 * i + p) w ≡ b / 2 ^ (7 - (p + w)) / 2 % 2 ^ w =
    byte_field xs i p w (omega arith)
    ∙ ap (λ n. b / 2 ^ n % 2 ^ w) (the_sum 8 7 (p + w) (omega arith) (omega arith))
    ∙ ap (λ n. n % 2 ^ w) (sym (shr-shr b (7 - (p + w)) 1)) in
    let last : bit xs (8 * i + p + w) ≡ b / 2 ^ (7 - (p + w)) % 2 =
    ap (bit xs) (the_place i p w) ∙ byte_bit xs i (p + w) (omega arith) in
    ap (λ n. 2 * n + bit xs (8 * i + p + w)) front
    ∙ ap (λ n. 2 * (b / 2 ^ (7 - (p + w)) / 2 % 2 ^ w) + n) last
    ∙ low_bit (b / 2 ^ (7 - (p + w))) w
    ∙ ap (λ n. b / 2 ^ n % 2 ^ (w + 1)) (the_rest p w)
    ∙ ap (λ n. b / 2 ^ (8 - (p + suc w)) % 2 ^ n) (the_next w)
  where
    the_sum : (m n k : ℕ) → m ≡ n + 1 → k ≤ n → m - k ≡ n - k + 1
    the_sum m n k e h = omega arith

    the_place : (i p w : ℕ) → 8 * i + p + w ≡ 8 * i + (p + w)
    the_place i p w = omega arith

    the_rest : (p w : ℕ) → 7 - (p + w) ≡ 8 - (p + suc w)
    the_rest p w = omega arith

    the_next : (w : ℕ) → w + 1 ≡ suc w
    the_next w = omega arith

double_power : (f w : ℕ) → f * 2 ^ suc w ≡ 2 * (f * 2 ^ w)
double_power f w = ap (λ n. f * n) (pow-suc 2 w) ∙ sym (mul_assoc f (2 ^ w) 2) ∙ mul_comm (f * 2 ^ w) 2

-- a field in two parts
pub field_join : (xs : List ℕ) (from v w : ℕ) → field xs from (v + w) ≡ field xs from v * 2 ^ w + field xs (from + v) w
field_join xs from v zero = ap (field xs from) (add-zero v) ∙ omega arith
field_join xs from v (suc w) =
    let place : from + (v + w) ≡ from + v + w = omega arith in
    ap (field xs from) (add-suc v w)
    ∙ ap (λ n. 2 * n + bit xs (from + (v + w))) (field_join xs from v w)
    ∙ ap (λ n. 2 * (field xs from v * 2 ^ w + field xs (from + v) w) + bit xs n) place
    ∙ omega (arith, double_power (field xs from v) w)

-- ---- the fields of a slot
lower_parts : (f g h a b c : ℕ) → f ≡ a / 1 % 2 → g ≡ b / 1 % 256 → h ≡ c / 4 % 64 → b < 256 → c < 256 → f * 16384 + (g * 64 + h) ≡ a % 2 * 16384 + b * 64 + c / 4
lower_parts f g h a b c p q r k l = omega arith

upper_parts : (g h d e : ℕ) → g ≡ d / 1 % 256 → h ≡ e / 2 % 128 → d < 256 → e < 256 → g * 128 + h ≡ d * 128 + e / 2
upper_parts g h d e q r k l = omega arith

module _ (xs : List ℕ) where
  pub place_field : get_or xs 0 0 < 256 → field xs 0 6 ≡ get_or xs 0 0 / 4
  place_field h = byte_field xs 0 0 6 (omega arith) ∙ omega arith

  pub lower_field : get_or xs 1 0 < 256 → get_or xs 2 0 < 256 → field xs 7 15 ≡ get_or xs 0 0 % 2 * 16384 + get_or xs 1 0 * 64 + get_or xs 2 0 / 4
  lower_field k l =
      field_join xs 7 1 14
      ∙ ap (λ n. field xs 7 1 * 16384 + n) (field_join xs 8 8 6)
      ∙ lower_parts (field xs 7 1) (field xs 8 8) (field xs 16 6) (get_or xs 0 0) (get_or xs 1 0) (get_or xs 2 0) (byte_field xs 0 7 1 (omega arith)) (byte_field xs 1 0 8 (omega arith)) (byte_field xs 2 0 6 (omega arith)) k l

  pub upper_field : get_or xs 3 0 < 256 → get_or xs 4 0 < 256 → field xs 24 15 ≡ get_or xs 3 0 * 128 + get_or xs 4 0 / 2
  upper_field h k =
      field_join xs 24 8 7 ∙ upper_parts (field xs 24 8) (field xs 32 7) (get_or xs 3 0) (get_or xs 4 0) (byte_field xs 3 0 8 (omega arith)) (byte_field xs 4 0 7 (omega arith)) h k

-- a slot whose parts are those of the first five bytes
pub split_slot : (bytes : List ℕ) (s : Slot) (upper : End) (unlimited : Bool) → ((i : ℕ) → get_or bytes i 0 < 256)
    → s.place ≡ get_or bytes 0 0 / 4
    → s.lower.strict ≡ eqb (get_or bytes 0 0 / 2 % 2) 1
    → s.lower.number ≡ get_or bytes 0 0 % 2 * 16384 + get_or bytes 1 0 * 64 + get_or bytes 2 0 / 4
    → unlimited ≡ eqb (get_or bytes 2 0 / 2 % 2) 1
    → upper.strict ≡ eqb (get_or bytes 2 0 / 1 % 2) 1
    → upper.number ≡ get_or bytes 3 0 * 128 + get_or bytes 4 0 / 2
    → s.spare ≡ eqb (get_or bytes 4 0 / 1 % 2) 1
    → s.upper ≡ cond unlimited None (Some upper)
    → s.unused ≡ cond unlimited upper zero_end
    → s ≡ slot_of (take 5 bytes)
split_slot bytes s upper unlimited byte place ls ln un us un' sp above below =
    let xs = take 5 bytes in
    let a = get_or-take 5 bytes 0 0 (omega arith) in
    let b = get_or-take 5 bytes 1 0 (omega arith) in
    let c = get_or-take 5 bytes 2 0 (omega arith) in
    let d = get_or-take 5 bytes 3 0 (omega arith) in
    let e = get_or-take 5 bytes 4 0 (omega arith) in
    let small : (i j : ℕ) → get_or xs i 0 ≡ get_or bytes j 0 → get_or xs i 0 < 256 = λ i j h. omega (arith, h, byte j) in
    let place' = place ∙ ap (λ n. n / 4) (sym a) ∙ sym (place_field xs (small 0 0 a)) in
    let lower' = ln ∙ ap (λ n. n % 2 * 16384 + get_or bytes 1 0 * 64 + get_or bytes 2 0 / 4) (sym a) ∙ ap (λ n. get_or xs 0 0 % 2 * 16384 + n * 64 + get_or bytes 2 0 / 4) (sym b) ∙ ap (λ n. get_or xs 0 0 % 2 * 16384 + get_or xs 1 0 * 64 + n / 4) (sym c) ∙ sym (lower_field xs (small 1 1 b) (small 2 2 c)) in
    let upper' = un' ∙ ap (λ n. n * 128 + get_or bytes 4 0 / 2) (sym d) ∙ ap (λ n. get_or xs 3 0 * 128 + n / 2) (sym e) ∙ sym (upper_field xs (small 3 3 d) (small 4 4 e)) in
    let low : s.lower.strict ≡ flag xs 6 = ls ∙ ap (λ n. eqb (n / 2 % 2) 1) (sym a) in
    let up : upper.strict ≡ flag xs 23 = us ∙ ap (λ n. eqb (n / 1 % 2) 1) (sym c) in
    let open_ended : unlimited ≡ flag xs 22 = un ∙ ap (λ n. eqb (n / 2 % 2) 1) (sym c) in
    let last : s.spare ≡ flag xs 39 = sp ∙ ap (λ n. eqb (n / 1 % 2) 1) (sym e) in
    let high : upper ≡ end_at xs 23 = λ i. record { strict = up i; number = upper' i } in
    let above' : s.upper ≡ cond (flag xs 22) None (Some (end_at xs 23)) = above ∙ λ i. cond (open_ended i) None (Some (high i)) in
    let below' : s.unused ≡ cond (flag xs 22) (end_at xs 23) zero_end = below ∙ λ i. cond (open_ended i) (high i) zero_end in
    λ i. record { place = place' i; lower = record { strict = low i; number = lower' i }; upper = above' i; unused = below' i; spare = last i }

-- the first byte alone says how many arcs a side has
pub counted : (side : Side) (bytes : List ℕ) → side_count side (transition_record (get_or bytes 0 0 ∷ [])) ≡ side_count side (transition_record bytes)
counted Input bytes = refl
counted Output bytes = refl

-- a transition record whose counts are those of the first byte
pub record_fields : (bytes : List ℕ) (n inputs outputs : ℕ) (slots : List Slot) → n ≡ get_or bytes 0 0
    → inputs ≡ side_count Input (transition_record (n ∷ []))
    → outputs ≡ side_count Output (transition_record (n ∷ []))
    → slots ≡ slots_of 8 (drop 1 bytes)
    → ◌≡◌ {A = TransitionRecord} (record { inputs = inputs; outputs = outputs; spare = n % 4; slots = slots }) (transition_record bytes)
record_fields bytes n inputs outputs slots first i o e =
    let first_count : (side : Side) → side_count side (transition_record (n ∷ [])) ≡ side_count side (transition_record bytes) = λ side. ap (λ m. side_count side (transition_record (m ∷ []))) first ∙ counted side bytes in
    let inputs' = i ∙ first_count Input in
    let outputs' = o ∙ first_count Output in
    let s : n % 4 ≡ get_or bytes 0 0 / 1 % 4 = omega arith in
    let spare' = s ∙ sym (byte_field bytes 0 6 2 (omega arith)) in
    λ j. record { inputs = inputs' j; outputs = outputs' j; spare = spare' j; slots = e j }
