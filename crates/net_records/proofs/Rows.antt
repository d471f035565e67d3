-- Steps of the loops over the slots of a record.
use Rattle.std.proofs.Common.{◌≡◌, ℕ, zero, suc, ◌+◌, ◌*◌, ◌<◌, Bool, ◌||◌, Option, List, [], ◌∷◌, ◌++◌, length, take, drop, set, sym, refl, ap, ◌∙◌, arith}
use Rattle.std.proofs.lemmas.List.{drop-drop, take_more_set}
use Rattle.std.specs.List.{list_any, zip, range_with_len}
use Rattle.nets.specs.declared.side.Side.{Side}
use Rattle.net_records.specs.NetRecords.{slot_side, some_slot_from}
use Rattle.net_records.specs.Slots.{slot_of, slots_of}
use Rattle.net_records.specs.declared.slot.Slot.{Slot}
use Rattle.net_records.specs.declared.transition.TransitionRecord.{TransitionRecord}

-- ---- looking for a slot
pub some_slot_zipped : (p : Option Side → Slot → Bool) (r : TransitionRecord) (i n : ℕ) (ss : List Slot) → length ss ≡ n → list_any (λ q. p (slot_side r q.0) q.1) (zip (range_with_len i n) ss) ≡ some_slot_from p r i ss
some_slot_zipped p r i zero [] e = refl
some_slot_zipped p r i (suc n) [] e = absurd (omega arith)
some_slot_zipped p r i zero (s ∷ ss) e = absurd (omega arith)
some_slot_zipped p r i (suc n) (s ∷ ss) e = ap (λ t. p (slot_side r i) s || t) (some_slot_zipped p r (i + 1) n ss (omega arith))

-- ---- reading slots one after the other
pub slots_more : (n : ℕ) (bytes : List ℕ) → slots_of (n + 1) bytes ≡ slots_of n bytes ++ (slot_of (take 5 (drop (5 * n) bytes)) ∷ [])
slots_more zero bytes = refl
slots_more (suc n) bytes =
    let e : suc n + 1 ≡ suc (n + 1) = omega arith in
    let f : 5 + 5 * n ≡ 5 * suc n = omega arith in
    ap (λ m. slots_of m bytes) e
    ∙ ap (λ ss. slot_of (take 5 bytes) ∷ ss) (slots_more n (drop 5 bytes))
    ∙ ap (λ x. (slot_of (take 5 bytes) ∷ slots_of n (drop 5 bytes)) ++ (slot_of (take 5 x) ∷ [])) (drop-drop (5 * n) 5 bytes ∙ ap (λ m. drop m bytes) f)

-- one slot more has been read
pub slots_step : (bytes rest : List ℕ) (ss : List Slot) (i : ℕ) (s : Slot) → i < length ss → rest ≡ drop (5 * i) bytes → take i ss ≡ slots_of i bytes → s ≡ slot_of (take 5 rest) → take (i + 1) (set ss i s) ≡ slots_of (i + 1) bytes
slots_step bytes rest ss i s here at so_far read =
    take_more_set ss i s here
    ∙ ap (λ x. x ++ (s ∷ [])) so_far
    ∙ ap (λ x. slots_of i bytes ++ (x ∷ [])) (read ∙ ap (λ x. slot_of (take 5 x)) at)
    ∙ sym (slots_more i bytes)

pub rest_step : (bytes rest next : List ℕ) (i : ℕ) → rest ≡ drop (5 * i) bytes → next ≡ drop 5 rest → next ≡ drop (5 * (i + 1)) bytes
rest_step bytes rest next i at after =
    let e : 5 * i + 5 ≡ 5 * (i + 1) = omega arith in
    after ∙ ap (drop 5) at ∙ drop-drop 5 (5 * i) bytes ∙ ap (λ n. drop n bytes) e
