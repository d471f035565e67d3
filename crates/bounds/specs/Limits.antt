-- The model behind the kinds: a number, perhaps strict, or no limit. It keeps every law of a kind.
use Rattle.std.specs.Prelude.{◌≡◌, ℕ, ◌+◌, ◌*◌, ◌<◌, ◌≤◌, Bool, true, false, ◌||◌, T, ◌⊎◌, ℤ, pos}
use Rattle.std.specs.Prelude.{◌+ℤ◌, ◌*ℤ◌, int_le, int_lt, nat_le, unsigned_abs, refl, IsTrue}
use Rattle.std.specs.Prelude.{IsFalse, if◌then◌else◌}
use Rattle.std.proofs.Common.{mul-le-mul_left, mul-add, arith, leb→le, inl, inr, ⊎_elim, sym, ap}
use Rattle.std.proofs.Common.{subst, ◌∙◌}
use Rattle.std.proofs.Math.Nat.{mul-lt-mul_of_pos_left}
use borrow.Author.Differences.{ints, up, down}
use Rattle.std.proofs.Math.IntN.{+ℤ_assoc, +ℤ_comm, +ℤ_idl, *ℤ-zero}
use Rattle.std.proofs.Math.Bool.{or_assoc, or_comm}
use Rattle.std.proofs.lemmas.Bool.{true≢false, false≢true, cases_Bool, le-leb}
use Rattle.bounds.specs.Kinds.{largest_size, number_allows, place}

pub data Limit : Type 0 where
  number : ℤ → Bool → Limit
  unlimited : Limit

-- a number past the largest size is no limit
abbrev pub capped : ℤ → Bool → Limit
capped c s = if nat_le (unsigned_abs c) largest_size then number c s else unlimited

abbrev pub limit_sum : Limit → Limit → Limit
limit_sum (number c s) (number d t) = capped (c +ℤ d) (s || t)
limit_sum (number c s) unlimited = unlimited
limit_sum unlimited b = unlimited

abbrev pub limit_at_most : Limit → Limit → Bool
limit_at_most (number c s) (number d t) = int_le (place c s) (place d t)
limit_at_most (number c s) unlimited = true
limit_at_most unlimited (number d t) = false
limit_at_most unlimited unlimited = true

abbrev pub limit_size : Limit → ℕ
limit_size (number c s) = unsigned_abs c
limit_size unlimited = 0

abbrev pub limit_allows : ℕ → Limit → ℤ → Bool
limit_allows k (number c s) d = number_allows k c s d
limit_allows k unlimited d = true

-- whether a limit has the strict mark
abbrev pub limit_strict : Limit → Bool
limit_strict (number c s) = s
limit_strict unlimited = false

-- ---- the order
pub limit_total : (a b : Limit) → IsTrue (limit_at_most a b) ⊎ IsTrue (limit_at_most b a)
limit_total (number c s) (number d t) =
    ⊎_elim inl (λ (e : IsFalse (int_le (place c s) (place d t))). inr (sym (omega (arith, ints)))) (cases_Bool (int_le (place c s) (place d t)))
limit_total (number c s) unlimited = inl refl
limit_total unlimited (number d t) = inr refl
limit_total unlimited unlimited = inl refl

pub limit_transitive : (a b c : Limit) → IsTrue (limit_at_most a b) → IsTrue (limit_at_most b c) →
    IsTrue (limit_at_most a c)
limit_transitive (number a r) (number b s) (number c t) h k = sym (omega (arith, ints))
limit_transitive (number a r) (number b s) unlimited h k = refl
limit_transitive (number a r) unlimited (number c t) h k = absurd (false≢true k)
limit_transitive (number a r) unlimited unlimited h k = refl
limit_transitive unlimited (number b s) (number c t) h k = h
limit_transitive unlimited (number b s) unlimited h k = refl
limit_transitive unlimited unlimited (number c t) h k = k
limit_transitive unlimited unlimited unlimited h k = refl

same_place : (c d : ℤ) (s t : Bool) → place c s ≡ place d t → number c s ≡ number d t
same_place c d true true e = ap (λ z. number z true) (omega (arith, ints, e))
same_place c d true false e = absurd (omega (arith, ints, e))
same_place c d false true e = absurd (omega (arith, ints, e))
same_place c d false false e = ap (λ z. number z false) (omega (arith, ints, e))

pub limit_antisymmetric : (a b : Limit) → IsTrue (limit_at_most a b) → IsTrue (limit_at_most b a) →
    a ≡ b
limit_antisymmetric (number c s) (number d t) h k = same_place c d s t (omega (arith, ints))
limit_antisymmetric (number c s) unlimited h k = absurd (false≢true k)
limit_antisymmetric unlimited (number d t) h k = absurd (false≢true h)
limit_antisymmetric unlimited unlimited h k = refl

pub limit_top : (a : Limit) → IsTrue (limit_at_most a unlimited)
limit_top (number c s) = refl
limit_top unlimited = refl

-- ---- sums
kept : (c : ℤ) (s : Bool) → unsigned_abs c ≤ largest_size → capped c s ≡ number c s
kept c s h =
    ap (λ t. (if t then number c s else unlimited)) (le-leb (unsigned_abs c) largest_size h)

-- a sum of two that stay small
sum_kept : (c d : ℤ) (s t : Bool) → unsigned_abs c + unsigned_abs d ≤ largest_size →
    limit_sum (number c s) (number d t) ≡ number (c +ℤ d) (s || t)
sum_kept c d s t h = kept (c +ℤ d) (s || t) (omega (arith, ints))

pub limit_associative : (a b c : Limit) →
    limit_size a + limit_size b + limit_size c ≤ largest_size →
    limit_sum (limit_sum a b) c ≡ limit_sum a (limit_sum b c)
limit_associative (number a r) (number b s) (number c t) h =
    ap (λ x. limit_sum x (number c t)) (sum_kept a b r s (omega arith))
    ∙ sum_kept (a +ℤ b) c (r || s) t (omega (arith, ints))
    ∙ ap (λ z. number z ((r || s) || t)) (+ℤ_assoc a b c)
    ∙ ap (number (a +ℤ (b +ℤ c))) (or_assoc r s t)
    ∙ sym (sum_kept a (b +ℤ c) r (s || t) (omega (arith, ints)))
    ∙ ap (limit_sum (number a r)) (sym (sum_kept b c s t (omega arith)))
limit_associative (number a r) (number b s) unlimited h =
    ap (λ x. limit_sum x unlimited) (sum_kept a b r s (omega arith))
limit_associative (number a r) unlimited c h = refl
limit_associative unlimited b c h = refl

pub limit_commutative : (a b : Limit) → limit_sum a b ≡ limit_sum b a
limit_commutative (number c s) (number d t) =
    ap (λ z. capped z (s || t)) (+ℤ_comm c d) ∙ ap (capped (d +ℤ c)) (or_comm s t)
limit_commutative (number c s) unlimited = refl
limit_commutative unlimited (number d t) = refl
limit_commutative unlimited unlimited = refl

pub limit_neutral : (a : Limit) → limit_size a ≤ largest_size →
    limit_sum (number (pos 0) false) a ≡ a
limit_neutral (number c s) h =
    kept (pos 0 +ℤ c) s (omega (arith, ints)) ∙ ap (λ z. number z s) (+ℤ_idl c)
limit_neutral unlimited h = refl

-- a mark on the third bound marks both sums
places_add : (a b c : ℤ) (r s t : Bool) → IsTrue (int_le (place a r) (place b s)) →
    IsTrue (int_le (place (a +ℤ c) (r || t)) (place (b +ℤ c) (s || t)))
places_add a b c true true t h = sym (omega (arith, ints))
places_add a b c true false true h = sym (omega (arith, ints))
places_add a b c true false false h = sym (omega (arith, ints))
places_add a b c false true true h = sym (omega (arith, ints))
places_add a b c false true false h = sym (omega (arith, ints))
places_add a b c false false t h = sym (omega (arith, ints))

pub limit_monotone : (a b c : Limit) → limit_size a + limit_size c ≤ largest_size →
    limit_size b + limit_size c ≤ largest_size → IsTrue (limit_at_most a b) →
    IsTrue (limit_at_most (limit_sum a c) (limit_sum b c))
limit_monotone (number a r) (number b s) (number c t) h k l =
    ap (λ x. limit_at_most x (limit_sum (number b s) (number c t))) (sum_kept a c r t h)
    ∙ ap (limit_at_most (number (a +ℤ c) (r || t))) (sum_kept b c s t k)
    ∙ places_add a b c r s t l
limit_monotone (number a r) (number b s) unlimited h k l = refl
limit_monotone (number a r) unlimited (number c t) h k l =
    limit_top (limit_sum (number a r) (number c t))
limit_monotone (number a r) unlimited unlimited h k l = refl
limit_monotone unlimited (number b s) c h k l = absurd (false≢true l)
limit_monotone unlimited unlimited c h k l = refl

-- ---- sizes
capped_size : (c : ℤ) (s : Bool) →
    (limit_size (capped c s) ≤ unsigned_abs c) × (limit_size (capped c s) ≤ largest_size)
capped_size c s = by_size (nat_le (unsigned_abs c) largest_size) refl
  where
    by_size : (t : Bool) → nat_le (unsigned_abs c) largest_size ≡ t →
        (limit_size (if t then number c s else unlimited) ≤ unsigned_abs c)
        × (limit_size (if t then number c s else unlimited) ≤ largest_size)
    by_size true e = (omega arith, leb→le (unsigned_abs c) largest_size (subst T (sym e) tt))
    by_size false e = (omega arith, omega arith)

pub limit_sum_size : (a b : Limit) → limit_size (limit_sum a b) ≤ limit_size a + limit_size b
limit_sum_size (number c s) (number d t) = omega (arith, ints, (capped_size (c +ℤ d) (s || t)).0)
limit_sum_size (number c s) unlimited = omega arith
limit_sum_size unlimited b = omega arith

pub limit_sum_capped : (a b : Limit) → limit_size (limit_sum a b) ≤ largest_size
limit_sum_capped (number c s) (number d t) = (capped_size (c +ℤ d) (s || t)).1
limit_sum_capped (number c s) unlimited = omega arith
limit_sum_capped unlimited b = omega arith

-- ---- what is allowed
-- an order of numbers holds of their k-fold values
scaled_le : (k : ℕ) (c d : ℤ) → IsTrue (int_le c d) → IsTrue (int_le (pos k *ℤ c) (pos k *ℤ d))
scaled_le k c d h =
    let l : up c + down d ≤ up d + down c = omega (arith, ints) in
    sym (omega (arith, ints, mul-le-mul_left k l, mul-add k (up c) (down d), mul-add k (up d) (down c)))

scaled_lt : (k : ℕ) (c d : ℤ) → 1 ≤ k → IsTrue (int_lt c d) →
    IsTrue (int_lt (pos k *ℤ c) (pos k *ℤ d))
scaled_lt k c d p h =
    let l : up c + down d < up d + down c = omega (arith, ints) in
    sym (omega (arith, ints, mul-lt-mul_of_pos_left l p, mul-add k (up c) (down d), mul-add k (up d) (down c)))

pub scaled_sum : (k : ℕ) (c d : ℤ) → pos k *ℤ (c +ℤ d) ≡ pos k *ℤ c +ℤ pos k *ℤ d
scaled_sum k c d =
    let e : up (c +ℤ d) + down c + down d ≡ down (c +ℤ d) + up c + up d = omega (arith, ints) in
    let f : k * (up (c +ℤ d) + down c + down d) ≡ k * (down (c +ℤ d) + up c
    + up d) = ap (λ n. k * n) e in
    omega (arith, ints, f, mul-add k (up (c +ℤ d) + down c) (down d), mul-add k (up (c +ℤ d)) (down c), mul-add k (down (c +ℤ d) + up c) (up d), mul-add k (down (c +ℤ d)) (up c))

pub limit_larger_allows : (k : ℕ) (a b : Limit) (d : ℤ) → 1 ≤ k → IsTrue (limit_at_most a b) →
    IsTrue (limit_allows k a d) → IsTrue (limit_allows k b d)
limit_larger_allows k (number a true) (number b true) d p h l = let m = scaled_le k a b (sym (omega (arith, ints))) in sym (omega (arith, ints))
limit_larger_allows k (number a true) (number b false) d p h l = let m = scaled_le k a b (sym (omega (arith, ints))) in sym (omega (arith, ints))
limit_larger_allows k (number a false) (number b true) d p h l = let m = scaled_lt k a b p (sym (omega (arith, ints))) in sym (omega (arith, ints))
limit_larger_allows k (number a false) (number b false) d p h l = let m = scaled_le k a b (sym (omega (arith, ints))) in sym (omega (arith, ints))
limit_larger_allows k (number a s) unlimited d p h l = refl
limit_larger_allows k unlimited (number b t) d p h l = absurd (false≢true h)
limit_larger_allows k unlimited unlimited d p h l = refl

number_sum_allows : (k : ℕ) (a b : ℤ) (s t : Bool) (d e : ℤ) → IsTrue (number_allows k a s d) →
    IsTrue (number_allows k b t e) → IsTrue (number_allows k (a +ℤ b) (s || t) (d +ℤ e))
number_sum_allows k a b true true d e h l = sym (omega (arith, ints, scaled_sum k a b))
number_sum_allows k a b true false d e h l = sym (omega (arith, ints, scaled_sum k a b))
number_sum_allows k a b false true d e h l = sym (omega (arith, ints, scaled_sum k a b))
number_sum_allows k a b false false d e h l = sym (omega (arith, ints, scaled_sum k a b))

capped_allows : (k : ℕ) (c : ℤ) (s : Bool) (d : ℤ) → IsTrue (number_allows k c s d) →
    IsTrue (limit_allows k (capped c s) d)
capped_allows k c s d h = either (nat_le (unsigned_abs c) largest_size)
  where
    either : (t : Bool) → IsTrue (limit_allows k (if t then number c s else unlimited) d)
    either true = h
    either false = refl

pub limit_sum_allows : (k : ℕ) (a b : Limit) (d e : ℤ) → IsTrue (limit_allows k a d) →
    IsTrue (limit_allows k b e) → IsTrue (limit_allows k (limit_sum a b) (d +ℤ e))
limit_sum_allows k (number a s) (number b t) d e h l =
    capped_allows k (a +ℤ b) (s || t) (d +ℤ e) (number_sum_allows k a b s t d e h l)
limit_sum_allows k (number a s) unlimited d e h l = refl
limit_sum_allows k unlimited b d e h l = refl

pub limit_zero_allows : (k : ℕ) (d : ℤ) → limit_allows k (number (pos 0) false) d ≡ int_le d (pos 0)
limit_zero_allows k d = ap (int_le d) (*ℤ-zero (pos k))

pub limit_below_zero : (k : ℕ) (a : Limit) → 1 ≤ k →
    IsFalse (limit_at_most (number (pos 0) false) a) → IsFalse (limit_allows k a (pos 0))
limit_below_zero k (number c true) p h = let m = scaled_le k c (pos 0) (sym (omega (arith, ints))) in sym (omega (arith, ints, *ℤ-zero (pos k)))
limit_below_zero k (number c false) p h = let m = scaled_lt k c (pos 0) p (sym (omega (arith, ints))) in sym (omega (arith, ints, *ℤ-zero (pos k)))
limit_below_zero k unlimited p h = absurd (true≢false h)

-- a test of k-fold values is the test of the values
unscaled_le : (k : ℕ) (c d : ℤ) (t : Bool) → 1 ≤ k → int_le c d ≡ t →
    int_le (pos k *ℤ c) (pos k *ℤ d) ≡ t
unscaled_le k c d true p e = scaled_le k c d e
unscaled_le k c d false p e = let m = scaled_lt k d c p (sym (omega (arith, ints))) in sym (omega (arith, ints))

unscaled_lt : (k : ℕ) (c d : ℤ) (t : Bool) → 1 ≤ k → int_lt c d ≡ t →
    int_lt (pos k *ℤ c) (pos k *ℤ d) ≡ t
unscaled_lt k c d true p e = scaled_lt k c d p e
unscaled_lt k c d false p e = let m = scaled_le k d c (sym (omega (arith, ints))) in sym (omega (arith, ints))

once : (c : ℤ) → c ≡ pos 1 *ℤ c
once c = omega (arith, ints)

pub limit_grids : (k : ℕ) (a : Limit) (d : ℤ) → 1 ≤ k →
    limit_allows k a (pos k *ℤ d) ≡ limit_allows 1 a d
limit_grids k (number c true) d p =
    unscaled_lt k d c (int_lt d (pos 1 *ℤ c)) p (ap (int_lt d) (once c))
limit_grids k (number c false) d p =
    unscaled_le k d c (int_le d (pos 1 *ℤ c)) p (ap (int_le d) (once c))
limit_grids k unlimited d p = refl
