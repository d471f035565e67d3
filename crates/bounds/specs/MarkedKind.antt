-- What marked bounds mean: one word, which is a number's place or says that there is no limit.
use Rattle.std.specs.Prelude.{◌≡◌, ◌≤◌, Bool, true, false, ◌||◌, ℤ, int_le, nat_le}
use Rattle.std.specs.Prelude.{unsigned_abs, refl, IsTrue, if◌then◌else◌}
use Rattle.std.specs.Ordering.{int_eq}
use Rattle.std.proofs.Common.{arith, sym, ap, ◌∙◌, ⊎_elim}
use Rattle.std.proofs.lemmas.Bool.{cond-true, le-leb}
use Rattle.std.proofs.lemmas.Int.{ints}
use mathlib.Core.HLevel.{is_prop→PathP}
use mathlib.Core.Bool.{Bool-set}
use Rattle.bounds.specs.Kinds.{Kind, largest_size, place}
use Rattle.bounds.specs.Limits.{Limit}
use Rattle.bounds.specs.Limits.Limit.{number, unlimited}
use Rattle.bounds.specs.Codings.{Coding, Held, coded_kind}
use Rattle.bounds.specs.PlainKind.{plain_limit}
use Rattle.bounds.specs.Places.{half, even, place-half, half_place, even_place}
use Rattle.bounds.specs.Places.{largest_place, is_marked_word, capped_place, place_cases}
use Rattle.bounds.specs.Words.{no_limit_word}
use Rattle.bounds.specs.declared.marked.MarkedBound.{MarkedBound}
use Rattle.bounds.specs.declared.plain.PlainBound.{PlainBound}

abbrev pub marked_limit : ℤ → Limit
marked_limit z = if int_le z largest_place then number (half z) (even z) else unlimited

abbrev pub marked_word : Limit → ℤ
marked_word (number c s) = capped_place c s
marked_word unlimited = no_limit_word

pub place_held : (c : ℤ) (s : Bool) → IsTrue (nat_le (unsigned_abs c) largest_size) →
    IsTrue (is_marked_word (place c s))
place_held c s e =
    let small = ap (λ d. nat_le (unsigned_abs d) largest_size) (half_place c s) ∙ e in
    ap (λ t. t || int_eq (place c s) no_limit_word) small

capped_marked : (c : ℤ) (s : Bool) → IsTrue (is_marked_word (capped_place c s))
capped_marked c s = by_test (nat_le (unsigned_abs c) largest_size) refl
  where
    by_test : (t : Bool) → nat_le (unsigned_abs c) largest_size ≡ t →
        IsTrue (is_marked_word (if t then place c s else no_limit_word))
    by_test true e = place_held c s e
    by_test false e = refl

pub marked_held : (l : Limit) → IsTrue (is_marked_word (marked_word l))
marked_held (number c s) = capped_marked c s
marked_held unlimited = refl

abbrev pub marked_of : Limit → MarkedBound
marked_of l = record { limit = marked_word l; held = marked_held l }

-- bounds of one word are the same
pub same_marked : (a b : MarkedBound) → a.limit ≡ b.limit → a ≡ b
same_marked a b e i =
    record {
      limit = e i;
      held =
          is_prop→PathP (λ i. IsTrue (is_marked_word (e i))) (λ i. Bool-set (is_marked_word (e i)) true) a.held b.held i;
    }

-- ---- each word stands for one limit, and each limit that is asked for has its word
-- of a number within the largest size
pub place_limit : (c : ℤ) (s : Bool) → unsigned_abs c ≤ largest_size →
    marked_limit (place c s) ≡ number c s
place_limit c s h =
    let below : IsTrue (int_le (place c s) largest_place) = below_by s in
    cond-true (int_le (place c s) largest_place) (number (half (place c s)) (even (place c s))) unlimited below
    ∙ ap (λ d. number d (even (place c s))) (half_place c s)
    ∙ ap (number c) (even_place c s)
  where
    below_by : (s : Bool) → IsTrue (int_le (place c s) largest_place)
    below_by true = sym (omega (arith, ints))
    below_by false = sym (omega (arith, ints))

pub small_limit : (z : ℤ) → unsigned_abs (half z) ≤ largest_size →
    marked_limit z ≡ number (half z) (even z)
small_limit z h = ap marked_limit (sym (place-half z)) ∙ place_limit (half z) (even z) h

pub marked_back : (z : ℤ) → IsTrue (is_marked_word z) → marked_word (marked_limit z) ≡ z
marked_back z h = ⊎_elim small past (place_cases z h)
  where
    small : unsigned_abs (half z) ≤ largest_size → marked_word (marked_limit z) ≡ z
    small s =
        ap marked_word (small_limit z s)
        ∙ cond-true (nat_le (unsigned_abs (half z)) largest_size) (place (half z) (even z)) no_limit_word (le-leb (unsigned_abs (half z)) largest_size s)
        ∙ place-half z

    past : z ≡ no_limit_word → marked_word (marked_limit z) ≡ z
    past e = ap (λ y. marked_word (marked_limit y)) e ∙ sym e

pub marked_reads : (l : Limit) → Held true l → marked_limit (marked_word l) ≡ l
marked_reads (number c s) h =
    ap marked_limit (cond-true (nat_le (unsigned_abs c) largest_size) (place c s) no_limit_word (le-leb (unsigned_abs c) largest_size h.small))
    ∙ place_limit c s h.small
marked_reads unlimited h = refl

abbrev pub marked_coding : Coding MarkedBound
marked_coding =
    record {
      marks = true;
      view = λ b. marked_limit b.limit;
      of = marked_of;
      back = λ b. same_marked (marked_of (marked_limit b.limit)) b (marked_back b.limit b.held);
      reads = marked_reads;
      marked = λ b e. refl;
    }

abbrev pub marked_kind : Kind MarkedBound
marked_kind = coded_kind marked_coding

-- the marked bound that means what a plain one does
abbrev pub as_marked : PlainBound → MarkedBound
as_marked b = marked_of (plain_limit b.limit)
