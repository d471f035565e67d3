-- What plain bounds mean: one word, which is a number without a mark or says that there is no
-- limit.
use Rattle.std.specs.Prelude.{◌≡◌, ◌≤◌, Bool, true, false, ℤ, pos, int_le, nat_le}
use Rattle.std.specs.Prelude.{unsigned_abs, refl, IsTrue, if◌then◌else◌}
use Rattle.std.proofs.Common.{arith, sym, ap, ◌∙◌, ⊎_elim}
use Rattle.std.proofs.lemmas.Bool.{false≢true, cond-true, le-leb}
use borrow.Author.Differences.{ints}
use mathlib.Core.HLevel.{is_prop→PathP}
use mathlib.Core.Bool.{Bool-set}
use Rattle.bounds.specs.Kinds.{Kind, largest_size}
use Rattle.bounds.specs.Limits.{Limit, limit_strict}
use Rattle.bounds.specs.Limits.Limit.{number, unlimited}
use Rattle.bounds.specs.Codings.{Held, coded_kind}
use Rattle.bounds.specs.Words.{no_limit_word, is_plain_word, capped_word, word_cases, capped_held}
use Rattle.bounds.specs.declared.plain.PlainBound.{PlainBound}

abbrev pub plain_limit : ℤ → Limit
plain_limit z = if int_le z (pos largest_size) then number z false else unlimited

abbrev pub plain_word : Limit → ℤ
plain_word (number c s) = capped_word c
plain_word unlimited = no_limit_word

pub plain_held : (l : Limit) → IsTrue (is_plain_word (plain_word l))
plain_held (number c s) = capped_held c
plain_held unlimited = refl

abbrev pub plain_of : Limit → PlainBound
plain_of l = record { limit = plain_word l; held = plain_held l }

-- bounds of one word are the same
pub same_plain : (a b : PlainBound) → a.limit ≡ b.limit → a ≡ b
same_plain a b e i =
    record {
      limit = e i;
      held =
          is_prop→PathP (λ i. IsTrue (is_plain_word (e i))) (λ i. Bool-set (is_plain_word (e i)) true) a.held b.held i;
    }

-- its facts are shown within it, so that an edit of what plain bounds mean is refused for its
-- meaning
abbrev pub plain_kind : Kind PlainBound
plain_kind =
    coded_kind (record {
      marks = false;
      view = λ b. plain_limit b.limit;
      of = plain_of;
      back = λ b. same_plain (plain_of (plain_limit b.limit)) b (back b.limit b.held);
      reads = reads;
      marked = λ b. marked b.limit;
    })
  where
    small : (z : ℤ) → unsigned_abs z ≤ largest_size → plain_word (plain_limit z) ≡ z
    small z s =
        let below : IsTrue (int_le z (pos largest_size)) = sym (omega (arith, ints)) in
        ap plain_word (cond-true (int_le z (pos largest_size)) (number z false) unlimited below)
        ∙ cond-true (nat_le (unsigned_abs z) largest_size) z no_limit_word (le-leb (unsigned_abs z) largest_size s)

    past : (z : ℤ) → z ≡ no_limit_word → plain_word (plain_limit z) ≡ z
    past z e = ap (λ y. plain_word (plain_limit y)) e ∙ sym e

    back : (z : ℤ) → IsTrue (is_plain_word z) → plain_word (plain_limit z) ≡ z
    back z h = ⊎_elim (small z) (past z) (word_cases z h)

    reads : (l : Limit) → Held false l → plain_limit (plain_word l) ≡ l
    reads (number c true) h = absurd (false≢true (h.takes refl))
    reads (number c false) h =
        let below : IsTrue (int_le c (pos largest_size)) = sym (omega (arith, ints, h.small)) in
        ap plain_limit (cond-true (nat_le (unsigned_abs c) largest_size) c no_limit_word (le-leb (unsigned_abs c) largest_size h.small))
        ∙ cond-true (int_le c (pos largest_size)) (number c false) unlimited below
    reads unlimited h = refl

    unmarked : (z : ℤ) (t : Bool) →
        IsTrue (limit_strict (if t then number z false else unlimited)) → IsTrue false
    unmarked z true e = e
    unmarked z false e = e

    marked : (z : ℤ) → IsTrue (limit_strict (plain_limit z)) → IsTrue false
    marked z = unmarked z (int_le z (pos largest_size))
