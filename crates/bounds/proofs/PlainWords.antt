-- Sums and makings of plain bounds, by their words.
use Rattle.std.proofs.Common.{◌≡◌, ℕ, ◌<◌, ◌≤◌, ◌⊎◌, Bool, true, false, cond, ◌&&◌, leb, ℤ, pos, ◌+ℤ◌, nat_abs, Ok, Err, Result, sym, refl, ap, ◌∙◌, ⊎_elim, arith}
use Rattle.std.specs.Bool.{IsTrue}
use lib.Signed.{le_z}
use Rattle.std.proofs.lemmas.Bool.{cond-true, cond-false, lt-leb}
use borrow.Author.Differences.{ints}
use Rattle.bounds.specs.Kinds.{largest_number, largest_size, made}
use Rattle.bounds.specs.Limits.{limit_sum}
use Rattle.bounds.specs.Limits.Limit.{number, unlimited}
use Rattle.bounds.specs.PlainKind.{plain_kind, plain_limit, plain_of, plain_word, same_plain}
use Rattle.bounds.specs.Words.{capped_word, is_plain_word, no_limit_word, word_cases}
use Rattle.bounds.specs.declared.made.MakeError.{MakeError}
use Rattle.bounds.specs.declared.made.MakeError.TheVariants.{OutsideLimits, MarkNotTaken}
use Rattle.bounds.specs.declared.plain.PlainBound.{PlainBound}

-- the limit of a number's word, and of the other one
small_limit : (z : ℤ) → nat_abs z ≤ largest_size → plain_limit z ≡ number z false
small_limit z h =
    let below : le_z z (pos largest_size) ≡ true = sym (omega (arith, ints)) in
    cond-true (le_z z (pos largest_size)) (number z false) unlimited below

past_capped : (z : ℤ) → largest_size < nat_abs z → capped_word z ≡ no_limit_word
past_capped z h = cond-false (leb (nat_abs z) largest_size) z no_limit_word (lt-leb (nat_abs z) largest_size h)

capped_twice : (z : ℤ) → capped_word z ≡ plain_word (cond (leb (nat_abs z) largest_size) (number z false) unlimited)
capped_twice z = by_test (leb (nat_abs z) largest_size) refl
  where
    by_test : (t : Bool) → leb (nat_abs z) largest_size ≡ t → cond t z no_limit_word ≡ plain_word (cond t (number z false) unlimited)
    by_test true e = sym (cond-true (leb (nat_abs z) largest_size) z no_limit_word e)
    by_test false e = refl

pub plain_sum : (a b : ℤ) → IsTrue (is_plain_word a) → IsTrue (is_plain_word b) → capped_word (a +ℤ b) ≡ plain_word (limit_sum (plain_limit a) (plain_limit b))
plain_sum a b p q = ⊎_elim (λ x. ⊎_elim (both x) (second x) (word_cases b q)) (λ e. first e (word_cases b q)) (word_cases a p)
  where
    both : nat_abs a ≤ largest_size → nat_abs b ≤ largest_size → capped_word (a +ℤ b) ≡ plain_word (limit_sum (plain_limit a) (plain_limit b))
    both x y =
        capped_twice (a +ℤ b)
        ∙ sym (ap (λ l. plain_word (limit_sum l (plain_limit b))) (small_limit a x) ∙ ap (λ l. plain_word (limit_sum (number a false) l)) (small_limit b y))

    second : nat_abs a ≤ largest_size → b ≡ no_limit_word → capped_word (a +ℤ b) ≡ plain_word (limit_sum (plain_limit a) (plain_limit b))
    second x e =
        past_capped (a +ℤ b) (omega (arith, ints, e))
        ∙ sym (ap (λ l. plain_word (limit_sum l (plain_limit b))) (small_limit a x) ∙ ap (λ y. plain_word (limit_sum (number a false) (plain_limit y))) e)

    first : a ≡ no_limit_word → (nat_abs b ≤ largest_size) ⊎ (b ≡ no_limit_word) → capped_word (a +ℤ b) ≡ plain_word (limit_sum (plain_limit a) (plain_limit b))
    first e c =
        past_capped (a +ℤ b) (omega (arith, ints, e, c))
        ∙ sym (ap (λ y. plain_word (limit_sum (plain_limit y) (plain_limit b))) e)

pub plain_made : (c n : ℤ) (strict : Bool) (b : PlainBound) → ◌≡◌ {A = Result ℤ MakeError} (Ok n) (cond (leb (nat_abs c) largest_number) (Ok c) (Err OutsideLimits)) → strict ≡ false → b.limit ≡ capped_word n → Ok b ≡ made plain_kind c strict
plain_made c n strict b is plain word = by_test (leb (nat_abs c) largest_number) is
  where
    by_test : (t : Bool) → ◌≡◌ {A = Result ℤ MakeError} (Ok n) (cond t (Ok c) (Err OutsideLimits)) → Ok b ≡ cond t (cond (strict && true) (Err MarkNotTaken) (Ok (plain_of (number c strict)))) (Err OutsideLimits)
    by_test true e =
        let same : n ≡ c = cc in
        rw plain (ap Ok (same_plain b (plain_of (number c false)) (word ∙ ap capped_word same)))
    by_test false e = let z : ◌≡◌ {A = ℕ} 0 1 = cc in absurd (omega arith)
