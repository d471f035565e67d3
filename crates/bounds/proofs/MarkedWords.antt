-- Sums, order and makings of marked bounds, by their words.
use Rattle.std.proofs.Common.{◌≡◌, ℕ, ◌<◌, ◌≤◌, ◌⊎◌, Bool, true, false, cond, ◌&&◌, ◌||◌, leb, ℤ, ◌+ℤ◌, nat_abs, Ok, Err, Result, sym, refl, ap, ap₂, ◌∙◌, ⊎_elim, arith}
use Rattle.std.specs.Bool.{IsTrue}
use Rattle.std.proofs.lemmas.Bool.{cond-true, cond-false, lt-leb}
use Rattle.std.proofs.lemmas.Int.{ints}
use Rattle.bounds.specs.Kinds.{largest_number, largest_size, made, place}
use Rattle.bounds.specs.Limits.{capped, limit_sum}
use Rattle.bounds.specs.Limits.Limit.{number, unlimited}
use Rattle.bounds.specs.MarkedKind.{marked_kind, marked_limit, marked_of, marked_word, same_marked, small_limit}
use Rattle.bounds.specs.Places.{half, even, capped_place, is_marked_word, place_cases}
use Rattle.bounds.specs.Words.{no_limit_word}
use Rattle.bounds.specs.declared.made.MakeError.{MakeError}
use Rattle.bounds.specs.declared.made.MakeError.TheVariants.{OutsideLimits, MarkNotTaken}
use Rattle.bounds.specs.declared.marked.MarkedBound.{MarkedBound}

past_capped : (c : ℤ) (s : Bool) → largest_size < nat_abs c → capped_place c s ≡ no_limit_word
past_capped c s h = cond-false (leb (nat_abs c) largest_size) (place c s) no_limit_word (lt-leb (nat_abs c) largest_size h)

capped_word : (c : ℤ) (s : Bool) → capped_place c s ≡ marked_word (capped c s)
capped_word c s = by_test (leb (nat_abs c) largest_size) refl
  where
    by_test : (t : Bool) → leb (nat_abs c) largest_size ≡ t → cond t (place c s) no_limit_word ≡ marked_word (cond t (number c s) unlimited)
    by_test true e = sym (cond-true (leb (nat_abs c) largest_size) (place c s) no_limit_word e)
    by_test false e = refl

half_past : (z : ℤ) → z ≡ no_limit_word → half z ≡ half no_limit_word
half_past z e = ap half e

module _ (a b : ℤ) (p : IsTrue (is_marked_word a)) (q : IsTrue (is_marked_word b)) where
  abbrev pub Summed : Type 0
  Summed = capped_place (half a +ℤ half b) (even a || even b) ≡ marked_word (limit_sum (marked_limit a) (marked_limit b))

  both : nat_abs (half a) ≤ largest_size → nat_abs (half b) ≤ largest_size → Summed
  both x y =
      capped_word (half a +ℤ half b) (even a || even b)
      ∙ sym (ap₂ (λ l m. marked_word (limit_sum l m)) (small_limit a x) (small_limit b y))

  second : nat_abs (half a) ≤ largest_size → b ≡ no_limit_word → Summed
  second x e =
      past_capped (half a +ℤ half b) _ (omega (arith, ints, half_past b e))
      ∙ sym (ap₂ (λ l z. marked_word (limit_sum l (marked_limit z))) (small_limit a x) e)

  first : a ≡ no_limit_word → (nat_abs (half b) ≤ largest_size) ⊎ (b ≡ no_limit_word) → Summed
  first e c =
      past_capped (half a +ℤ half b) _ (⊎_elim (λ y. omega (arith, ints, half_past a e, y)) (λ f. omega (arith, ints, half_past a e, half_past b f)) c)
      ∙ sym (ap (λ z. marked_word (limit_sum (marked_limit z) (marked_limit b))) e)

  pub marked_sum : Summed
  marked_sum = ⊎_elim (λ x. ⊎_elim (both x) (second x) (place_cases b q)) (λ e. first e (place_cases b q)) (place_cases a p)

pub marked_made : (c n : ℤ) (strict : Bool) (b : MarkedBound) → ◌≡◌ {A = Result ℤ MakeError} (Ok n) (cond (leb (nat_abs c) largest_number) (Ok c) (Err OutsideLimits)) → b.limit ≡ capped_place n strict → Ok b ≡ made marked_kind c strict
marked_made c n strict b is word = by_test (leb (nat_abs c) largest_number) strict is word
  where
    by_test : (t s : Bool) → ◌≡◌ {A = Result ℤ MakeError} (Ok n) (cond t (Ok c) (Err OutsideLimits)) → b.limit ≡ capped_place n s → Ok b ≡ cond t (cond (s && false) (Err MarkNotTaken) (Ok (marked_of (number c s)))) (Err OutsideLimits)
    by_test true true e w =
        let same : n ≡ c = cc in
        ap Ok (same_marked b (marked_of (number c true)) (w ∙ ap (λ d. capped_place d true) same))
    by_test true false e w =
        let same : n ≡ c = cc in
        ap Ok (same_marked b (marked_of (number c false)) (w ∙ ap (λ d. capped_place d false) same))
    by_test false s e w = let z : ◌≡◌ {A = ℕ} 0 1 = cc in absurd (omega arith)
