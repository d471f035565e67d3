-- Steps of the loops that look for a line feed and read digits.
use Rattle.std.proofs.Common.{◌≡◌, ℕ, zero, suc, ◌+◌, ◌-◌, ◌*◌, ◌<◌, ◌≤◌, min, Bool, true, false, not, cond, eqb, ltb, leb, ◌==◌, ◌⊎◌, List, [], ◌∷◌, length, get_or, take, drop, ℤ, pos, negsuc, neg_ℤ, nat_abs, Some, None, Ok, codes, Option, sym, refl, ap, ◌∙◌, inl, inr, ⊎_elim, add-one, one-add, arith}
use borrow.Author.Differences.{ints}
use Rattle.std.proofs.lemmas.List.{drop_more, drop_all, take_all}
use Rattle.std.proofs.lemmas.Slice.Eq.{bytes_eq-Decides}
use Rattle.std.specs.Str.{bytes_eq}
use Rattle.std.proofs.lemmas.Bool.{ne_eqb, and_left, and_right, lt-leb, leb-true, leb-false, ltb-false, cond-false, cases_Bool}
use Rattle.std.specs.List.{position_or_len}
use Rattle.std.specs.Option.{option_map}
use Rattle.bounds.specs.Kinds.{Kind, made, largest_number}
use Rattle.loops.specs.Readings.{limit_bound, unmade, number_bound, marked_line_bound, line_bound}
use Rattle.loops.specs.Lines.{first_line, after_line, digit, digits_after, natural, integer, clipped, signed_clipped}

-- ---- the first line feed
abbrev pub feed : ℕ → Bool
feed b = b == 10

line_by : (t : Bool) (b : ℕ) (text : List ℕ) (n : ℕ) → first_line text ≡ take n text → cond t [] (b ∷ first_line text) ≡ take (cond (not t) (1 + n) 0) (b ∷ text)
line_by true b text n e = refl
line_by false b text n e = ap (λ l. b ∷ l) e ∙ ap (λ m. take m (b ∷ text)) (sym (one-add n))

line_to : (text : List ℕ) → first_line text ≡ take (position_or_len feed text) text
line_to [] = refl
line_to (b ∷ text) = line_by (b == 10) b text (position_or_len feed text) (line_to text)

rest_by : (t : Bool) (b : ℕ) (text : List ℕ) (n : ℕ) → after_line text ≡ drop (suc n) text → cond t text (after_line text) ≡ drop (suc (cond (not t) (1 + n) 0)) (b ∷ text)
rest_by true b text n e = refl
rest_by false b text n e = e ∙ ap (λ m. drop m text) (sym (one-add n))

rest_from : (text : List ℕ) → after_line text ≡ drop (suc (position_or_len feed text)) text
rest_from [] = refl
rest_from (b ∷ text) = rest_by (b == 10) b text (position_or_len feed text) (rest_from text)

-- the place of the first line feed, if there is one
abbrev pub Feeds : List ℕ → Option ℕ → Type 0
Feeds text r = r ≡ cond (ltb (position_or_len feed text) (length text)) (Some (position_or_len feed text)) None

at_place : (t : Bool) (p i : ℕ) → Some i ≡ cond t (Some p) None → i ≡ p
at_place true p i e = cc
at_place false p i e = let z : ◌≡◌ {A = ℕ} 0 1 = cc in absurd (omega arith)

no_place : (t : Bool) (p : ℕ) → None ≡ cond t (Some p) None → t ≡ false
no_place true p e = let z : ◌≡◌ {A = ℕ} 0 1 = cc in absurd (omega arith)
no_place false p e = refl

pub line_found : (text : List ℕ) (i : ℕ) → Feeds text (Some i) → (first_line text ≡ take i text) × (after_line text ≡ drop (i + 1) text)
line_found text i e =
    let p = at_place (ltb (position_or_len feed text) (length text)) (position_or_len feed text) i e in
    (line_to text ∙ ap (λ n. take n text) (sym p), rest_from text ∙ ap (λ n. drop (suc n) text) (sym p) ∙ ap (λ n. drop n text) (sym (add-one i)))

pub line_all : (text : List ℕ) → Feeds text None → (first_line text ≡ text) × (after_line text ≡ [])
line_all text e =
    let past : length text ≤ position_or_len feed text = ltb-false (position_or_len feed text) (length text) (no_place _ (position_or_len feed text) e) in
    (line_to text ∙ take_all (position_or_len feed text) text past, rest_from text ∙ drop_all (suc (position_or_len feed text)) text (omega (arith, past)))

-- ---- digits
on_digit : (t : Bool) (x y : Option ℕ) → option_map clipped x ≡ option_map clipped y → option_map clipped (cond t x None) ≡ option_map clipped (cond t y None)
on_digit true x y e = e
on_digit false x y e = refl

-- clipping on the way changes nothing of what is clipped in the end
pub clipped_after : (m n : ℕ) (text : List ℕ) → clipped m ≡ clipped n → option_map clipped (digits_after m text) ≡ option_map clipped (digits_after n text)
clipped_after m n [] e = ap Some e
clipped_after m n (b ∷ text) e = on_digit (digit b) _ _ (clipped_after (10 * m + (b - 48)) (10 * n + (b - 48)) text (omega arith))

-- what is read so far, and the digits from i on, give the number
abbrev pub Read : List ℕ → ℕ → ℕ → Type 0
Read text i number = option_map clipped (digits_after number (drop i text)) ≡ option_map clipped (digits_after 0 text)

module _ (text : List ℕ) (i number : ℕ) (here : i < length text) (so_far : Read text i number) where
  at_digit : (t : Bool) → digit (get_or text i 0) ≡ t → option_map clipped (cond t (digits_after (10 * number + (get_or text i 0 - 48)) (drop (i + 1) text)) None) ≡ option_map clipped (digits_after 0 text)
  at_digit t e =
      ap (λ (s : Bool). option_map clipped (cond s (digits_after (10 * number + (get_or text i 0 - 48)) (drop (i + 1) text)) None)) (sym e)
      ∙ ap (λ r. option_map clipped (digits_after number r)) (sym (drop_more text i 0 here))
      ∙ so_far

  pub read_more : (next : ℕ) → digit (get_or text i 0) ≡ true → next ≡ min (10 * number + (get_or text i 0 - 48)) 262144 → Read text (i + 1) next
  read_more next d e =
      clipped_after next (10 * number + (get_or text i 0 - 48)) (drop (i + 1) text) (omega arith)
      ∙ at_digit true d

  pub read_broken : digit (get_or text i 0) ≡ false → None ≡ option_map clipped (digits_after 0 text)
  read_broken e = at_digit false e

-- a byte below 0 or above 9 is no digit
pub digit_no : (b : ℕ) → (b < 48) ⊎ (57 < b) → digit b ≡ false
digit_no b (inl h) = and_left (leb 48 b) (leb b 57) (lt-leb 48 b h)
digit_no b (inr h) = and_right (leb 48 b) (leb b 57) (lt-leb b 57 h)

-- a text with a byte is read from 0
pub natural_some : (text : List ℕ) → 0 < length text → natural text ≡ digits_after 0 text
natural_some [] h = absurd (omega arith)
natural_some (b ∷ text) h = refl

pub read_all : (text : List ℕ) (i number : ℕ) → length text ≤ i → number ≤ 262144 → Read text i number → Some number ≡ option_map clipped (digits_after 0 text)
read_all text i number past small so_far =
    ap Some (omega arith) ∙ ap (λ r. option_map clipped (digits_after number r)) (sym (drop_all i text past)) ∙ so_far

-- ---- signs
neg_clipped : (n : ℕ) → signed_clipped (neg_ℤ (pos n)) ≡ neg_ℤ (pos (clipped n))
neg_clipped zero = refl
neg_clipped (suc n) = refl

negated : (o : Option ℕ) → option_map signed_clipped (option_map (λ n. neg_ℤ (pos n)) o) ≡ option_map (λ n. neg_ℤ (pos n)) (option_map clipped o)
negated None = refl
negated (Some n) = ap Some (neg_clipped n)

unsigned : (o : Option ℕ) → option_map signed_clipped (option_map pos o) ≡ option_map pos (option_map clipped o)
unsigned None = refl
unsigned (Some n) = refl

pub integer_minus : (text digits : List ℕ) → text ≡ 45 ∷ digits → option_map signed_clipped (integer text) ≡ option_map (λ n. neg_ℤ (pos n)) (option_map clipped (natural digits))
integer_minus text digits e = ap (λ t. option_map signed_clipped (integer t)) e ∙ negated (natural digits)

pub integer_plain : (text : List ℕ) → ((rest : List ℕ) → text ≡ 45 ∷ rest → ⊥) → option_map signed_clipped (integer text) ≡ option_map pos (option_map clipped (natural text))
integer_plain [] other = refl
integer_plain (b ∷ text) other =
    ap (λ (t : Bool). option_map signed_clipped (cond t (option_map (λ n. neg_ℤ (pos n)) (natural text)) (option_map pos (natural (b ∷ text))))) (ne_eqb b 45 (λ e. other text (ap (λ x. x ∷ text) e)))
    ∙ unsigned (natural (b ∷ text))

-- ---- a clipped number makes what the number makes
below_or_past : {B : Type 0} (kind : Kind B) (c d : ℤ) (s : Bool) → (nat_abs c ≤ largest_number → c ≡ d) → (largest_number < nat_abs c → largest_number < nat_abs d) → made kind c s ≡ made kind d s
below_or_past kind c d s same past =
    ⊎_elim
    (λ h. ap (λ z. made kind z s) (same (leb-true (nat_abs c) largest_number h)))
    (λ h.
    let beyond = past (leb-false (nat_abs c) largest_number h) in
    cond-false (leb (nat_abs c) largest_number) _ _ h ∙ sym (cond-false (leb (nat_abs d) largest_number) _ _ (lt-leb (nat_abs d) largest_number beyond)))
    (cases_Bool (leb (nat_abs c) largest_number))

made-clipped : {B : Type 0} (kind : Kind B) (c : ℤ) (s : Bool) → made kind c s ≡ made kind (signed_clipped c) s
made-clipped kind (pos n) s = below_or_past kind (pos n) (pos (clipped n)) s (λ h. ap pos (omega arith)) (λ h. omega arith)
made-clipped kind (negsuc n) s = below_or_past kind (negsuc n) (neg_ℤ (pos (clipped (suc n)))) s (λ h. let e : suc n ≡ clipped (suc n) = omega arith in ap (λ m. neg_ℤ (pos m)) e) (λ h. omega (arith, ints))

pub bound_clipped : {B : Type 0} (kind : Kind B) (s : Bool) (o : Option ℤ) → limit_bound kind s (option_map signed_clipped o) ≡ limit_bound kind s o
bound_clipped kind s None = refl
bound_clipped kind s (Some c) = ap unmade (sym (made-clipped kind c s))

-- ---- a line
pub number_bound_by : {B : Type 0} (kind : Kind B) (text : List ℕ) (s : Bool) (n : ℤ) → Some n ≡ option_map signed_clipped (integer text) → unmade (made kind n s) ≡ number_bound kind text s
number_bound_by kind text s n e = ap (limit_bound kind s) e ∙ bound_clipped kind s (integer text)

pub marked_plain : {B : Type 0} (kind : Kind B) (line : List ℕ) → ((rest : List ℕ) → line ≡ 60 ∷ rest → ⊥) → marked_line_bound kind line ≡ number_bound kind line false
marked_plain kind [] other = refl
marked_plain kind (b ∷ text) other = cond-false (eqb b 60) _ _ (ne_eqb b 60 (λ e. other text (ap (λ x. x ∷ text) e)))

pub bound_no_limit : {B : Type 0} (kind : Kind B) (line : List ℕ) → line ≡ codes "no limit" → line_bound kind line ≡ Ok kind.no_limit
bound_no_limit kind line e = ap (line_bound kind) e

pub bound_other : {B : Type 0} (kind : Kind B) (line : List ℕ) → (line ≡ codes "no limit" → ⊥) → line_bound kind line ≡ marked_line_bound kind line
bound_other kind line other =
    cond-false (bytes_eq line (codes "no limit")) _ _ (⊎_elim (λ e. absurd (other ((bytes_eq-Decides line (codes "no limit")).0 e))) (λ e. e) (cases_Bool (bytes_eq line (codes "no limit"))))
