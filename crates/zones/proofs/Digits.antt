-- Matchings by their digits: a number is a matching where each digit fits, and the next one raises a single digit.
use Rattle.std.proofs.Common.{◌≡◌, ℕ, zero, suc, ◌+◌, ◌-◌, ◌*◌, ◌/◌, ◌^◌, ◌<◌, ◌≤◌, min, Bool, true, false, not, ◌&&◌, ◌||◌, eqb, ◌⊎◌, List, [], ◌∷◌, ◌++◌, map, length, get_or, take, drop, sym, refl, ap, ◌∙◌, subst, ap₂, inl, inr, arith}
use Rattle.std.proofs.lemmas.List.{at_drop_more, drop_all}
use Rattle.std.proofs.lemmas.Bool.{eq-eqb, ne_eqb, false≢true, and_parts, and_from, and_left, and_right, or_left, cases_lt, cases_order}
use Rattle.std.proofs.lemmas.Bool.Decides.{nat_tests}
use Rattle.std.proofs.Math.Bool.{and-false, and-true, or-false, or-true}
use Rattle.nets.specs.Nets.{Arc}
use Rattle.zones.specs.Predecessors.{among, stands, matches, fields, all_zero, digits_of, is_matching}
use Rattle.zones.specs.Digits.{digit_fits, all_fit, Fitting, raised}

-- ---- a digit is not among those before it, or not among those after it
-- no digit but 0 is among those before
abbrev apart : List ℕ → List ℕ → Bool
apart before [] = true
apart before (d ∷ ds) = (eqb d 0 || not (among d before)) && apart before ds

pub swapped : (p q r : Bool) → (p || (q || r)) ≡ (q || (p || r))
swapped true true r = refl
swapped true false r = refl
swapped false true r = refl
swapped false false r = refl

among_more : (x : ℕ) (before : List ℕ) (d : ℕ) → among x (before ++ (d ∷ [])) ≡ (eqb x d || among x before)
among_more x [] d = refl
among_more x (b ∷ before) d = ap (λ t. eqb x b || t) (among_more x before d) ∙ swapped (eqb x b) (eqb x d) (among x before)

apart_bools : (x d : ℕ) (r a p : Bool) → ((eqb x 0 || not (eqb x d || a)) && ((eqb d 0 || not r) && p)) ≡ ((eqb d 0 || not (eqb d x || r)) && ((eqb x 0 || not a) && p))
apart_bools x d r a p = grind (arith, nat_tests)

apart_more : (before : List ℕ) (d : ℕ) (ds : List ℕ) → apart (before ++ (d ∷ [])) ds ≡ ((eqb d 0 || not (among d ds)) && apart before ds)
apart_more before d [] = sym (and-true _ ∙ or-true (eqb d 0))
apart_more before d (x ∷ ds) =
    ap₂ (λ s t. (eqb x 0 || not s) && t) (among_more x before d) (apart_more before d ds) ∙ apart_bools x d (among d ds) (among x before) (apart before ds)

apart_none : (ds : List ℕ) → apart [] ds ≡ true
apart_none [] = refl
apart_none (d ∷ ds) = ap₂ ◌&&◌ (or-true (eqb d 0)) (apart_none ds)

-- the digits one by one, along the arcs
abbrev walk : List ℕ → List ℕ → List ℕ → List ℕ → Bool
walk places before [] [] = true
walk places before [] (d ∷ ds) = (eqb d 0 || false) && walk places (before ++ (d ∷ [])) [] ds
walk places before (a ∷ arcs) [] = false
walk places before (a ∷ arcs) (d ∷ ds) = (eqb d 0 || (stands places d a && not (among d before))) && walk places (before ++ (d ∷ [])) arcs ds

walk_zero : (places before ds : List ℕ) → walk places before [] ds ≡ all_zero ds
walk_zero places before [] = refl
walk_zero places before (d ∷ ds) = ap₂ ◌&&◌ (or-false (eqb d 0)) (walk_zero places (before ++ (d ∷ [])) ds)

walk_bools : (e s a m z p r : Bool) → ((e || (s && not a)) && ((m && z) && ((e || not r) && p))) ≡ ((((e || (s && not r)) && m) && z) && ((e || not a) && p))
walk_bools true s a m z p r = refl
walk_bools false false a m z p r = refl
walk_bools false true true m z p r = sym (and-false _)
walk_bools false true false m z p true = and-false _
walk_bools false true false m z p false = refl

walk-matches : {B : Type 0} (places before : List ℕ) (arcs : List (Arc B)) (ds : List ℕ) → walk places before (map (λ a. a.place) arcs) ds ≡ ((matches places arcs (take (length arcs) ds) && all_zero (drop (length arcs) ds)) && apart before (take (length arcs) ds))
walk-matches places before [] ds = walk_zero places before ds ∙ sym (and-true _)
walk-matches places before (a ∷ arcs) [] = refl
walk-matches places before (a ∷ arcs) (d ∷ ds) =
    ap (λ t. (eqb d 0 || (stands places d a.place && not (among d before))) && t)
    (walk-matches places (before ++ (d ∷ [])) arcs ds ∙ ap (λ t. (matches places arcs (take (length arcs) ds) && all_zero (drop (length arcs) ds)) && t) (apart_more before d (take (length arcs) ds)))
    ∙ walk_bools (eqb d 0) (stands places d a.place) (among d before) _ _ _ (among d (take (length arcs) ds))

walk_fits : (places arcs : List ℕ) (a b c d : ℕ) → length arcs ≤ 4 → all_fit arcs places [] (a ∷ b ∷ c ∷ d ∷ []) ≡ walk places [] arcs (a ∷ b ∷ c ∷ d ∷ [])
walk_fits places [] a b c d few = refl
walk_fits places (p ∷ []) a b c d few = refl
walk_fits places (p ∷ q ∷ []) a b c d few = refl
walk_fits places (p ∷ q ∷ r ∷ []) a b c d few = refl
walk_fits places (p ∷ q ∷ r ∷ s ∷ []) a b c d few = refl
walk_fits places (p ∷ q ∷ r ∷ s ∷ t ∷ arcs) a b c d few = absurd (omega arith)

length_places : {B : Type 0} (arcs : List (Arc B)) → length (map (λ a. a.place) arcs) ≡ length arcs
length_places [] = refl
length_places (a ∷ arcs) = ap suc (length_places arcs)

-- a number is a matching where each digit fits
pub all_fit_matching : {B : Type 0} (places : List ℕ) (arcs : List (Arc B)) (n : ℕ) → length arcs ≤ 4 → all_fit (map (λ a. a.place) arcs) places [] (fields n) ≡ is_matching places arcs n
all_fit_matching places arcs n few =
    walk_fits places (map (λ a. a.place) arcs) _ _ _ _ (omega (arith, length_places arcs))
    ∙ walk-matches places [] arcs (fields n)
    ∙ ap (λ t. is_matching places arcs n && t) (apart_none (digits_of arcs n))
    ∙ and-true (is_matching places arcs n)

-- ---- the next number whose digits fit
-- a number without its digits from a position on
abbrev pub front : ℕ → ℕ → ℕ
front p n = n / 16 ^ (4 - p)

abbrev digit : ℕ → ℕ → ℕ
digit p n = get_or (fields n) p 0

four : {a b c d e f g h : ℕ} → a ≡ e → b ≡ f → c ≡ g → d ≡ h → ◌≡◌ {A = List ℕ} (a ∷ b ∷ c ∷ d ∷ []) (e ∷ f ∷ g ∷ h ∷ [])
four p q r s = ap₂ ◌∷◌ p (ap₂ ◌∷◌ q (ap₂ ◌∷◌ r (ap (λ x. x ∷ []) s)))

same_front : (p i n : ℕ) → p ≤ 4 → front p i ≡ front p n → take p (fields i) ≡ take p (fields n)
same_front zero i n h e = refl
same_front (suc zero) i n h e = ap (λ x. x ∷ []) (omega arith)
same_front (suc (suc zero)) i n h e = ap₂ (λ x y. x ∷ y ∷ []) (omega arith) (omega arith)
same_front (suc (suc (suc zero))) i n h e = ap₂ ◌∷◌ (omega arith) (ap₂ (λ x y. x ∷ y ∷ []) (omega arith) (omega arith))
same_front (suc (suc (suc (suc zero)))) i n h e = four (omega arith) (omega arith) (omega arith) (omega arith)
same_front (suc (suc (suc (suc (suc p))))) i n h e = absurd (omega arith)

parted_by : {P : Type 0} (x y : ℕ) → y ≤ x → (x ≡ y → P) → P ⊎ (y < x)
parted_by x y h f =
    elim (cases_order x y) [ inl e ↦ inl (f e) | inr o ↦ elim o [ inl l ↦ absurd (omega arith) | inr l ↦ inr l ] ]

-- of two numbers with the same front the larger has the larger digit, or one more digit is the same
parted : (p i n : ℕ) → p < 4 → n < i → front p i ≡ front p n → (front (suc p) i ≡ front (suc p) n) ⊎ (digit p n < digit p i)
parted zero i n h l e = parted_by _ _ (omega arith) (λ q. omega arith)
parted (suc zero) i n h l e = parted_by _ _ (omega arith) (λ q. omega arith)
parted (suc (suc zero)) i n h l e = parted_by _ _ (omega arith) (λ q. omega arith)
parted (suc (suc (suc zero))) i n h l e = parted_by _ _ (omega arith) (λ q. omega arith)
parted (suc (suc (suc (suc p)))) i n h l e = absurd (omega arith)

pub raised_small : (p n d : ℕ) → p < 4 → n < 65536 → d < 16 → digit p n < d → (n < raised n p d) × (raised n p d < 65536)
raised_small zero n d h s b l = omega arith
raised_small (suc zero) n d h s b l = omega arith
raised_small (suc (suc zero)) n d h s b l = omega arith
raised_small (suc (suc (suc zero))) n d h s b l = omega arith
raised_small (suc (suc (suc (suc p)))) n d h s b l = absurd (omega arith)

raised_between : (p n d i : ℕ) → p < 4 → n < 65536 → d < 16 → digit p n < d → n < i → i < raised n p d → (front p i ≡ front p n) × (digit p i < d)
raised_between zero n d i h s b l m u = omega arith
raised_between (suc zero) n d i h s b l m u = omega arith
raised_between (suc (suc zero)) n d i h s b l m u = omega arith
raised_between (suc (suc (suc zero))) n d i h s b l m u = omega arith
raised_between (suc (suc (suc (suc p)))) n d i h s b l m u = absurd (omega arith)

pub digit_small : (p i : ℕ) → p < 4 → get_or (fields i) p 0 < 16
digit_small zero i h = omega arith
digit_small (suc zero) i h = omega arith
digit_small (suc (suc zero)) i h = omega arith
digit_small (suc (suc (suc zero))) i h = omega arith
digit_small (suc (suc (suc (suc p)))) i h = absurd (omega arith)

-- one digit less
shorter : (p i n : ℕ) → p < 4 → front (suc p) i ≡ front (suc p) n → (front p i ≡ front p n) × (digit p i ≡ digit p n)
shorter zero i n h e = omega arith
shorter (suc zero) i n h e = omega arith
shorter (suc (suc zero)) i n h e = omega arith
shorter (suc (suc (suc zero))) i n h e = omega arith
shorter (suc (suc (suc (suc p)))) i n h e = absurd (omega arith)

module _ (arcs places : List ℕ) where
  spoiled_in : (a b c d p : ℕ) → p < 4 → digit_fits arcs places (take p (a ∷ b ∷ c ∷ d ∷ [])) (get_or (a ∷ b ∷ c ∷ d ∷ []) p 0) ≡ false → all_fit arcs places [] (a ∷ b ∷ c ∷ d ∷ []) ≡ false
  spoiled_in a b c d zero h e = and_left _ _ e
  spoiled_in a b c d (suc zero) h e = and_right (digit_fits arcs places [] a) _ (and_left _ _ e)
  spoiled_in a b c d (suc (suc zero)) h e =
      and_right (digit_fits arcs places [] a) _ (and_right (digit_fits arcs places (a ∷ []) b) _ (and_left _ (digit_fits arcs places (a ∷ b ∷ c ∷ []) d && true) e))
  spoiled_in a b c d (suc (suc (suc zero))) h e =
      and_right (digit_fits arcs places [] a) _ (and_right (digit_fits arcs places (a ∷ []) b) _ (and_right (digit_fits arcs places (a ∷ b ∷ []) c) _ (and_left _ true e)))
  spoiled_in a b c d (suc (suc (suc (suc p)))) h e = absurd (omega arith)

  -- a digit that does not fit
  spoiled : (p n : ℕ) → p < 4 → digit_fits arcs places (take p (fields n)) (digit p n) ≡ false → all_fit arcs places [] (fields n) ≡ false
  spoiled p n h e = spoiled_in (digit 0 n) (digit 1 n) (digit 2 n) (digit 3 n) p h e

  -- no larger number with the same front fits
  abbrev pub Passed : ℕ → ℕ → Type 0
  Passed p n = (i : ℕ) → n < i → i < 65536 → front p i ≡ front p n → all_fit arcs places [] (fields i) ≡ false

  -- nor one whose digit here is less than a limit up to which none fits
  passed_below : (p n limit : ℕ) → p < 4 → ((x : ℕ) → digit p n < x → x < limit → digit_fits arcs places (take p (fields n)) x ≡ false) → Passed (suc p) n → (i : ℕ) → n < i → i < 65536 → front p i ≡ front p n → digit p i < limit → all_fit arcs places [] (fields i) ≡ false
  passed_below p n limit h none later i l s e b =
      elim (parted p i n h l e) [ inl same ↦ later i l s same | inr more ↦ spoiled p i h (subst (λ before. digit_fits arcs places before (digit p i) ≡ false) (sym (same_front p i n (omega arith) e)) (none (digit p i) more b)) ]

  pub counted_fit : (n count : ℕ) → Fitting arcs places (fields n) count → eqb count 4 ≡ all_fit arcs places [] (fields n)
  counted_fit n count f =
      elim (cases_lt count 4) [ inl l ↦ ne_eqb count 4 (omega arith) ∙ sym (spoiled count n l (f.stop l)) | inr m ↦ let is : count ≡ 4 = omega (arith, f.within) in eq-eqb count 4 is ∙ sym (and_from _ _ (f.before 0 (omega arith)) (and_from _ _ (f.before 1 (omega arith)) (and_from _ _ (f.before 2 (omega arith)) (and_from _ _ (f.before 3 (omega arith)) refl)))) ]

  -- where every digit fits, only the number itself has all of its digits
  passed_whole : (n : ℕ) → Passed 4 n
  passed_whole n i l s e = absurd (omega arith)

  -- where a digit does not fit, no number with the same digits up to it does
  passed_spoiled : (p n : ℕ) → p < 4 → digit_fits arcs places (take p (fields n)) (get_or (fields n) p 0) ≡ false → Passed (suc p) n
  passed_spoiled p n h e i l s same =
      let short = shorter p i n h same in
      spoiled p i h (subst (λ before. digit_fits arcs places before (digit p i) ≡ false) (sym (same_front p i n (omega arith) short.0)) (subst (λ x. digit_fits arcs places (take p (fields n)) x ≡ false) (sym short.1) e))

  pub passed_first : (n count : ℕ) → Fitting arcs places (fields n) count → Passed (min (count + 1) 4) n
  passed_first n count f =
      elim (cases_lt count 4) [ inl l ↦ let is : suc count ≡ min (count + 1) 4 = omega arith in subst (λ p. Passed p n) is (passed_spoiled count n l (f.stop l)) | inr m ↦ let is : 4 ≡ min (count + 1) 4 = omega arith in subst (λ p. Passed p n) is (passed_whole n) ]

  -- no larger digit fits
  pub passed_more : (p n : ℕ) → p < 4 → ((x : ℕ) → get_or (fields n) p 0 < x → x < 16 → digit_fits arcs places (take p (fields n)) x ≡ false) → Passed (suc p) n → Passed p n
  passed_more p n h none later i l s e = passed_below p n 16 h none later i l s e (digit_small p i h)

  pub passed_all : (n : ℕ) → n < 65536 → Passed 0 n → (i : ℕ) → n < i → i < 65536 → all_fit arcs places [] (fields i) ≡ false
  passed_all n small passed i l s = passed i l s (omega arith)

  pub raised_fits : (p n d : ℕ) → p < 4 → d < 16 → ((k : ℕ) → k < p → digit_fits arcs places (take k (fields n)) (get_or (fields n) k 0) ≡ true) → digit_fits arcs places (take p (fields n)) d ≡ true → all_fit arcs places [] (fields (raised n p d)) ≡ true
  raised_fits zero n d h b before here =
      let is : fields (raised n 0 d) ≡ (d ∷ 0 ∷ 0 ∷ 0 ∷ []) = four (omega arith) (omega arith) (omega arith) (omega arith) in
      subst (λ ds. all_fit arcs places [] ds ≡ true) (sym is) (and_from _ _ here refl)
  raised_fits (suc zero) n d h b before here =
      let is : fields (raised n 1 d) ≡ (digit 0 n ∷ d ∷ 0 ∷ 0 ∷ []) = four (omega arith) (omega arith) (omega arith) (omega arith) in
      subst (λ ds. all_fit arcs places [] ds ≡ true) (sym is) (and_from _ _ (before 0 (omega arith)) (and_from _ _ here refl))
  raised_fits (suc (suc zero)) n d h b before here =
      let is : fields (raised n 2 d) ≡ (digit 0 n ∷ digit 1 n ∷ d ∷ 0 ∷ []) = four (omega arith) (omega arith) (omega arith) (omega arith) in
      subst (λ ds. all_fit arcs places [] ds ≡ true) (sym is) (and_from _ _ (before 0 (omega arith)) (and_from _ _ (before 1 (omega arith)) (and_from _ _ here refl)))
  raised_fits (suc (suc (suc zero))) n d h b before here =
      let is : fields (raised n 3 d) ≡ (digit 0 n ∷ digit 1 n ∷ digit 2 n ∷ d ∷ []) = four (omega arith) (omega arith) (omega arith) (omega arith) in
      subst (λ ds. all_fit arcs places [] ds ≡ true) (sym is) (and_from _ _ (before 0 (omega arith)) (and_from _ _ (before 1 (omega arith)) (and_from _ _ (before 2 (omega arith)) (and_from _ _ here refl))))
  raised_fits (suc (suc (suc (suc p)))) n d h b before here = absurd (omega arith)

  pub raised_none : (p n d : ℕ) → p < 4 → n < 65536 → d < 16 → get_or (fields n) p 0 < d → ((x : ℕ) → get_or (fields n) p 0 < x → x < d → digit_fits arcs places (take p (fields n)) x ≡ false) → Passed (suc p) n → (i : ℕ) → n < i → i < raised n p d → all_fit arcs places [] (fields i) ≡ false
  raised_none p n d h s b l none later i above below =
      let between = raised_between p n d i h s b l above below in
      let small = raised_small p n d h s b l in
      passed_below p n d h none later i above (omega arith) between.0 between.1

-- ---- a matching as a number
matching_small : {B : Type 0} (places : List ℕ) (a : Arc B) (d : ℕ) (r : Bool) → length places ≤ 15 → (eqb d 0 || (stands places d a.place && not r)) ≡ true → d < 16
matching_small places a d r few h = grind (arith, nat_tests)

-- 0 is a matching of any arcs
pub zero_matches : {B : Type 0} (places : List ℕ) (arcs : List (Arc B)) → length arcs ≤ 4 → is_matching places arcs 0 ≡ true
zero_matches places [] few = refl
zero_matches places (p ∷ []) few = refl
zero_matches places (p ∷ q ∷ []) few = refl
zero_matches places (p ∷ q ∷ r ∷ []) few = refl
zero_matches places (p ∷ q ∷ r ∷ s ∷ []) few = refl
zero_matches places (p ∷ q ∷ r ∷ s ∷ t ∷ arcs) few = absurd (omega arith)

small_at : {B : Type 0} (places : List ℕ) (arcs : List (Arc B)) (ds : List ℕ) → length places ≤ 15 → matches places arcs ds ≡ true → (k : ℕ) → get_or ds k 0 < 16
small_at places [] [] few m k = omega arith
small_at places [] (d ∷ ds) few m k = absurd (false≢true m)
small_at places (a ∷ arcs) [] few m k = absurd (false≢true m)
small_at places (a ∷ arcs) (d ∷ ds) few m zero = matching_small places a d (among d ds) few (and_parts _ (matches places arcs ds) m).0
small_at places (a ∷ arcs) (d ∷ ds) few m (suc k) =
    small_at places arcs ds few (and_parts (eqb d 0 || (stands places d a.place && not (among d ds))) _ m).1 k

pub one_each : {B : Type 0} (places : List ℕ) (arcs : List (Arc B)) (ds : List ℕ) → matches places arcs ds ≡ true → length ds ≡ length arcs
one_each places [] [] m = refl
one_each places [] (d ∷ ds) m = absurd (false≢true m)
one_each places (a ∷ arcs) [] m = absurd (false≢true m)
one_each places (a ∷ arcs) (d ∷ ds) m =
    ap suc (one_each places arcs ds (and_parts (eqb d 0 || (stands places d a.place && not (among d ds))) _ m).1)

-- four digits, with 0 past the end of a shorter list
abbrev filled : List ℕ → List ℕ
filled ds = get_or ds 0 0 ∷ get_or ds 1 0 ∷ get_or ds 2 0 ∷ get_or ds 3 0 ∷ []

filled_parts : (ds : List ℕ) → length ds ≤ 4 → (take (length ds) (filled ds) ≡ ds) × (all_zero (drop (length ds) (filled ds)) ≡ true)
filled_parts [] h = (refl, refl)
filled_parts (a ∷ []) h = (refl, refl)
filled_parts (a ∷ b ∷ []) h = (refl, refl)
filled_parts (a ∷ b ∷ c ∷ []) h = (refl, refl)
filled_parts (a ∷ b ∷ c ∷ d ∷ []) h = (refl, refl)
filled_parts (a ∷ b ∷ c ∷ d ∷ e ∷ ds) h = absurd (omega arith)

abbrev packed : List ℕ → ℕ
packed ds = get_or ds 0 0 * 4096 + get_or ds 1 0 * 256 + get_or ds 2 0 * 16 + get_or ds 3 0

packed-fields : (ds : List ℕ) → ((k : ℕ) → get_or ds k 0 < 16) → (packed ds < 65536) × (fields (packed ds) ≡ filled ds)
packed-fields ds small = packed_four (get_or ds 0 0) (get_or ds 1 0) (get_or ds 2 0) (get_or ds 3 0) (small 0) (small 1) (small 2) (small 3)
  where
    packed_four : (a b c d : ℕ) → a < 16 → b < 16 → c < 16 → d < 16 → (a * 4096 + b * 256 + c * 16 + d < 65536) × (fields (a * 4096 + b * 256 + c * 16 + d) ≡ (a ∷ b ∷ c ∷ d ∷ []))
    packed_four a b c d p q r s = (omega arith, four (omega arith) (omega arith) (omega arith) (omega arith))

-- every matching is said by a number
pub packs : {B : Type 0} (places : List ℕ) (arcs : List (Arc B)) (matching : List ℕ) → length arcs ≤ 4 → length places ≤ 15 → matches places arcs matching ≡ true → (n : ℕ) × (n < 65536) × (digits_of arcs n ≡ matching) × (is_matching places arcs n ≡ true)
packs places arcs matching few_arcs few_places m =
    let each : length matching ≡ length arcs = one_each places arcs matching m in
    let said = packed-fields matching (small_at places arcs matching few_places m) in
    let parts = filled_parts matching (omega arith) in
    let digits : digits_of arcs (packed matching) ≡ matching = ap₂ (λ k ds. take k ds) (sym each) said.1 ∙ parts.0 in
    let zeros : all_zero (drop (length arcs) (fields (packed matching))) ≡ true = ap₂ (λ k ds. all_zero (drop k ds)) (sym each) said.1 ∙ parts.1 in
    (packed matching, said.0, digits, and_from _ _ (ap (λ ds. matches places arcs ds) digits ∙ m) zeros)

-- ---- a token looked for among digits, from a place on
pub among_found : (token : ℕ) (ds : List ℕ) (i : ℕ) → i < length ds → token ≡ get_or ds i 0 → among token (drop i ds) ≡ true
among_found token ds i h e = at_drop_more (among token) ds i 0 h ∙ or_left _ _ (eq-eqb token (get_or ds i 0) e)

pub among_passed : (token : ℕ) (ds : List ℕ) (i : ℕ) → i < length ds → (token ≡ get_or ds i 0 → ⊥) → among token (drop i ds) ≡ among token (drop (i + 1) ds)
among_passed token ds i h n =
    at_drop_more (among token) ds i 0 h ∙ ap (λ t. t || among token (drop (i + 1) ds)) (ne_eqb token (get_or ds i 0) n)

pub among_end : (token : ℕ) (ds : List ℕ) (i : ℕ) → length ds ≤ i → among token (drop i ds) ≡ false
among_end token ds i h = ap (among token) (drop_all i ds h)
