-- Differences that meet a loop whose bounds do not add up to less than zero.
use Rattle.std.proofs.Common.{◌≡◌, ℕ, ◌+◌, ◌*◌, ◌<◌, ◌≤◌, Bool, true, false, cond, not, ◌&&◌, ◌||◌, eqb, leb, ◌⊎◌, List, [], ◌∷◌, ◌++◌, map, length, ℤ, pos, ◌+ℤ◌, ◌-ℤ◌, ◌*ℤ◌, neg_ℤ, nat_abs, Some, None, Ok, Err, codes, Option, Result, sym, refl, ap, ◌∙◌, inl, inr, ⊎_elim, mul-le-mul_left, mul-add, arith}
use borrow.Author.Differences.{ints, up, down}
use lib.IntN.{+ℤ_assoc, +ℤ_idl, +ℤ_idr}
use lib.Signed.{le_z}
use Rattle.std.proofs.lemmas.List.{append-nil, nil_from_length}
use Rattle.std.proofs.lemmas.Bool.{le-leb, leb-true, cond-true, true≢false, false≢true}
use Rattle.std.specs.Str.{bytes_eq}
use Rattle.std.proofs.Math.Bool.{or-false, or_assoc}
use Rattle.bounds.specs.Kinds.{Kind, Named, largest_number, largest_size, number_allows, place}
use Rattle.bounds.specs.declared.made.MakeError.TheVariants.{OutsideLimits, MarkNotTaken}
use Rattle.loops.specs.declared.line.LineFault.{LineFault}
use Rattle.loops.specs.declared.judging.Verdict.{Verdict}
use Rattle.loops.specs.Lines.{integer, lines}
use Rattle.loops.specs.Readings.{line_bound, marked_line_bound, number_bound, limit_bound, unmade}
use Rattle.loops.specs.Loops.{total_after, total, added, AllAllowed, Meets, Summed, most_lines}
use Rattle.loops.proofs.Rounds.{Progress, none_meets}

-- ---- of marks and of numbers counted on a grid
either_marked : (marks s t : Bool) → (s ≡ true → marks ≡ true) → (t ≡ true → marks ≡ true) → (s || t) ≡ true → marks ≡ true
either_marked marks true t p q e = p refl
either_marked marks false t p q e = q e

scaled_sum : (k : ℕ) (c d : ℤ) → pos k *ℤ (c +ℤ d) ≡ pos k *ℤ c +ℤ pos k *ℤ d
scaled_sum k c d =
    let e : up (c +ℤ d) + down c + down d ≡ down (c +ℤ d) + up c + up d = omega (arith, ints) in
    let f : k * (up (c +ℤ d) + down c + down d) ≡ k * (down (c +ℤ d) + up c + up d) = ap (λ n. k * n) e in
    omega (arith, ints, f, mul-add k (up (c +ℤ d) + down c) (down d), mul-add k (up (c +ℤ d)) (down c), mul-add k (down (c +ℤ d) + up c) (up d), mul-add k (down (c +ℤ d)) (up c))

-- ---- the bounds that lines say
-- a bound that a line can say: that of a small number, or no limit
pub data Said {B : Type 0} (kind : Kind B) (b : B) : Type 0 where
  numbered : (c : ℤ) (s : Bool) → nat_abs c ≤ largest_number → (s ≡ true → kind.marks ≡ true) → b ≡ kind.number c s → Said kind b
  open_ended : b ≡ kind.no_limit → Said kind b

pub data AllSaid {B : Type 0} (kind : Kind B) : List B → Type 0 where
  none : AllSaid kind []
  more : {b : B} {bs : List B} → Said kind b → AllSaid kind bs → AllSaid kind (b ∷ bs)

module _ {B : Type 0} (kind : Kind B) where
  ok_said : (b x : B) → ◌≡◌ {A = Result B LineFault} (Ok x) (Ok b) → Said kind x → Said kind b
  ok_said b x e (numbered c s small takes is) = let same : b ≡ x = cc in numbered c s small takes (same ∙ is)
  ok_said b x e (open_ended is) = let same : b ≡ x = cc in open_ended (same ∙ is)

  err_said : (b : B) (f : LineFault) → ◌≡◌ {A = Result B LineFault} (Err f) (Ok b) → Said kind b
  err_said b f e = let z : ◌≡◌ {A = ℕ} 0 1 = cc in absurd (omega arith)

  taken : (s m : Bool) → (s && not m) ≡ false → s ≡ true → m ≡ true
  taken true true e h = refl
  taken true false e h = absurd (true≢false e)
  taken false m e h = absurd (false≢true h)

  made_said : (c : ℤ) (s : Bool) (b : B) (t u : Bool) → leb (nat_abs c) largest_number ≡ t → (s && not kind.marks) ≡ u → unmade (cond t (cond u (Err MarkNotTaken) (Ok (kind.number c s))) (Err OutsideLimits)) ≡ Ok b → Said kind b
  made_said c s b false u small marked e = err_said b _ e
  made_said c s b true true small marked e = err_said b _ e
  made_said c s b true false small marked e =
      ok_said b (kind.number c s) e (numbered c s (leb-true (nat_abs c) largest_number small) (taken s kind.marks marked) refl)

  read_said : (s : Bool) (o : Option ℤ) (b : B) → limit_bound kind s o ≡ Ok b → Said kind b
  read_said s None b e = err_said b _ e
  read_said s (Some c) b e = made_said c s b (leb (nat_abs c) largest_number) (s && not kind.marks) refl refl e

  marked_said : (b : B) (x y : Result B LineFault) (t : Bool) → (x ≡ Ok b → Said kind b) → (y ≡ Ok b → Said kind b) → cond t x y ≡ Ok b → Said kind b
  marked_said b x y true p q e = p e
  marked_said b x y false p q e = q e

  unmarked_said : (line : List ℕ) (b : B) → marked_line_bound kind line ≡ Ok b → Said kind b
  unmarked_said [] b e = err_said b _ e
  unmarked_said (x ∷ line) b e =
      marked_said b (number_bound kind line true) (number_bound kind (x ∷ line) false) (eqb x 60) (read_said true (integer line) b) (read_said false (integer (x ∷ line)) b) e

  line_said : (line : List ℕ) (b : B) → line_bound kind line ≡ Ok b → Said kind b
  line_said line b e =
      marked_said b (Ok kind.no_limit) (marked_line_bound kind line) (bytes_eq line (codes "no limit")) (λ h. ok_said b kind.no_limit h (open_ended refl)) (unmarked_said line b) e

  pub all_said : (ls : List (List ℕ)) (bs : List B) → map (line_bound kind) ls ≡ map Ok bs → AllSaid kind bs
  all_said ls [] e = none
  all_said [] (b ∷ bs) e = let z : ◌≡◌ {A = ℕ} 0 1 = cc in absurd (omega arith)
  all_said (l ∷ ls) (b ∷ bs) e =
      let head : line_bound kind l ≡ Ok b = cc in
      let tail : map (line_bound kind) ls ≡ map Ok bs = cc in
      more (line_said l b head) (all_said ls bs tail)

-- 1 for a strict bound, whose greatest difference lies one short of its number
abbrev short : Bool → ℕ
short s = cond s 1 0

-- bounds of numbers alone: the sum of the numbers, whether one is strict, and how many are
data Numbers {B : Type 0} (kind : Kind B) : List B → ℤ → Bool → ℕ → Type 0 where
  none : Numbers kind [] (pos 0) false 0
  more : {b : B} {bs : List B} {t : ℤ} {u : Bool} {w : ℕ} (c : ℤ) (s : Bool) → nat_abs c ≤ largest_number → (s ≡ true → kind.marks ≡ true) → b ≡ kind.number c s → Numbers kind bs t u w → Numbers kind (b ∷ bs) (c +ℤ t) (s || u) (short s + w)

-- bounds with differences on grid k that add up to e
record Reached {B : Type 0} (kind : Kind B) (k : ℕ) (bs : List B) (e : ℤ) : Type 0 where
  ds : List ℤ
  allowed : AllAllowed kind k bs ds
  sum : added ds ≡ e

module _ {B : Type 0} (kind : Kind B) (k : ℕ) (grid : 1 ≤ k) where
  greatest_allowed : (c : ℤ) (s : Bool) → number_allows k c s (pos k *ℤ c -ℤ pos (short s)) ≡ true
  greatest_allowed c true = sym (omega (arith, ints))
  greatest_allowed c false = sym (omega (arith, ints))

  named : (c : ℤ) (s : Bool) → nat_abs c ≤ largest_number → (s ≡ true → kind.marks ≡ true) → Named kind.marks c s
  named c s small takes = record { small = omega arith; takes = takes }

  number_allowed : (b : B) (c : ℤ) (s : Bool) (d : ℤ) → nat_abs c ≤ largest_number → (s ≡ true → kind.marks ≡ true) → b ≡ kind.number c s → number_allows k c s d ≡ true → kind.allows k b d ≡ true
  number_allowed b c s d small takes is h = ap (λ x. kind.allows k x d) is ∙ kind.numbers_allow k c s d grid (named c s small takes) ∙ h

  -- each number at its greatest difference
  greatest : {bs : List B} {t : ℤ} {u : Bool} {w : ℕ} → Numbers kind bs t u w → Reached kind k bs (pos k *ℤ t -ℤ pos w)
  greatest none = record { ds = []; allowed = tt; sum = omega (arith, ints) }
  greatest (more {b} {t = t} {w = w} c s small takes is rest) =
      let r = greatest rest in
      record {
        ds = (pos k *ℤ c -ℤ pos (short s)) ∷ r.ds;
        allowed = (number_allowed b c s _ small takes is (greatest_allowed c s), r.allowed);
        sum = ap (λ z. (pos k *ℤ c -ℤ pos (short s)) +ℤ z) r.sum ∙ omega (arith, ints, scaled_sum k c t);
      }

  -- some differences that are allowed
  some_allowed : {bs : List B} → AllSaid kind bs → (e : ℤ) × Reached kind k bs e
  some_allowed none = (pos 0, record { ds = []; allowed = tt; sum = refl })
  some_allowed (more {b} (numbered c s small takes is) rest) =
      let r = (some_allowed rest).1 in
      let d = pos k *ℤ c -ℤ pos (short s) in
      (d +ℤ added r.ds, record { ds = d ∷ r.ds; allowed = (number_allowed b c s d small takes is (greatest_allowed c s), r.allowed); sum = refl })
  some_allowed (more {b} (open_ended is) rest) =
      let r = (some_allowed rest).1 in
      (pos 0 +ℤ added r.ds, record { ds = pos 0 ∷ r.ds; allowed = (ap (λ x. kind.allows k x (pos 0)) is ∙ kind.no_limit_allows k (pos 0) grid, r.allowed); sum = refl })

  -- numbers alone, or with a bound without limit any sum of differences
  sorted : {bs : List B} → AllSaid kind bs → ((t : ℤ) × (u : Bool) × (w : ℕ) × Numbers kind bs t u w) ⊎ ((e : ℤ) → Reached kind k bs e)
  sorted none = inl (pos 0, false, 0, none)
  sorted (more {b} (numbered c s small takes is) rest) =
      let d = pos k *ℤ c -ℤ pos (short s) in
      ⊎_elim
      (λ n. inl (c +ℤ n.0, (s || n.1), short s + n.2, more c s small takes is n.3))
      (λ r. inr (λ e. record { ds = d ∷ (r (e -ℤ d)).ds; allowed = (number_allowed b c s d small takes is (greatest_allowed c s), (r (e -ℤ d)).allowed); sum = ap (λ z. d +ℤ z) (r (e -ℤ d)).sum ∙ omega (arith, ints) }))
      (sorted rest)
  sorted (more {b} (open_ended is) rest) =
      let r = (some_allowed rest).1 in
      inr (λ e. record { ds = (e -ℤ added r.ds) ∷ r.ds; allowed = (ap (λ x. kind.allows k x (e -ℤ added r.ds)) is ∙ kind.no_limit_allows k (e -ℤ added r.ds) grid, r.allowed); sum = omega (arith, ints) })

-- ---- the sum of numbers
-- a sum that is not below zero leaves the first bound room for what the others need
fits_first : (k w : ℕ) (c t : ℤ) (s u : Bool) → w < k → (u ≡ false → w ≡ 0) → le_z (place (pos 0) false) (place (c +ℤ t) (s || u)) ≡ true → number_allows k c s (neg_ℤ (pos k *ℤ t -ℤ pos w)) ≡ true
fits_first k w c t true u lt few h =
    let l : 1 + down (c +ℤ t) ≤ up (c +ℤ t) = omega (arith, ints) in
    sym (omega (arith, ints, scaled_sum k c t, mul-le-mul_left k l, mul-add k 1 (down (c +ℤ t))))
fits_first k w c t false true lt few h =
    let l : 1 + down (c +ℤ t) ≤ up (c +ℤ t) = omega (arith, ints) in
    sym (omega (arith, ints, scaled_sum k c t, mul-le-mul_left k l, mul-add k 1 (down (c +ℤ t))))
fits_first k w c t false false lt few h =
    let l : down (c +ℤ t) ≤ up (c +ℤ t) = omega (arith, ints) in
    sym (omega (arith, ints, few refl, scaled_sum k c t, mul-le-mul_left k l))

module _ {B : Type 0} (kind : Kind B) where
  summed : {bs : List B} {t : ℤ} {u : Bool} {w : ℕ} (c : ℤ) (s : Bool) → Numbers kind bs t u w → nat_abs c + largest_number * length bs ≤ largest_size → (s ≡ true → kind.marks ≡ true) → total_after kind (kind.number c s) bs ≡ kind.number (c +ℤ t) (s || u)
  summed c s none room takes = ap (λ z. kind.number z s) (sym (+ℤ_idr c)) ∙ ap (kind.number (c +ℤ pos 0)) (sym (or-false s))
  summed c s (more {b} {bs} {t} {u} d r small marked is rest) room takes =
      let near : nat_abs (c +ℤ d) ≤ nat_abs c + nat_abs d = omega (arith, ints) in
      let one : kind.sum (kind.number c s) b ≡ kind.number (c +ℤ d) (s || r) =
      ap (kind.sum (kind.number c s)) is
      ∙ kind.numbers_sum c d s r (record { small = omega arith; takes = takes }) (record { small = omega arith; takes = marked })
      ∙ cond-true (leb (nat_abs (c +ℤ d)) largest_size) _ _ (le-leb (nat_abs (c +ℤ d)) largest_size (omega arith)) in
      ap (λ x. total_after kind x bs) one
      ∙ summed (c +ℤ d) (s || r) rest (omega arith) (either_marked kind.marks s r takes marked)
      ∙ ap (λ z. kind.number z ((s || r) || u)) (+ℤ_assoc c d t)
      ∙ ap (kind.number (c +ℤ (d +ℤ t))) (or_assoc s r u)

  small_sum : {bs : List B} {t : ℤ} {u : Bool} {w : ℕ} → Numbers kind bs t u w → nat_abs t ≤ largest_number * length bs
  small_sum none = omega arith
  small_sum (more {t = t} c s small takes is rest) = omega (arith, ints, small_sum rest)

  marks_sum : {bs : List B} {t : ℤ} {u : Bool} {w : ℕ} → Numbers kind bs t u w → u ≡ true → kind.marks ≡ true
  marks_sum none e = absurd (false≢true e)
  marks_sum (more {u = u} c s small takes is rest) e = either_marked kind.marks s u takes (marks_sum rest) e

  few_strict : {bs : List B} {t : ℤ} {u : Bool} {w : ℕ} → Numbers kind bs t u w → (w ≤ length bs) × (u ≡ false → w ≡ 0)
  few_strict none = (omega arith, λ e. refl)
  few_strict (more c true small takes is rest) = (omega (arith, (few_strict rest).0), λ e. absurd (true≢false e))
  few_strict (more c false small takes is rest) = (omega (arith, (few_strict rest).0), λ e. omega (arith, (few_strict rest).1 e))

  -- differences that add up to 0, where all bounds are numbers: the first makes up for the others
  closes : {bs : List B} {t : ℤ} {u : Bool} {w : ℕ} (k : ℕ) → 1 ≤ k → length bs < k → Numbers kind bs t u w → le_z (place (pos 0) false) (place t u) ≡ true → Reached kind k bs (pos 0)
  closes k grid many none h = record { ds = []; allowed = tt; sum = refl }
  closes k grid many (more {b} {t = t} {u} {w} c s small takes is rest) h =
      let r = greatest kind k grid rest in
      let few = few_strict rest in
      let d = neg_ℤ (pos k *ℤ t -ℤ pos w) in
      record {
        ds = d ∷ r.ds;
        allowed = (number_allowed kind k grid b c s d small takes is (fits_first k w c t s u (omega (arith, few.0)) few.1 h), r.allowed);
        sum = ap (λ z. d +ℤ z) r.sum ∙ omega (arith, ints);
      }

  not_below : {bs : List B} {t : ℤ} {u : Bool} {w : ℕ} → Numbers kind bs t u w → length bs ≤ most_lines → kind.at_most kind.zero (total kind bs) ≡ true → le_z (place (pos 0) false) (place t u) ≡ true
  not_below {bs} {t} {u} n few h =
      let e : total kind bs ≡ kind.number t u =
      ap (λ z. total_after kind z bs) (sym kind.number_zero) ∙ summed (pos 0) false n (omega arith) (λ f. absurd (false≢true f)) ∙ ap (λ z. kind.number z u) (+ℤ_idl t) in
      sym (kind.numbers_order (pos 0) t false u (record { small = omega arith; takes = λ f. absurd (false≢true f) }) (record { small = omega (arith, small_sum n); takes = marks_sum n }))
      ∙ ap (λ z. kind.at_most z (kind.number t u)) kind.number_zero
      ∙ ap (kind.at_most kind.zero) (sym e)
      ∙ h

  pub some_meets : (bs : List B) → AllSaid kind bs → length bs ≤ most_lines → kind.at_most kind.zero (total kind bs) ≡ true → (k : ℕ) × (ds : List ℤ) × Meets kind k bs ds
  some_meets bs all few h =
      let k = length bs + 1 in
      let grid : 1 ≤ k = omega arith in
      let r : Reached kind k bs (pos 0) = ⊎_elim (λ n. closes k grid (omega arith) n.3 (not_below n.3 few h)) (λ any. any (pos 0)) (sorted kind k grid all) in
      (k, r.ds, record { grid = grid; allowed = r.allowed; closed = r.sum })

-- ---- the whole loop
pub done : {B : Type 0} (kind : Kind B) (text rest : List ℕ) (v : Verdict B) (count : ℕ) → length rest ≡ 0 → Progress kind text rest v.sum count → v.possible ≡ kind.at_most kind.zero v.sum → Summed kind text v
done kind text rest v count end all judged =
    let whole : lines text ≡ all.before = all.split ∙ ap (λ r. all.before ++ lines r) (nil_from_length rest end) ∙ append-nil all.before in
    let said = ap (map (line_bound kind)) whole ∙ all.said in
    let few : length all.bounds ≤ most_lines = omega (arith, all.paired, all.few) in
    let order : v.possible ≡ kind.at_most kind.zero (total kind all.bounds) = judged ∙ ap (kind.at_most kind.zero) all.summed in
    record {
      bounds = all.bounds;
      said = said;
      few = few;
      sum = all.summed;
      impossible = λ e k ds m. none_meets kind k m.grid all.bounds ds (sym order ∙ e) m.allowed m.closed;
      possible = λ e. some_meets kind all.bounds (all_said kind (lines text) all.bounds said) few (sym order ∙ e);
    }
