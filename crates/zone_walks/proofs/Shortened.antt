-- Every walk has a walk of at most n legs with the same ends and no larger sum, unless there is a negative walk.
use Rattle.std.proofs.Common.{◌≡◌, ℕ, zero, suc, ◌+◌, ◌*◌, ◌<◌, ◌≤◌, true, false, eqb, ◌⊎◌, List, [], ◌∷◌, ◌++◌, length, sym, refl, ap, ◌∙◌, subst, inl, inr, ⊎_elim, mul-le-mul_right, arith, length-append}
use Rattle.std.proofs.lemmas.Bool.{cases_Bool, eqb-true, eqb-false}
use Rattle.bounds.specs.Kinds.{Kind, largest_size}
use Rattle.zone_walks.specs.Walks.{Matrix, walk_end, walk_sum, Inside, Walk, Negative, Sized}
use Rattle.zone_walks.proofs.Lessers.{at_most_same}
use Rattle.zone_walks.proofs.Sums.{ends_append, walk_size, sums_append, monotone_right}

-- ---- lists without repetition
abbrev Fresh : ℕ → List ℕ → Type 0
Fresh v [] = Unit {0}
Fresh v (q ∷ qs) = (eqb v q ≡ false) × Fresh v qs

abbrev Distinct : List ℕ → Type 0
Distinct [] = Unit {0}
Distinct (q ∷ qs) = Fresh q qs × Distinct qs

-- the list without its number n
record Without (n : ℕ) (qs : List ℕ) : Type 0 where
  rest : List ℕ
  long : length qs ≤ suc (length rest)
  distinct : Distinct rest
  inside : Inside n rest
  fresh : (v : ℕ) → Fresh v qs → Fresh v rest

lower : (n : ℕ) (qs : List ℕ) → Inside (suc n) qs → Fresh n qs → Inside n qs
lower n [] h f = tt
lower n (q ∷ qs) h f = (omega (arith, eqb-false n q f.0, h.0), lower n qs h.1 f.1)

without : (n : ℕ) (qs : List ℕ) → Distinct qs → Inside (suc n) qs → Without n qs
without n [] d h = record { rest = []; long = omega arith; distinct = tt; inside = tt; fresh = λ v f. f }
without n (q ∷ qs) d h =
    ⊎_elim
    (λ e. record { rest = qs; long = omega arith; distinct = d.1; inside = lower n qs h.1 (subst (λ v. Fresh v qs) (sym (eqb-true n q e)) d.0); fresh = λ v f. f.1 })
    (λ e. later e (without n qs d.1 h.1))
    (cases_Bool (eqb n q))
  where
    later : eqb n q ≡ false → Without n qs → Without n (q ∷ qs)
    later e w =
        record {
          rest = q ∷ w.rest;
          long = omega (arith, w.long);
          distinct = (w.fresh q d.0, w.distinct);
          inside = (omega (arith, eqb-false n q e, h.0), w.inside);
          fresh = λ v f. (f.0, w.fresh v f.1);
        }

few_numbers : (n : ℕ) (qs : List ℕ) → Distinct qs → Inside n qs → length qs ≤ n
few_numbers zero [] d h = omega arith
few_numbers zero (q ∷ qs) d h = absurd (omega (arith, h.0))
few_numbers (suc n) qs d h = let w = without n qs d h in omega (arith, w.long, few_numbers n w.rest w.distinct w.inside)

-- ---- the points from which a walk's legs start
abbrev starts : ℕ → List ℕ → List ℕ
starts j [] = []
starts j (p ∷ legs) = j ∷ starts p legs

starts_inside : (n j : ℕ) (legs : List ℕ) → j < n → Inside n legs → Inside n (starts j legs)
starts_inside n j [] h k = tt
starts_inside n j (p ∷ legs) h k = (h, starts_inside n p legs k.0 k.1)

starts_length : (j : ℕ) (legs : List ℕ) → length (starts j legs) ≡ length legs
starts_length j [] = refl
starts_length j (p ∷ legs) = ap suc (starts_length p legs)

simple_few : (n j : ℕ) (legs : List ℕ) → j < n → Inside n legs → Distinct (starts j legs) → length legs ≤ n
simple_few n j legs h k d = omega (arith, starts_length j legs, few_numbers n (starts j legs) d (starts_inside n j legs h k))

-- a walk from p that comes by v before its end
record Split (p v : ℕ) (legs : List ℕ) : Type 0 where
  front : List ℕ
  back : List ℕ
  parts : legs ≡ front ++ back
  meets : walk_end p front ≡ v
  some : 1 ≤ length back
  distinct : Distinct (starts v back)

split : (p v : ℕ) (legs : List ℕ) → Distinct (starts p legs) → Fresh v (starts p legs) ⊎ Split p v legs
split p v [] d = inl tt
split p v (q ∷ legs) d =
    ⊎_elim
    (λ e. inr (record { front = []; back = q ∷ legs; parts = refl; meets = sym (eqb-true v p e); some = omega arith; distinct = subst (λ w. Distinct (starts w (q ∷ legs))) (sym (eqb-true v p e)) d }))
    (λ e.
    ⊎_elim
    (λ f. inl (e, f))
    (λ s. inr (record { front = q ∷ s.front; back = s.back; parts = ap (λ l. q ∷ l) s.parts; meets = s.meets; some = s.some; distinct = s.distinct }))
    (split q v legs d.1))
    (cases_Bool (eqb v p))

inside_parts : (n : ℕ) (front back : List ℕ) → Inside n (front ++ back) → Inside n front × Inside n back
inside_parts n [] back h = (tt, h)
inside_parts n (p ∷ front) back h = let r = inside_parts n front back h.1 in ((h.0, r.0), r.1)

-- a walk of at most n legs with the same ends, and no larger sum
pub record Shorter {B : Type 0} (kind : Kind B) (n : ℕ) (x : Matrix B) (j i : ℕ) (b : B) : Type 0 where
  pub legs : List ℕ
  pub walk : Walk n n j i legs
  pub less : kind.at_most (walk_sum kind x j legs) b ≡ true

-- the same, and no point is left twice
record Simple {B : Type 0} (kind : Kind B) (n : ℕ) (x : Matrix B) (j i : ℕ) (b : B) : Type 0 where
  short : List ℕ
  inside : Inside n short
  ends : walk_end j short ≡ i
  distinct : Distinct (starts j short)
  less : kind.at_most (walk_sum kind x j short) b ≡ true

module _ {B : Type 0} (kind : Kind B) (n s : ℕ) (x : Matrix B) (sized : Sized kind n s x) (small : suc n * s ≤ largest_size) where
  simple_small : (p : ℕ) (legs : List ℕ) → p < n → Inside n legs → length legs ≤ n → kind.size (walk_sum kind x p legs) ≤ n * s
  simple_small p legs h k few = omega (arith, walk_size kind n s x sized p legs h k, mul-le-mul_right s few)

  -- a round trip is a negative walk, or may be left out
  trip : (j p i : ℕ) (b : B) (front back : List ℕ) → j < n → p < n → Inside n front → Inside n back → length front + length back ≤ n → 1 ≤ length back → walk_end p front ≡ j → walk_end j back ≡ i → Distinct (starts j back) → kind.at_most (kind.sum (x j p) (kind.sum (walk_sum kind x p front) (walk_sum kind x j back))) b ≡ true → Negative kind n x ⊎ Simple kind n x j i b
  trip j p i b front back h k fi bi few some meets ends distinct less = ⊎_elim keep drop (cases_Bool (kind.at_most kind.zero (walk_sum kind x j (p ∷ front))))
    where
      f : B
      f = walk_sum kind x p front

      r : B
      r = walk_sum kind x j back

      sizes : kind.size (x j p) + kind.size f + kind.size r ≤ largest_size
      sizes = omega (arith, sized j p h k, walk_size kind n s x sized p front k fi, walk_size kind n s x sized j back h bi, mul-le-mul_right s few)

      keep : kind.at_most kind.zero (kind.sum (x j p) f) ≡ true → Negative kind n x ⊎ Simple kind n x j i b
      keep t =
          let raised : kind.at_most (kind.sum kind.zero r) (kind.sum (kind.sum (x j p) f) r) ≡ true = kind.monotone kind.zero (kind.sum (x j p) f) r (omega (arith, kind.zero_size, sizes)) (omega (arith, kind.sum_size (x j p) f, sizes)) t in
          let raised2 : kind.at_most r (kind.sum (kind.sum (x j p) f) r) ≡ true = rw (kind.neutral r (omega (arith, sizes))) at raised in
          let whole : kind.at_most (kind.sum (kind.sum (x j p) f) r) b ≡ true = rw (kind.associative (x j p) f r sizes) less in
          inr (record { short = back; inside = bi; ends = ends; distinct = distinct; less = kind.transitive r (kind.sum (kind.sum (x j p) f) r) b raised2 whole })

      drop : kind.at_most kind.zero (kind.sum (x j p) f) ≡ false → Negative kind n x ⊎ Simple kind n x j i b
      drop t = inl (record { at = j; point = h; legs = p ∷ front; closed = record { inside = (k, fi); few = omega arith; ends = meets }; below = t })

  more : (j p i : ℕ) (b : B) → j < n → p < n → s + kind.size b ≤ largest_size → Simple kind n x p i b → Negative kind n x ⊎ Simple kind n x j i (kind.sum (x j p) b)
  more j p i b h k size m = ⊎_elim first again (split p j m.short m.distinct)
    where
      few : length m.short ≤ n
      few = simple_few n p m.short k m.inside m.distinct

      less : kind.at_most (kind.sum (x j p) (walk_sum kind x p m.short)) (kind.sum (x j p) b) ≡ true
      less = monotone_right kind (walk_sum kind x p m.short) b (x j p) (omega (arith, sized j p h k, simple_small p m.short k m.inside few)) (omega (arith, sized j p h k)) m.less

      first : Fresh j (starts p m.short) → Negative kind n x ⊎ Simple kind n x j i (kind.sum (x j p) b)
      first f = inr (record { short = p ∷ m.short; inside = (k, m.inside); ends = m.ends; distinct = (f, m.distinct); less = less })

      again : Split p j m.short → Negative kind n x ⊎ Simple kind n x j i (kind.sum (x j p) b)
      again sp =
          let inside = inside_parts n sp.front sp.back (subst (Inside n) sp.parts m.inside) in
          let few2 : length sp.front + length sp.back ≤ n = omega (arith, few, ap length sp.parts, length-append sp.front sp.back) in
          let sums : walk_sum kind x p m.short ≡ kind.sum (walk_sum kind x p sp.front) (walk_sum kind x j sp.back) = ap (walk_sum kind x p) sp.parts ∙ sums_append kind n s x sized p sp.front sp.back k inside.0 inside.1 (omega (arith, mul-le-mul_right s few2)) ∙ ap (λ v. kind.sum (walk_sum kind x p sp.front) (walk_sum kind x v sp.back)) sp.meets in
          let ends : walk_end j sp.back ≡ i = ap (λ v. walk_end v sp.back) (sym sp.meets) ∙ sym (ends_append p sp.front sp.back) ∙ ap (walk_end p) (sym sp.parts) ∙ m.ends in
          trip j p i (kind.sum (x j p) b) sp.front sp.back h k inside.0 inside.1 few2 sp.some sp.meets ends sp.distinct (subst (λ z. kind.at_most (kind.sum (x j p) z) (kind.sum (x j p) b) ≡ true) sums less)

  simple : (j : ℕ) (legs : List ℕ) → j < n → Inside n legs → length legs * s ≤ largest_size → Negative kind n x ⊎ Simple kind n x j (walk_end j legs) (walk_sum kind x j legs)
  simple j [] h k few = inr (record { short = []; inside = tt; ends = refl; distinct = tt; less = at_most_same kind kind.zero })
  simple j (p ∷ legs) h k few =
      ⊎_elim
      inl
      (more j p (walk_end p legs) (walk_sum kind x p legs) h k.0 (omega (arith, walk_size kind n s x sized p legs k.0 k.1)))
      (simple p legs k.0 k.1 (omega arith))

  pub shortened : (j : ℕ) (legs : List ℕ) → j < n → Inside n legs → length legs * s ≤ largest_size → Negative kind n x ⊎ Shorter kind n x j (walk_end j legs) (walk_sum kind x j legs)
  shortened j legs h k few =
      ⊎_elim
      inl
      (λ m. inr (record { legs = m.short; walk = record { inside = m.inside; few = simple_few n j m.short h m.inside m.distinct; ends = m.ends }; less = m.less }))
      (simple j legs h k few)
