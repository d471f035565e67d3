-- A type whose values stand for limits is a kind of bounds: the laws are shown once, for every such
-- type.
use Rattle.std.specs.Prelude.{◌≡◌, ◌+◌, ◌≤◌, Bool, true, false, ◌||◌, T, ℤ, pos, ◌+ℤ◌, int_le}
use Rattle.std.specs.Prelude.{nat_le, unsigned_abs, refl, IsTrue, if◌then◌else◌}
use Rattle.std.proofs.Common.{arith, leb→le, sym, ap, subst, ◌∙◌}
use Rattle.std.proofs.lemmas.Bool.{false≢true}
use Rattle.bounds.specs.Kinds.{Kind, Named, largest_size, place}
use Rattle.bounds.specs.Limits.{Limit, limit_sum, limit_at_most, limit_size, limit_allows}
use Rattle.bounds.specs.Limits.{limit_strict, capped, limit_total, limit_transitive}
use Rattle.bounds.specs.Limits.{limit_antisymmetric, limit_top, limit_associative}
use Rattle.bounds.specs.Limits.{limit_commutative, limit_neutral, limit_monotone}
use Rattle.bounds.specs.Limits.{limit_larger_allows, limit_sum_allows, limit_zero_allows}
use Rattle.bounds.specs.Limits.{limit_below_zero, limit_grids, limit_sum_size, limit_sum_capped}
use Rattle.bounds.specs.Limits.Limit.{number, unlimited}

-- the limits that a type of bounds has a value for
abbrev pub Held : Bool → Limit → Type 0
Held marks (number c s) = Named marks c s
Held marks unlimited = Unit {0}

-- each value stands for one limit, and each limit that is asked for has its value
pub record Coding (B : Type 0) : Type 0 where
  pub marks : Bool
  pub view : B → Limit
  pub of : Limit → B
  pub back : (b : B) → of (view b) ≡ b
  pub reads : (l : Limit) → Held marks l → view (of l) ≡ l
  pub marked : (b : B) → IsTrue (limit_strict (view b)) → IsTrue marks

-- ---- a sum of two limits has its value
pub either_marked : (marks s t : Bool) → (IsTrue s → IsTrue marks) → (IsTrue t → IsTrue marks) →
    IsTrue (s || t) → IsTrue marks
either_marked marks true t p q e = p refl
either_marked marks false t p q e = q e

held_capped : (marks : Bool) (c : ℤ) (s : Bool) → (IsTrue s → IsTrue marks) →
    Held marks (capped c s)
held_capped marks c s p = by_size (nat_le (unsigned_abs c) largest_size) refl
  where
    by_size : (t : Bool) → nat_le (unsigned_abs c) largest_size ≡ t →
        Held marks (if t then number c s else unlimited)
    by_size true e = record { small = leb→le (unsigned_abs c) largest_size (subst T (sym e) tt); takes = p }
    by_size false e = tt

held_sum : (marks : Bool) (a b : Limit) → (IsTrue (limit_strict a) → IsTrue marks) →
    (IsTrue (limit_strict b) → IsTrue marks) → Held marks (limit_sum a b)
held_sum marks (number c s) (number d t) p q =
    held_capped marks (c +ℤ d) (s || t) (either_marked marks s t p q)
held_sum marks (number c s) unlimited p q = tt
held_sum marks unlimited b p q = tt

of-capped : {B : Type 0} (of : Limit → B) (t : Bool) (x y : Limit) →
    of (if t then x else y) ≡ (if t then of x else of y)
of-capped of true x y = refl
of-capped of false x y = refl

module _ {B : Type 0} (coding : Coding B) where
  abbrev pub coded_sum : B → B → B
  coded_sum a b = coding.of (limit_sum (coding.view a) (coding.view b))

  pub same : (a b : B) → coding.view a ≡ coding.view b → a ≡ b
  same a b e = sym (coding.back a) ∙ ap coding.of e ∙ coding.back b

  pub view_sum : (a b : B) → coding.view (coded_sum a b) ≡ limit_sum (coding.view a) (coding.view b)
  view_sum a b =
      coding.reads _ (held_sum coding.marks (coding.view a) (coding.view b) (coding.marked a) (coding.marked b))

  pub view_zero : coding.view (coding.of (number (pos 0) false)) ≡ number (pos 0) false
  view_zero =
      coding.reads (number (pos 0) false) (record {
        small = omega arith;
        takes = λ e. absurd (false≢true e);
      })

  pub view_no_limit : coding.view (coding.of unlimited) ≡ unlimited
  view_no_limit = coding.reads unlimited tt

  pub coded_associative : (a b c : B) →
      limit_size (coding.view a) + limit_size (coding.view b)
      + limit_size (coding.view c) ≤ largest_size →
      coded_sum (coded_sum a b) c ≡ coded_sum a (coded_sum b c)
  coded_associative a b c h =
      ap (λ x. coding.of (limit_sum x (coding.view c))) (view_sum a b)
      ∙ ap coding.of (limit_associative (coding.view a) (coding.view b) (coding.view c) h)
      ∙ ap (λ x. coding.of (limit_sum (coding.view a) x)) (sym (view_sum b c))

  pub coded_monotone : (a b c : B) →
      limit_size (coding.view a) + limit_size (coding.view c) ≤ largest_size →
      limit_size (coding.view b) + limit_size (coding.view c) ≤ largest_size →
      IsTrue (limit_at_most (coding.view a) (coding.view b)) →
      IsTrue (limit_at_most (coding.view (coded_sum a c)) (coding.view (coded_sum b c)))
  coded_monotone a b c h k l =
      ap (λ x. limit_at_most x (coding.view (coded_sum b c))) (view_sum a c)
      ∙ ap (limit_at_most (limit_sum (coding.view a) (coding.view c))) (view_sum b c)
      ∙ limit_monotone (coding.view a) (coding.view b) (coding.view c) h k l

  pub coded_numbers_order : (c d : ℤ) (s t : Bool) → Named coding.marks c s →
      Named coding.marks d t →
      limit_at_most (coding.view (coding.of (number c s))) (coding.view (coding.of (number d t))) ≡ int_le (place c s) (place d t)
  coded_numbers_order c d s t m n =
      ap (λ x. limit_at_most x (coding.view (coding.of (number d t)))) (coding.reads (number c s) m) ∙ ap (limit_at_most (number c s)) (coding.reads (number d t) n)

  pub coded_numbers_sum : (c d : ℤ) (s t : Bool) → Named coding.marks c s → Named coding.marks d t →
      coded_sum (coding.of (number c s)) (coding.of (number d t)) ≡ (if nat_le (unsigned_abs (c +ℤ d)) largest_size then coding.of (number (c +ℤ d) (s || t)) else coding.of unlimited)
  coded_numbers_sum c d s t m n =
      ap (λ x. coding.of (limit_sum x (coding.view (coding.of (number d t))))) (coding.reads (number c s) m)
      ∙ ap (λ x. coding.of (limit_sum (number c s) x)) (coding.reads (number d t) n)
      ∙ of-capped coding.of (nat_le (unsigned_abs (c +ℤ d)) largest_size) (number (c +ℤ d) (s || t)) unlimited

  -- the kind that the values make
  abbrev pub coded_kind : Kind B
  coded_kind =
      record {
        zero = coding.of (number (pos 0) false);
        no_limit = coding.of unlimited;
        marks = coding.marks;
        number = λ c s. coding.of (number c s);
        sum = coded_sum;
        at_most = λ a b. limit_at_most (coding.view a) (coding.view b);
        size = λ a. limit_size (coding.view a);
        allows = λ k a d. limit_allows k (coding.view a) d;
        total = λ a b. limit_total (coding.view a) (coding.view b);
        transitive = λ a b c. limit_transitive (coding.view a) (coding.view b) (coding.view c);
        antisymmetric =
            λ a b h k. same a b (limit_antisymmetric (coding.view a) (coding.view b) h k);
        top = λ a. ap (limit_at_most (coding.view a)) view_no_limit ∙ limit_top (coding.view a);
        associative = coded_associative;
        commutative = λ a b h. ap coding.of (limit_commutative (coding.view a) (coding.view b));
        neutral =
            λ a h. ap (λ x. coding.of (limit_sum x (coding.view a))) view_zero ∙ ap coding.of (limit_neutral (coding.view a) h) ∙ coding.back a;
        monotone = coded_monotone;
        absorbs = λ a. ap (λ x. coding.of (limit_sum x (coding.view a))) view_no_limit;
        larger_allows = λ k a b d. limit_larger_allows k (coding.view a) (coding.view b) d;
        sum_allows =
            λ k a b d e p h l. ap (λ x. limit_allows k x (d +ℤ e)) (view_sum a b) ∙ limit_sum_allows k (coding.view a) (coding.view b) d e h l;
        zero_allows = λ k d p. ap (λ x. limit_allows k x d) view_zero ∙ limit_zero_allows k d;
        below_zero =
            λ k a p h. limit_below_zero k (coding.view a) p (ap (λ x. limit_at_most x (coding.view a)) (sym view_zero) ∙ h);
        no_limit_allows = λ k d p. ap (λ x. limit_allows k x d) view_no_limit;
        grids = λ k a d. limit_grids k (coding.view a) d;
        zero_size = ap limit_size view_zero;
        no_limit_size = ap limit_size view_no_limit;
        sum_size =
            λ a b. subst (λ (x : Limit). limit_size x ≤ limit_size (coding.view a)
            + limit_size (coding.view b)) (sym (view_sum a b)) (limit_sum_size (coding.view a) (coding.view b));
        sum_capped =
            λ a b. subst (λ (x : Limit). limit_size x ≤ largest_size) (sym (view_sum a b)) (limit_sum_capped (coding.view a) (coding.view b));
        number_zero = refl;
        numbers_allow = λ k c s d p n. ap (λ x. limit_allows k x d) (coding.reads (number c s) n);
        numbers_order = coded_numbers_order;
        numbers_size = λ c s n. ap limit_size (coding.reads (number c s) n);
        numbers_sum = coded_numbers_sum;
      }
