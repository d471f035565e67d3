-- Sums of bounds within the sizes, and sums of walks.
use Rattle.std.proofs.Common.{◌≡◌, ℕ, ◌+◌, ◌*◌, ◌^◌, ◌<◌, ◌≤◌, true, List, [], ◌∷◌, ◌++◌, length, sym, refl, ap, ◌∙◌, add-le-add, mul-le-mul_right, mul-le-mul, arith, length-append}
use Rattle.bounds.specs.Kinds.{Kind, largest_size}
use Rattle.zone_walks.specs.Walks.{Matrix, walk_end, walk_sum, Inside, Walk, Reached, Sized}
use Rattle.zone_walks.specs.NormalForms.{most_points}

-- twice so many legs as points stay within the sizes
pub room : (n s : ℕ) → n ≤ most_points → s ≤ 2 ^ 30 → (n + n) * s ≤ largest_size
room n s few small = omega (arith, mul-le-mul (add-le-add few few) small)

-- ---- ends
pub ends_append : (j : ℕ) (legs more : List ℕ) → walk_end j (legs ++ more) ≡ walk_end (walk_end j legs) more
ends_append j [] more = refl
ends_append j (p ∷ legs) more = ends_append p legs more

pub inside_append : (n : ℕ) (legs more : List ℕ) → Inside n legs → Inside n more → Inside n (legs ++ more)
inside_append n [] more h k = k
inside_append n (p ∷ legs) more h k = (h.0, inside_append n legs more h.1 k)

pub ends_inside : (n j : ℕ) (legs : List ℕ) → j < n → Inside n legs → walk_end j legs < n
ends_inside n j [] h k = h
ends_inside n j (p ∷ legs) h k = ends_inside n p legs k.0 k.1

pub walk_append : (n a b j v i : ℕ) (legs more : List ℕ) → Walk n a j v legs → Walk n b v i more → Walk n (a + b) j i (legs ++ more)
walk_append n a b j v i legs more w u =
    record {
      inside = inside_append n legs more w.inside u.inside;
      few = omega (arith, length-append legs more, w.few, u.few);
      ends = ends_append j legs more ∙ ap (λ p. walk_end p more) w.ends ∙ u.ends;
    }

pub one_leg : (n most j i : ℕ) → i < n → 1 ≤ most → Walk n most j i (i ∷ [])
one_leg n most j i h k = record { inside = (h, tt); few = omega arith; ends = refl }

pub no_leg : (n most j : ℕ) → Walk n most j j []
no_leg n most j = record { inside = tt; few = omega arith; ends = refl }

pub reached_more : {B : Type 0} (kind : Kind B) (n a b : ℕ) (x : Matrix B) (j i : ℕ) (c : B) → a ≤ b → Reached kind n a x j i c → Reached kind n b x j i c
reached_more kind n a b x j i c le r =
    record { legs = r.legs; walk = record { inside = r.walk.inside; few = omega (arith, r.walk.few); ends = r.walk.ends }; sum = r.sum }

module _ {B : Type 0} (kind : Kind B) where
  -- ---- sums of bounds
  pub zero_after : (a : B) → kind.size a ≤ largest_size → kind.sum a kind.zero ≡ a
  zero_after a h = kind.commutative a kind.zero (omega (arith, kind.zero_size)) ∙ kind.neutral a h

  pub monotone_right : (a b c : B) → kind.size a + kind.size c ≤ largest_size → kind.size b + kind.size c ≤ largest_size → kind.at_most a b ≡ true → kind.at_most (kind.sum c a) (kind.sum c b) ≡ true
  monotone_right a b c h k le =
      rw (kind.commutative c a (omega arith), kind.commutative c b (omega arith)) (kind.monotone a b c h k le)

  -- larger bounds have a larger sum
  pub monotone_both : (a b c d : B) (s t : ℕ) → kind.size a ≤ s → kind.size b ≤ s → kind.size c ≤ t → kind.size d ≤ t → s + t ≤ largest_size → kind.at_most a b ≡ true → kind.at_most c d ≡ true → kind.at_most (kind.sum a c) (kind.sum b d) ≡ true
  monotone_both a b c d s t ha hb hc hd room h k =
      kind.transitive (kind.sum a c) (kind.sum b c) (kind.sum b d) (kind.monotone a b c (omega arith) (omega arith) h) (monotone_right c d b (omega arith) (omega arith) k)

  -- ---- sums of walks
  module _ (n s : ℕ) (x : Matrix B) (sized : Sized kind n s x) where
    pub walk_size : (j : ℕ) (legs : List ℕ) → j < n → Inside n legs → kind.size (walk_sum kind x j legs) ≤ length legs * s
    walk_size j [] h k = omega (arith, kind.zero_size)
    walk_size j (p ∷ legs) h k = omega (arith, kind.sum_size (x j p) (walk_sum kind x p legs), sized j p h k.0, walk_size p legs k.0 k.1)

    pub walk_small : (j most : ℕ) (legs : List ℕ) → j < n → Inside n legs → length legs ≤ most → kind.size (walk_sum kind x j legs) ≤ most * s
    walk_small j most legs h k few = omega (arith, walk_size j legs h k, mul-le-mul_right s few)

    pub sums_append : (j : ℕ) (legs more : List ℕ) → j < n → Inside n legs → Inside n more → (length legs + length more) * s ≤ largest_size → walk_sum kind x j (legs ++ more) ≡ kind.sum (walk_sum kind x j legs) (walk_sum kind x (walk_end j legs) more)
    sums_append j [] more h k l small = sym (kind.neutral (walk_sum kind x j more) (omega (arith, walk_size j more h l)))
    sums_append j (p ∷ legs) more h k l small =
        let e = ends_inside n p legs k.0 k.1 in
        ap (λ b. kind.sum (x j p) b) (sums_append p legs more k.0 k.1 l (omega arith))
        ∙ sym (kind.associative (x j p) (walk_sum kind x p legs) (walk_sum kind x (walk_end p legs) more) (omega (arith, sized j p h k.0, walk_size p legs k.0 k.1, walk_size (walk_end p legs) more e l)))

    pub reached_small : (most j i : ℕ) (b : B) → j < n → Reached kind n most x j i b → kind.size b ≤ most * s
    reached_small most j i b h r = rw r.sum (walk_small j most r.legs h r.walk.inside r.walk.few)

    pub reached_leg : (most j i : ℕ) → j < n → i < n → 1 ≤ most → s ≤ largest_size → Reached kind n most x j i (x j i)
    reached_leg most j i h k some small =
        record { legs = i ∷ []; walk = one_leg n most j i k some; sum = sym (zero_after (x j i) (omega (arith, sized j i h k))) }

    pub reached_append : (a b j v i : ℕ) (c d : B) → j < n → v < n → (a + b) * s ≤ largest_size → Reached kind n a x j v c → Reached kind n b x v i d → Reached kind n (a + b) x j i (kind.sum c d)
    reached_append a b j v i c d h k small r q =
        let less : length r.legs + length q.legs ≤ a + b = omega (arith, r.walk.few, q.walk.few) in
        record {
          legs = r.legs ++ q.legs;
          walk = walk_append n a b j v i r.legs q.legs r.walk q.walk;
          sum =
              ap (λ z. kind.sum z d) r.sum ∙ ap (kind.sum (walk_sum kind x j r.legs)) q.sum
              ∙ ap (λ p. kind.sum (walk_sum kind x j r.legs) (walk_sum kind x p q.legs)) (sym r.walk.ends)
              ∙ sym (sums_append j r.legs q.legs h r.walk.inside q.walk.inside (omega (arith, mul-le-mul_right s less)));
        }
