-- Zones one step back, at the level of matrices: what the operations of delays and firings give.
use Rattle.std.proofs.Common.{◌≡◌, ℕ, zero, suc, ◌+◌, ◌-◌, ◌*◌, ◌^◌, ◌<◌, ◌≤◌, Bool, true, false, cond, not, ◌&&◌, ◌||◌, eqb, ltb, leb, ◌⊎◌, List, [], ◌∷◌, ◌++◌, map, length, get_or, pos, neg_ℤ, nat_abs, sym, refl, ap, ◌∙◌, subst, subst₂, inl, inr, ⊎_elim, arith, length-append}
use borrow.Author.Differences.{ints}
use lib.Signed.{le_z}
use lib.ListN.{length-map}
use Rattle.std.proofs.lemmas.Bool.{cases_Bool, cases_lt, cases_eq, cond-true, cond-false, cond_both, eqb-true, eqb-false, eq-eqb, ne_eqb, lt-ltb, le-ltb, leb-true, and_parts, and_left, and_right, and_from, or_cases, or_parts, or_from, or_left, or_right, not-true, not_from_false, true≢false, false≢true}
use Rattle.bounds.specs.Kinds.{Kind, place}
use Rattle.bounds.specs.declared.range.Range.{Range}
use Rattle.nets.specs.Nets.{Arc, ArcLimits, Ended, Every, RangeLimits, Transition, TransitionLimits, numbered}
use Rattle.zone_walks.specs.Walks.{Matrix, lesser, counted, walk_sum, Negative, Reached, NormalForm, Sized, Still, Settled}
use Rattle.zone_walks.specs.NormalForms.{most_points, largest_entry}
use Rattle.zone_walks.proofs.Closed.{Closed, Below, Same, relaxed}
use Rattle.zone_walks.proofs.Lessers.{at_most_same, at_most_equal, lesser_left, lesser_size, lesser_is_left, lesser_is_right}
use Rattle.zone_walks.proofs.Sums.{zero_after, monotone_right, reached_leg, reached_append, reached_more}
use Rattle.zone_walks.proofs.NormalForms.{same_back, same_sized, same_from, same_settled, same_closed, normal_sized, normal_below, normal_closed, closed_normal, closed_itself}
use Rattle.zone_walks.proofs.Rounds.{Progress, Finished, progress_same, progress_none, progress_round, progress_normal}
use Rattle.zone_walks.proofs.Again.{counted_still, counted_sized, counted_clock, counted_same}
use Rattle.zones.specs.Zones.{Zone, points}
use Rattle.zones.specs.Predecessors.{released, among, stands, matches, narrowed, narrowed_by, others, staying, picked, places_at, with_token, with_tokens, Void, FiringPredecessor}
use Rattle.zone_cells.specs.Cells.{arc_at}
use Rattle.zone_cells.proofs.Operations.{others_few}

-- closed, no bound of the clock above zero, no bound larger than s
pub record Good {B : Type 0} (kind : Kind B) (n s : ℕ) (x : Matrix B) : Type 0 where
  pub closed : Closed kind n x
  pub clock : (i : ℕ) → i < n → kind.at_most (x 0 i) kind.zero ≡ true
  pub sized : Sized kind n s x

-- ---- a delay
-- the bound (0,i) is that of some token's
pub record FromToken {B : Type 0} (n : ℕ) (x : Matrix B) (i : ℕ) (b : B) : Type 0 where
  pub token : ℕ
  pub some : 1 ≤ token
  pub inside : token < n
  pub is : b ≡ x token i

-- in the clock's row the least of zero and the column; all else as in x
pub record DelayedTo {B : Type 0} (kind : Kind B) (n : ℕ) (x y : Matrix B) : Type 0 where
  pub kept : (j i : ℕ) → 1 ≤ j → j < n → i < n → y j i ≡ x j i
  pub origin : y 0 0 ≡ kind.zero
  pub below_zero : (i : ℕ) → 1 ≤ i → i < n → kind.at_most (y 0 i) kind.zero ≡ true
  pub below : (i j : ℕ) → 1 ≤ i → i < n → 1 ≤ j → j < n → kind.at_most (y 0 i) (x j i) ≡ true
  pub least : (i : ℕ) → 1 ≤ i → i < n → (y 0 i ≡ kind.zero) ⊎ FromToken n x i (y 0 i)

-- ---- adding tokens
-- the bounds from a point to the clock and from the clock to a point; from n on the points are the arcs' tokens
abbrev pub to_clock : {B : Type 0} → Kind B → ℕ → List (Arc B) → Matrix B → ℕ → B
to_clock kind n arcs x j = cond (ltb j n) (x j 0) (arc_at kind arcs (j - n)).range.upper

abbrev pub from_clock : {B : Type 0} → Kind B → ℕ → List (Arc B) → Matrix B → ℕ → B
from_clock kind n arcs x i = cond (ltb i n) (x 0 i) (arc_at kind arcs (i - n)).range.lower

-- the tokens of the first k arcs are added, each reached through the clock
pub record Added {B : Type 0} (kind : Kind B) (n : ℕ) (arcs : List (Arc B)) (k : ℕ) (x y : Matrix B) : Type 0 where
  pub old : (j i : ℕ) → j < n → i < n → y j i ≡ x j i
  pub still : (j : ℕ) → j < n + k → y j j ≡ kind.zero
  pub new : (j i : ℕ) → j < n + k → i < n + k → (j ≡ i → ⊥) → (n ≤ j) ⊎ (n ≤ i) → y j i ≡ kind.sum (to_clock kind n arcs x j) (from_clock kind n arcs x i)

-- one token is added as point m
pub record AddedOne {B : Type 0} (kind : Kind B) (m : ℕ) (range : Range B) (x y : Matrix B) : Type 0 where
  pub old : (a b : ℕ) → a < m → b < m → y a b ≡ x a b
  pub row : (b : ℕ) → b < m → y m b ≡ kind.sum range.upper (x 0 b)
  pub column : (a : ℕ) → a < m → y a m ≡ kind.sum (x a 0) range.lower
  pub still : y m m ≡ kind.zero

-- zs k has the tokens of the first k arcs, added one after the other
abbrev pub Grown : {B : Type 0} → Kind B → ℕ → List (Arc B) → (ℕ → Matrix B) → Type 0
Grown kind n arcs zs = (k : ℕ) → k < length arcs → AddedOne kind (n + k) (arc_at kind arcs k).range (zs k) (zs (suc k))

-- ---- the zone before a firing: some tokens are gone, and one is added for each of these arcs
abbrev pub replaced_back : {B : Type 0} → List ℕ → List (Arc B) → Zone B → Matrix B → Zone B
replaced_back gone ins z y = record { places = places_at (staying gone z) z ++ map (λ a. a.place) ins; bound = y }

abbrev pub fired_back : {B : Type 0} → Transition B → List ℕ → Zone B → Matrix B → Zone B
fired_back t matching z y = replaced_back matching t.inputs z y

stands_below : (places : List ℕ) (token at : ℕ) → stands places token at ≡ true → token < suc (length places)
stands_below places token at h = omega (arith, leb-true token (length places) (and_parts (leb 1 token) _ (and_parts (leb 1 token && leb token (length places)) _ h).0).1)

-- every element of a matching is 0 or a token
pub matches_below : {B : Type 0} (places : List ℕ) (arcs : List (Arc B)) (matching : List ℕ) → matches places arcs matching ≡ true → Every (λ d. d < suc (length places)) matching
matches_below places [] [] h = tt
matches_below places [] (d ∷ ds) h = absurd (false≢true h)
matches_below places (a ∷ arcs) [] h = tt
matches_below places (a ∷ arcs) (d ∷ ds) h =
    let both = and_parts (eqb d 0 || (stands places d a.place && not (among d ds))) (matches places arcs ds) h in
    (⊎_elim (λ e. omega (arith, eqb-true d 0 e)) (λ e. stands_below places d a.place (and_parts (stands places d a.place) (not (among d ds)) e).0) (or_cases (eqb d 0) (stands places d a.place && not (among d ds)) both.0), matches_below places arcs ds both.1)

others_inside : (gone : List ℕ) (first n j : ℕ) → 1 ≤ first → get_or (others gone first n) j 0 < first + n
others_inside gone first zero j h = omega arith
others_inside gone first (suc n) j h =
    cond_both (among first gone) (others gone (suc first) n) (first ∷ others gone (suc first) n) (λ l. get_or l j 0 < first + suc n)
    (λ _. omega (arith, others_inside gone (suc first) n j (omega arith)))
    (λ _. taken j (λ k. others_inside gone (suc first) n k (omega arith)))
  where
    taken : (j : ℕ) → ((k : ℕ) → get_or (others gone (suc first) n) k 0 < suc first + n) → get_or (first ∷ others gone (suc first) n) j 0 < first + suc n
    taken zero later = omega arith
    taken (suc k) later = omega (arith, later k)

-- the tokens that stay are tokens
pub staying_inside : {B : Type 0} (gone : List ℕ) (z : Zone B) (j : ℕ) → get_or (0 ∷ staying gone z) j 0 < points z
staying_inside gone z zero = omega arith
staying_inside gone z (suc j) = omega (arith, others_inside gone 1 (length z.places) j (omega arith))

pub staying_few : {B : Type 0} (gone : List ℕ) (z : Zone B) → length (staying gone z) ≤ length z.places
staying_few gone z = others_few gone 1 (length z.places)

abs_neg : (n : ℕ) → nat_abs (neg_ℤ (pos n)) ≡ n
abs_neg zero = refl
abs_neg (suc n) = refl

place_below : (n : ℕ) (strict : Bool) → le_z (place (neg_ℤ (pos n)) strict) (place (pos 0) false) ≡ true
place_below n true = sym (omega (arith, ints))
place_below n false = sym (omega (arith, ints))

-- no point is both the clock and a token
never_both : (j d : ℕ) → (eqb j (suc d) && eqb j 0) ≡ false
never_both zero d = and_left (eqb 0 (suc d)) (eqb 0 0) (ne_eqb 0 (suc d) (λ e. omega arith))
never_both (suc j) d = and_right (eqb (suc j) (suc d)) (eqb (suc j) 0) (ne_eqb (suc j) 0 (λ e. omega arith))

never_both_back : (j d : ℕ) → (eqb j 0 && eqb j (suc d)) ≡ false
never_both_back zero d = and_right (eqb 0 0) (eqb 0 (suc d)) (ne_eqb 0 (suc d) (λ e. omega arith))
never_both_back (suc j) d = and_left (eqb (suc j) 0) (eqb (suc j) (suc d)) (ne_eqb (suc j) 0 (λ e. omega arith))

not_clock : (v : ℕ) → 1 ≤ v → eqb v 0 ≡ false
not_clock v h = ne_eqb v 0 (λ e. omega arith)

every_at : {X : Type 0} (P : X → Type 0) (xs : List X) (i : ℕ) (d : X) → Every P xs → i < length xs → P (get_or xs i d)
every_at P [] i d h k = absurd (omega arith)
every_at P (x ∷ xs) zero d h k = h.0
every_at P (x ∷ xs) (suc i) d h k = every_at P xs i d h.1 (omega arith)

module _ {B : Type 0} (kind : Kind B) where
  -- ---- good matrices and normal forms
  pub good_more : (n s t : ℕ) (x : Matrix B) → s ≤ t → Good kind n s x → Good kind n t x
  good_more n s t x le g = record { closed = g.closed; clock = g.clock; sized = λ j i a b. omega (arith, g.sized j i a b) }

  pub good_as : (n s : ℕ) (x y : Matrix B) → 1 ≤ n → Same n x y → Good kind n s x → Good kind n s y
  good_as n s x y some e g = record { closed = same_closed kind n x y e g.closed; clock = λ i h. subst (λ b. kind.at_most b kind.zero ≡ true) (e 0 i some h) (g.clock i h); sized = same_sized kind n s x y e g.sized }

  pub good_same : (n s : ℕ) (x : Matrix B) → Good kind n s x → Same n (counted kind x) x
  good_same n s x g = counted_same kind n x g.closed.still g.clock

  pub good_normal : (n s : ℕ) (x : Matrix B) → n ≤ most_points → s ≤ 2 ^ 30 → Good kind n s x → NormalForm kind n (counted kind x) x
  good_normal n s x few small g = same_from kind n x (counted kind x) x (same_back kind n (counted kind x) x (good_same n s x g)) (closed_itself kind n s x few small g.sized g.closed)

  pub normal_good : (n s : ℕ) (x : Matrix B) → n ≤ most_points → 1 ≤ n → s ≤ 2 ^ 30 → Still kind n x → NormalForm kind n (counted kind x) x → Sized kind n s x → Good kind n s x
  normal_good n s x few some small still h sized = record { closed = normal_closed kind n s (counted kind x) x few small counts h none; clock = clock; sized = sized }
    where
      counts : Sized kind n s (counted kind x)
      counts = counted_sized kind n s x sized

      none : Negative kind n (counted kind x) → ⊥
      none m =
          let up : kind.at_most kind.zero (walk_sum kind (counted kind x) m.at m.legs) ≡ true = subst (λ b. kind.at_most b (walk_sum kind (counted kind x) m.at m.legs) ≡ true) (still m.at m.point) (h.least m.at m.at m.legs m.point m.point m.closed) in
          true≢false (sym up ∙ m.below)

      clock : (i : ℕ) → i < n → kind.at_most (x 0 i) kind.zero ≡ true
      clock i q = kind.transitive (x 0 i) (counted kind x 0 i) kind.zero (normal_below kind n s (counted kind x) x (omega arith) counts h 0 i some q) (counted_clock kind x i)

  -- ---- a delay
  module _ (n s : ℕ) (x y : Matrix B) (few : n ≤ most_points) (some : 1 ≤ n) (small : s ≤ 2 ^ 26) (g : Good kind n s x) (d : DelayedTo kind n x y) where
    delay_clock : (i : ℕ) → i < n → kind.at_most (y 0 i) kind.zero ≡ true
    delay_clock zero h = at_most_equal kind (y 0 0) kind.zero d.origin
    delay_clock (suc i) h = d.below_zero (suc i) (omega arith) h

    -- no token's bound to the clock is below zero
    tokens_above : (j : ℕ) → j < n → kind.at_most kind.zero (x j 0) ≡ true
    tokens_above j h =
        let back : kind.at_most (x j j) (kind.sum (x j 0) (x 0 j)) ≡ true = g.closed.settled 0 some j j h h in
        let up : kind.at_most (kind.sum (x j 0) (x 0 j)) (kind.sum (x j 0) kind.zero) ≡ true = monotone_right kind (x 0 j) kind.zero (x j 0) (omega (arith, g.sized 0 j some h, g.sized j 0 h some)) (omega (arith, kind.zero_size, g.sized j 0 h some)) (g.clock j h) in
        subst₂ (λ a b. kind.at_most a b ≡ true) (g.closed.still j h) (zero_after kind (x j 0) (omega (arith, g.sized j 0 h some))) (kind.transitive (x j j) _ _ back up)

    delay_below : (i j : ℕ) → i < n → 1 ≤ j → j < n → kind.at_most (y 0 i) (x j i) ≡ true
    delay_below zero j h k q = subst (λ b. kind.at_most b (x j 0) ≡ true) (sym d.origin) (tokens_above j q)
    delay_below (suc i) j h k q = d.below (suc i) j (omega arith) h k q

    delay_least : (i : ℕ) → i < n → (y 0 i ≡ kind.zero) ⊎ FromToken n x i (y 0 i)
    delay_least zero h = inl d.origin
    delay_least (suc i) h = d.least (suc i) (omega arith) h

    delay_above : (i : ℕ) → i < n → kind.at_most (x 0 i) (y 0 i) ≡ true
    delay_above i h =
        ⊎_elim
        (λ e. subst (λ b. kind.at_most (x 0 i) b ≡ true) (sym e) (g.clock i h))
        (λ f.
        let t = f.token in
        let way : kind.at_most (x 0 i) (kind.sum (x 0 t) (x t i)) ≡ true = g.closed.settled t f.inside 0 i some h in
        let up : kind.at_most (kind.sum (x 0 t) (x t i)) (kind.sum kind.zero (x t i)) ≡ true = kind.monotone (x 0 t) kind.zero (x t i) (omega (arith, g.sized 0 t some f.inside, g.sized t i f.inside h)) (omega (arith, kind.zero_size, g.sized t i f.inside h)) (g.clock t f.inside) in
        subst (λ b. kind.at_most (x 0 i) b ≡ true) (kind.neutral (x t i) (omega (arith, g.sized t i f.inside h)) ∙ sym f.is) (kind.transitive (x 0 i) _ _ way up))
        (delay_least i h)

    delay_sized : Sized kind n s y
    delay_sized zero i a b = ⊎_elim (λ e. omega (arith, ap kind.size e, kind.zero_size)) (λ f. omega (arith, ap kind.size f.is, g.sized f.token i f.inside b)) (delay_least i b)
    delay_sized (suc j) i a b = omega (arith, ap kind.size (d.kept (suc j) i (omega arith) a b), g.sized (suc j) i a b)

    delay_still : Still kind n y
    delay_still zero h = d.origin
    delay_still (suc j) h = d.kept (suc j) (suc j) (omega arith) h h ∙ g.closed.still (suc j) h

    delay_settled : (v j i : ℕ) → v < n → j < n → i < n → kind.at_most (y j i) (kind.sum (y j v) (y v i)) ≡ true
    delay_settled zero zero i c a b =
        at_most_equal kind (y 0 i) _ (sym (ap (λ z. kind.sum z (y 0 i)) d.origin ∙ kind.neutral (y 0 i) (omega (arith, delay_sized 0 i a b))))
    delay_settled (suc v) zero i c a b =
        rw (d.kept (suc v) i (omega arith) c b)
        (⊎_elim
        (λ e. subst (λ z. kind.at_most (y 0 i) z ≡ true) (sym (ap (λ z. kind.sum z (x (suc v) i)) e ∙ kind.neutral (x (suc v) i) (omega (arith, g.sized (suc v) i c b)))) (delay_below i (suc v) b (omega arith) c))
        (λ f. subst (λ z. kind.at_most (y 0 i) (kind.sum z (x (suc v) i)) ≡ true) (sym f.is) (kind.transitive (y 0 i) (x f.token i) _ (delay_below i f.token b f.some f.inside) (g.closed.settled (suc v) c f.token i f.inside b)))
        (delay_least (suc v) c))
    delay_settled zero (suc j) i c a b =
        rw (d.kept (suc j) i (omega arith) a b, d.kept (suc j) 0 (omega arith) a c)
        (kind.transitive (x (suc j) i) (kind.sum (x (suc j) 0) (x 0 i)) _ (g.closed.settled 0 c (suc j) i a b)
        (monotone_right kind (x 0 i) (y 0 i) (x (suc j) 0) (omega (arith, g.sized 0 i c b, g.sized (suc j) 0 a c)) (omega (arith, delay_sized 0 i c b, g.sized (suc j) 0 a c)) (delay_above i b)))
    delay_settled (suc v) (suc j) i c a b =
        rw (d.kept (suc j) i (omega arith) a b, d.kept (suc j) (suc v) (omega arith) a c, d.kept (suc v) i (omega arith) c b) (g.closed.settled (suc v) c (suc j) i a b)

    pub delay_good : Good kind n s y
    delay_good = record { closed = record { still = delay_still; settled = λ v c j i a b. delay_settled v j i c a b }; clock = delay_clock; sized = delay_sized }

    released_clock : (i : ℕ) → released kind x 0 i ≡ kind.zero
    released_clock i = cond-true (eqb 0 0) kind.zero (x 0 i) (eq-eqb 0 0 refl)

    released_token : (j i : ℕ) → released kind x (suc j) i ≡ x (suc j) i
    released_token j i = cond-false (eqb (suc j) 0) kind.zero (x (suc j) i) (ne_eqb (suc j) 0 (λ e. omega arith))

    released_still : Still kind n (released kind x)
    released_still zero h = released_clock 0
    released_still (suc j) h = released_token j (suc j) ∙ g.closed.still (suc j) h

    released_sized : Sized kind n s (released kind x)
    released_sized zero i a b = omega (arith, ap kind.size (released_clock i), kind.zero_size)
    released_sized (suc j) i a b = omega (arith, ap kind.size (released_token j i), g.sized (suc j) i a b)

    released_below : Below kind n y (released kind x)
    released_below zero i a b = subst (λ z. kind.at_most (y 0 i) z ≡ true) (sym (released_clock i)) (delay_clock i b)
    released_below (suc j) i a b = at_most_equal kind (y (suc j) i) _ (d.kept (suc j) i (omega arith) a b ∙ sym (released_token j i))

    by_leg : (j i : ℕ) → j < n → i < n → y j i ≡ released kind x j i → Reached kind n n (released kind x) j i (y j i)
    by_leg j i a b e = subst (Reached kind n n (released kind x) j i) (sym e) (reached_leg kind n s (released kind x) released_sized n j i a b some (omega arith))

    -- from the clock to the token that gives the bound, and on
    by_token : (i t : ℕ) → i < n → suc t < n → y 0 i ≡ x (suc t) i → Reached kind n n (released kind x) 0 i (y 0 i)
    by_token i t b c e =
        let leg1 = reached_leg kind n s (released kind x) released_sized 1 0 (suc t) some c (omega arith) (omega arith) in
        let leg2 = reached_leg kind n s (released kind x) released_sized 1 (suc t) i c b (omega arith) (omega arith) in
        let both = reached_append kind n s (released kind x) released_sized 1 1 0 (suc t) i _ _ some c (omega arith) leg1 leg2 in
        let total : kind.sum (released kind x 0 (suc t)) (released kind x (suc t) i) ≡ y 0 i = ap (λ z. kind.sum z (released kind x (suc t) i)) (released_clock (suc t)) ∙ kind.neutral (released kind x (suc t) i) (omega (arith, released_sized (suc t) i c b)) ∙ released_token t i ∙ sym e in
        reached_more kind n (1 + 1) n (released kind x) 0 i (y 0 i) (omega arith) (subst (Reached kind n (1 + 1) (released kind x) 0 i) total both)

    by_any : (i t : ℕ) → i < n → 1 ≤ t → t < n → y 0 i ≡ x t i → Reached kind n n (released kind x) 0 i (y 0 i)
    by_any i zero b h c e = absurd (omega arith)
    by_any i (suc t) b h c e = by_token i t b c e

    delay_reached : (j i : ℕ) → j < n → i < n → Reached kind n n (released kind x) j i (y j i)
    delay_reached zero i a b =
        ⊎_elim (λ e. by_leg 0 i a b (e ∙ sym (released_clock i))) (λ f. by_any i f.token b f.some f.inside f.is) (delay_least i b)
    delay_reached (suc j) i a b = by_leg (suc j) i a b (d.kept (suc j) i (omega arith) a b ∙ sym (released_token j i))

    pub delay_normal : NormalForm kind n (counted kind (released kind x)) y
    delay_normal =
        same_from kind n (released kind x) (counted kind (released kind x)) y
        (same_back kind n (counted kind (released kind x)) (released kind x) (counted_same kind n (released kind x) released_still (λ i h. at_most_equal kind (released kind x 0 i) kind.zero (released_clock i))))
        (closed_normal kind n s (released kind x) y few (omega arith) released_sized delay_sized delay_good.closed released_below delay_reached)

  -- ---- narrowing
  pub range_sizes : (range : Range B) → RangeLimits kind range → (kind.size range.lower ≤ 32767) × (kind.size range.upper ≤ 32767)
  range_sizes range h = (lower, ⊎_elim (λ e. omega (arith, ap kind.size e, kind.no_limit_size)) upper h.upper)
    where
      lower : kind.size range.lower ≤ 32767
      lower = let e = h.lower in omega (arith, ap kind.size e.is, kind.numbers_size (neg_ℤ (pos e.end)) e.strict (record { small = omega (arith, abs_neg e.end, e.small); takes = e.takes }), abs_neg e.end, e.small)

      upper : Ended kind pos range.upper → kind.size range.upper ≤ 32767
      upper e = omega (arith, ap kind.size e.is, kind.numbers_size (pos e.end) e.strict (record { small = omega (arith, e.small); takes = e.takes }), e.small)

  pub lower_below_zero : (range : Range B) → RangeLimits kind range → kind.at_most range.lower kind.zero ≡ true
  lower_below_zero range h =
      let e = h.lower in
      let c = neg_ℤ (pos e.end) in
      let order = kind.numbers_order c (pos 0) e.strict false (record { small = omega (arith, abs_neg e.end, e.small); takes = e.takes }) (record { small = omega arith; takes = λ f. absurd (false≢true f) }) in
      subst₂ (λ a b. kind.at_most a b ≡ true) (sym e.is) kind.number_zero (order ∙ place_below e.end e.strict)

  module _ (d : ℕ) (range : Range B) (x : Matrix B) where
    one_still : (j : ℕ) → narrowed kind (suc d) range x j j ≡ x j j
    one_still j =
        cond-false (eqb j (suc d) && eqb j 0) (lesser kind (x j j) range.upper) _ (never_both j d)
        ∙ cond-false (eqb j 0 && eqb j (suc d)) (lesser kind (x j j) range.lower) (x j j) (never_both_back j d)

    one_sized : (n s : ℕ) → RangeLimits kind range → 32767 ≤ s → Sized kind n s x → Sized kind n s (narrowed kind (suc d) range x)
    one_sized n s limits large h j i a b =
        let sizes = range_sizes range limits in
        cond_both (eqb j (suc d) && eqb i 0) _ _ (λ c. kind.size c ≤ s) (λ _. lesser_size kind (x j i) range.upper s (h j i a b) (omega (arith, sizes.1)))
        (λ _. cond_both (eqb j 0 && eqb i (suc d)) _ _ (λ c. kind.size c ≤ s) (λ _. lesser_size kind (x j i) range.lower s (h j i a b) (omega (arith, sizes.0))) (λ _. h j i a b))

    one_below : (j i : ℕ) → kind.at_most (narrowed kind (suc d) range x j i) (x j i) ≡ true
    one_below j i =
        cond_both (eqb j (suc d) && eqb i 0) _ _ (λ c. kind.at_most c (x j i) ≡ true) (λ _. lesser_left kind (x j i) range.upper)
        (λ _. cond_both (eqb j 0 && eqb i (suc d)) _ _ (λ c. kind.at_most c (x j i) ≡ true) (λ _. lesser_left kind (x j i) range.lower) (λ _. at_most_same kind (x j i)))

    one_row : (v u : ℕ) → 1 ≤ v → eqb v (suc d) ≡ false → narrowed kind (suc d) range x v u ≡ x v u
    one_row v u some apart =
        cond-false (eqb v (suc d) && eqb u 0) (lesser kind (x v u) range.upper) _ (and_left (eqb v (suc d)) (eqb u 0) apart)
        ∙ cond-false (eqb v 0 && eqb u (suc d)) (lesser kind (x v u) range.lower) (x v u) (and_left (eqb v 0) (eqb u (suc d)) (not_clock v some))

    one_column : (v u : ℕ) → 1 ≤ v → eqb v (suc d) ≡ false → narrowed kind (suc d) range x u v ≡ x u v
    one_column v u some apart =
        cond-false (eqb u (suc d) && eqb v 0) (lesser kind (x u v) range.upper) _ (and_right (eqb u (suc d)) (eqb v 0) (not_clock v some))
        ∙ cond-false (eqb u 0 && eqb v (suc d)) (lesser kind (x u v) range.lower) (x u v) (and_right (eqb u 0) (eqb v (suc d)) apart)

  pub narrow_still : (n : ℕ) (arcs : List (Arc B)) (matching : List ℕ) (x : Matrix B) → Still kind n x → Still kind n (narrowed_by kind arcs matching x)
  narrow_still n [] ds x h = h
  narrow_still n (a ∷ arcs) [] x h = h
  narrow_still n (a ∷ arcs) (zero ∷ ds) x h = narrow_still n arcs ds x h
  narrow_still n (a ∷ arcs) (suc d ∷ ds) x h = narrow_still n arcs ds (narrowed kind (suc d) a.range x) (λ j p. one_still d a.range x j ∙ h j p)

  pub narrow_sized : (n s places : ℕ) (arcs : List (Arc B)) (matching : List ℕ) (x : Matrix B) → Every (ArcLimits kind places) arcs → 32767 ≤ s → Sized kind n s x → Sized kind n s (narrowed_by kind arcs matching x)
  narrow_sized n s places [] ds x limits large h = h
  narrow_sized n s places (a ∷ arcs) [] x limits large h = h
  narrow_sized n s places (a ∷ arcs) (zero ∷ ds) x limits large h = narrow_sized n s places arcs ds x limits.1 large h
  narrow_sized n s places (a ∷ arcs) (suc d ∷ ds) x limits large h = narrow_sized n s places arcs ds (narrowed kind (suc d) a.range x) limits.1 large (one_sized d a.range x n s limits.0.range large h)

  pub narrow_below : (n : ℕ) (arcs : List (Arc B)) (matching : List ℕ) (x : Matrix B) → Below kind n (narrowed_by kind arcs matching x) x
  narrow_below n [] ds x = λ j i p q. at_most_same kind (x j i)
  narrow_below n (a ∷ arcs) [] x = λ j i p q. at_most_same kind (x j i)
  narrow_below n (a ∷ arcs) (zero ∷ ds) x = narrow_below n arcs ds x
  narrow_below n (a ∷ arcs) (suc d ∷ ds) x = λ j i p q. kind.transitive _ (narrowed kind (suc d) a.range x j i) (x j i) (narrow_below n arcs ds (narrowed kind (suc d) a.range x) j i p q) (one_below d a.range x j i)

  pub narrow_same : (n s : ℕ) (arcs : List (Arc B)) (matching : List ℕ) (x : Matrix B) → 1 ≤ n → Good kind n s x → Same n (counted kind (narrowed_by kind arcs matching x)) (narrowed_by kind arcs matching x)
  narrow_same n s arcs matching x some g =
      counted_same kind n (narrowed_by kind arcs matching x) (narrow_still n arcs matching x g.closed.still) (λ i q. kind.transitive _ (x 0 i) kind.zero (narrow_below n arcs matching x 0 i some q) (g.clock i q))

  -- the row and the column of a token that is not matched are unchanged
  pub narrow_row : (arcs : List (Arc B)) (matching : List ℕ) (x : Matrix B) (v u : ℕ) → 1 ≤ v → among v matching ≡ false → narrowed_by kind arcs matching x v u ≡ x v u
  narrow_row [] ds x v u some apart = refl
  narrow_row (a ∷ arcs) [] x v u some apart = refl
  narrow_row (a ∷ arcs) (zero ∷ ds) x v u some apart = narrow_row arcs ds x v u some (or_parts (eqb v 0) (among v ds) apart).1
  narrow_row (a ∷ arcs) (suc d ∷ ds) x v u some apart =
      let parts = or_parts (eqb v (suc d)) (among v ds) apart in
      narrow_row arcs ds (narrowed kind (suc d) a.range x) v u some parts.1 ∙ one_row d a.range x v u some parts.0

  pub narrow_column : (arcs : List (Arc B)) (matching : List ℕ) (x : Matrix B) (v u : ℕ) → 1 ≤ v → among v matching ≡ false → narrowed_by kind arcs matching x u v ≡ x u v
  narrow_column [] ds x v u some apart = refl
  narrow_column (a ∷ arcs) [] x v u some apart = refl
  narrow_column (a ∷ arcs) (zero ∷ ds) x v u some apart = narrow_column arcs ds x v u some (or_parts (eqb v 0) (among v ds) apart).1
  narrow_column (a ∷ arcs) (suc d ∷ ds) x v u some apart =
      let parts = or_parts (eqb v (suc d)) (among v ds) apart in
      narrow_column arcs ds (narrowed kind (suc d) a.range x) v u some parts.1 ∙ one_column d a.range x v u some parts.0

  pub narrow_settled : (n s : ℕ) (arcs : List (Arc B)) (matching : List ℕ) (x : Matrix B) (v : ℕ) → Good kind n s x → v < n → 1 ≤ v → among v matching ≡ false → Settled kind n (narrowed_by kind arcs matching x) v
  narrow_settled n s arcs matching x v g inside some apart j i a b =
      subst₂ (λ p q. kind.at_most (narrowed_by kind arcs matching x j i) (kind.sum p q) ≡ true) (sym (narrow_column arcs matching x v j some apart)) (sym (narrow_row arcs matching x v i some apart))
      (kind.transitive _ (x j i) _ (narrow_below n arcs matching x j i a b) (g.closed.settled v inside j i a b))

  -- the elimination may begin with all points done but the clock and the matched tokens
  pub narrow_progress : (n s places : ℕ) (arcs : List (Arc B)) (matching : List ℕ) (x : Matrix B) → 1 ≤ n → 32767 ≤ s → s ≤ 2 ^ 26 → Every (ArcLimits kind places) arcs → Good kind n s x → Progress kind n (counted kind (narrowed_by kind arcs matching x)) 0 (λ v. not (eqb v 0 || among v matching)) (narrowed_by kind arcs matching x)
  narrow_progress n s places arcs matching x some large small limits g =
      progress_same kind n (counted kind w) 0 done (counted kind w) w same (progress_none kind n (counted kind w) done (counted_still kind n w) entries settles)
    where
      w : Matrix B
      w = narrowed_by kind arcs matching x

      done : ℕ → Bool
      done v = not (eqb v 0 || among v matching)

      same : Same n (counted kind w) w
      same = narrow_same n s arcs matching x some g

      entries : Sized kind n largest_entry (counted kind w)
      entries j i a b = omega (arith, counted_sized kind n s w (narrow_sized n s places arcs matching x limits large g.sized) j i a b)

      settles : (v : ℕ) → v < n → done v ≡ true → Settled kind n (counted kind w) v
      settles v h t =
          let parts = or_parts (eqb v 0) (among v matching) (not-true (eqb v 0 || among v matching) t) in
          same_settled kind n w (counted kind w) v h (same_back kind n (counted kind w) w same) (narrow_settled n s arcs matching x v g h (omega (arith, eqb-false v 0 parts.0)) parts.1)

  -- the normal form of what is narrowed
  pub narrow_good : (n s places : ℕ) (arcs : List (Arc B)) (matching : List ℕ) (x y : Matrix B) → n ≤ most_points → 1 ≤ n → 32767 ≤ s → s ≤ 2 ^ 26 → Every (ArcLimits kind places) arcs → Good kind n s x → NormalForm kind n (counted kind (narrowed_by kind arcs matching x)) y → (Negative kind n (counted kind (narrowed_by kind arcs matching x)) → ⊥) → Good kind n (n * s) y
  narrow_good n s places arcs matching x y few some large small limits g h none =
      record {
        closed = normal_closed kind n s (counted kind w) y few (omega arith) counts h none;
        clock = λ i q. kind.transitive (y 0 i) (counted kind w 0 i) kind.zero (normal_below kind n s (counted kind w) y (omega arith) counts h 0 i some q) (counted_clock kind w i);
        sized = normal_sized kind n s (counted kind w) y counts h;
      }
    where
      w : Matrix B
      w = narrowed_by kind arcs matching x

      counts : Sized kind n s (counted kind w)
      counts = counted_sized kind n s w (narrow_sized n s places arcs matching x limits large g.sized)

  -- ---- taking tokens off
  pub picked_good : (n p s : ℕ) (kept : List ℕ) (x : Matrix B) → ((j : ℕ) → j < p → get_or kept j 0 < n) → get_or kept 0 0 ≡ 0 → Good kind n s x → Good kind p s (picked kept x)
  picked_good n p s kept x inside clock g =
      record {
        closed = record {
          still = λ j h. g.closed.still (get_or kept j 0) (inside j h);
          settled = λ v c j i a b. g.closed.settled (get_or kept v 0) (inside v c) (get_or kept j 0) (get_or kept i 0) (inside j a) (inside i b);
        };
        clock = λ i h. subst (λ o. kind.at_most (x o (get_or kept i 0)) kind.zero ≡ true) (sym clock) (g.clock (get_or kept i 0) (inside i h));
        sized = λ j i a b. g.sized (get_or kept j 0) (get_or kept i 0) (inside j a) (inside i b);
      }

  -- ---- adding tokens
  module _ (m : ℕ) (range : Range B) (x : Matrix B) where
    token_old : (j i : ℕ) → j < m → i < m → with_token kind m range x j i ≡ x j i
    token_old j i a b =
        let e : eqb j m ≡ false = ne_eqb j m (λ q. omega arith) in
        let f : eqb i m ≡ false = ne_eqb i m (λ q. omega arith) in
        cond-false (eqb j m && eqb i 0) range.upper _ (and_left (eqb j m) (eqb i 0) e)
        ∙ cond-false (eqb j 0 && eqb i m) range.lower _ (and_right (eqb j 0) (eqb i m) f)
        ∙ cond-false (eqb j m || eqb i m) kind.no_limit (x j i) (or_from (eqb j m) (eqb i m) e f)

    token_upper : with_token kind m range x m 0 ≡ range.upper
    token_upper = cond-true (eqb m m && eqb 0 0) range.upper _ (and_from (eqb m m) (eqb 0 0) (eq-eqb m m refl) (eq-eqb 0 0 refl))

    token_lower : 1 ≤ m → with_token kind m range x 0 m ≡ range.lower
    token_lower some =
        cond-false (eqb 0 m && eqb m 0) range.upper _ (and_right (eqb 0 m) (eqb m 0) (not_clock m some))
        ∙ cond-true (eqb 0 0 && eqb m m) range.lower _ (and_from (eqb 0 0) (eqb m m) (eq-eqb 0 0 refl) (eq-eqb m m refl))

    token_free : (j i : ℕ) → 1 ≤ j → 1 ≤ i → (eqb j m || eqb i m) ≡ true → with_token kind m range x j i ≡ kind.no_limit
    token_free j i a b new =
        cond-false (eqb j m && eqb i 0) range.upper _ (and_right (eqb j m) (eqb i 0) (not_clock i b))
        ∙ cond-false (eqb j 0 && eqb i m) range.lower _ (and_left (eqb j 0) (eqb i m) (not_clock j a))
        ∙ cond-true (eqb j m || eqb i m) kind.no_limit (x j i) new

  -- what with_tokens leaves at each pair of points
  pub tokens_old : (n : ℕ) (arcs : List (Arc B)) (x : Matrix B) (j i : ℕ) → j < n → i < n → with_tokens kind n arcs x j i ≡ x j i
  tokens_old n [] x j i a b = refl
  tokens_old n (arc ∷ arcs) x j i a b = tokens_old (suc n) arcs (with_token kind n arc.range x) j i (omega arith) (omega arith) ∙ token_old n arc.range x j i a b

  pub tokens_upper : (n : ℕ) (arcs : List (Arc B)) (x : Matrix B) (j : ℕ) → 1 ≤ n → n ≤ j → j < n + length arcs → with_tokens kind n arcs x j 0 ≡ (arc_at kind arcs (j - n)).range.upper
  tokens_upper n [] x j some a b = absurd (omega arith)
  tokens_upper n (arc ∷ arcs) x j some a b =
      let later = λ (c : suc n ≤ j). tokens_upper (suc n) arcs (with_token kind n arc.range x) j (omega arith) c (omega arith) in
      ⊎_elim
      (λ e.
      let zeroth : 0 ≡ j - n = omega arith in
      subst₂ (λ v k. with_tokens kind (suc n) arcs (with_token kind n arc.range x) v 0 ≡ (arc_at kind (arc ∷ arcs) k).range.upper) (sym e) zeroth (tokens_old (suc n) arcs (with_token kind n arc.range x) n 0 (omega arith) (omega arith) ∙ token_upper n arc.range x))
      (λ ne.
      let next : suc (j - suc n) ≡ j - n = omega arith in
      subst (λ k. with_tokens kind (suc n) arcs (with_token kind n arc.range x) j 0 ≡ (arc_at kind (arc ∷ arcs) k).range.upper) next (later (omega arith)))
      (cases_eq j n)

  pub tokens_lower : (n : ℕ) (arcs : List (Arc B)) (x : Matrix B) (i : ℕ) → 1 ≤ n → n ≤ i → i < n + length arcs → with_tokens kind n arcs x 0 i ≡ (arc_at kind arcs (i - n)).range.lower
  tokens_lower n [] x i some a b = absurd (omega arith)
  tokens_lower n (arc ∷ arcs) x i some a b =
      let later = λ (c : suc n ≤ i). tokens_lower (suc n) arcs (with_token kind n arc.range x) i (omega arith) c (omega arith) in
      ⊎_elim
      (λ e.
      let zeroth : 0 ≡ i - n = omega arith in
      subst₂ (λ v k. with_tokens kind (suc n) arcs (with_token kind n arc.range x) 0 v ≡ (arc_at kind (arc ∷ arcs) k).range.lower) (sym e) zeroth (tokens_old (suc n) arcs (with_token kind n arc.range x) 0 n (omega arith) (omega arith) ∙ token_lower n arc.range x some))
      (λ ne.
      let next : suc (i - suc n) ≡ i - n = omega arith in
      subst (λ k. with_tokens kind (suc n) arcs (with_token kind n arc.range x) 0 i ≡ (arc_at kind (arc ∷ arcs) k).range.lower) next (later (omega arith)))
      (cases_eq i n)

  pub tokens_free : (n : ℕ) (arcs : List (Arc B)) (x : Matrix B) (j i : ℕ) → 1 ≤ j → 1 ≤ i → j < n + length arcs → i < n + length arcs → (n ≤ j) ⊎ (n ≤ i) → with_tokens kind n arcs x j i ≡ kind.no_limit
  tokens_free n [] x j i p q a b new = ⊎_elim (λ e. absurd (omega arith)) (λ e. absurd (omega arith)) new
  tokens_free n (arc ∷ arcs) x j i p q a b new =
      let later = λ (c : (suc n ≤ j) ⊎ (suc n ≤ i)). tokens_free (suc n) arcs (with_token kind n arc.range x) j i p q (omega arith) (omega arith) c in
      let now = λ (c : j < suc n) (e : i < suc n) (t : (eqb j n || eqb i n) ≡ true). tokens_old (suc n) arcs (with_token kind n arc.range x) j i c e ∙ token_free n arc.range x j i p q t in
      ⊎_elim
      (λ c.
      ⊎_elim
      (λ e. now c e (⊎_elim (λ t. or_left (eqb j n) (eqb i n) (eq-eqb j n (omega arith))) (λ t. or_right (eqb j n) (eqb i n) (eq-eqb i n (omega arith))) new))
      (λ e. later (inr e))
      (cases_lt i (suc n)))
      (λ c. later (inl c))
      (cases_lt j (suc n))

  module _ (n s places : ℕ) (arcs : List (Arc B)) (x : Matrix B) (some : 1 ≤ n) (large : 32767 ≤ s) (small : s ≤ 2 ^ 26) (limits : Every (ArcLimits kind places) arcs) (g : Good kind n s x) where
    arc_limits : (a : ℕ) → a < length arcs → RangeLimits kind (arc_at kind arcs a).range
    arc_limits a h = (every_at (ArcLimits kind places) arcs a _ limits h).range

    to_old : (j : ℕ) → j < n → to_clock kind n arcs x j ≡ x j 0
    to_old j h = cond-true (ltb j n) (x j 0) _ (lt-ltb j n h)

    to_new : (j : ℕ) → n ≤ j → to_clock kind n arcs x j ≡ (arc_at kind arcs (j - n)).range.upper
    to_new j h = cond-false (ltb j n) (x j 0) _ (le-ltb j n h)

    from_old : (i : ℕ) → i < n → from_clock kind n arcs x i ≡ x 0 i
    from_old i h = cond-true (ltb i n) (x 0 i) _ (lt-ltb i n h)

    from_new : (i : ℕ) → n ≤ i → from_clock kind n arcs x i ≡ (arc_at kind arcs (i - n)).range.lower
    from_new i h = cond-false (ltb i n) (x 0 i) _ (le-ltb i n h)

    to_size : (j : ℕ) → j < n + length arcs → kind.size (to_clock kind n arcs x j) ≤ s
    to_size j h =
        ⊎_elim
        (λ a. omega (arith, ap kind.size (to_old j a), g.sized j 0 a some))
        (λ a. omega (arith, ap kind.size (to_new j a), (range_sizes _ (arc_limits (j - n) (omega arith))).1))
        (cases_lt j n)

    from_size : (i : ℕ) → i < n + length arcs → kind.size (from_clock kind n arcs x i) ≤ s
    from_size i h =
        ⊎_elim
        (λ a. omega (arith, ap kind.size (from_old i a), g.sized 0 i some a))
        (λ a. omega (arith, ap kind.size (from_new i a), (range_sizes _ (arc_limits (i - n) (omega arith))).0))
        (cases_lt i n)

    from_below : (i : ℕ) → i < n + length arcs → kind.at_most (from_clock kind n arcs x i) kind.zero ≡ true
    from_below i h =
        ⊎_elim
        (λ a. subst (λ b. kind.at_most b kind.zero ≡ true) (sym (from_old i a)) (g.clock i a))
        (λ a. subst (λ b. kind.at_most b kind.zero ≡ true) (sym (from_new i a)) (lower_below_zero _ (arc_limits (i - n) (omega arith))))
        (cases_lt i n)

    to_start : to_clock kind n arcs x 0 ≡ kind.zero
    to_start = to_old 0 some ∙ g.closed.still 0 some

    from_start : from_clock kind n arcs x 0 ≡ kind.zero
    from_start = from_old 0 some ∙ g.closed.still 0 some

    after_start : (j : ℕ) → j < n + length arcs → kind.sum (to_clock kind n arcs x j) (from_clock kind n arcs x 0) ≡ to_clock kind n arcs x j
    after_start j h = ap (kind.sum (to_clock kind n arcs x j)) from_start ∙ zero_after kind (to_clock kind n arcs x j) (omega (arith, to_size j h))

    before_start : (i : ℕ) → i < n + length arcs → kind.sum (to_clock kind n arcs x 0) (from_clock kind n arcs x i) ≡ from_clock kind n arcs x i
    before_start i h = ap (λ b. kind.sum b (from_clock kind n arcs x i)) to_start ∙ kind.neutral (from_clock kind n arcs x i) (omega (arith, from_size i h))

    -- to the clock and back is not below zero
    there_and_back : (j : ℕ) → j < n + length arcs → kind.at_most kind.zero (kind.sum (to_clock kind n arcs x j) (from_clock kind n arcs x j)) ≡ true
    there_and_back j h =
        ⊎_elim
        (λ a. subst₂ (λ b c. kind.at_most kind.zero (kind.sum b c) ≡ true) (sym (to_old j a)) (sym (from_old j a)) (subst (λ b. kind.at_most b (kind.sum (x j 0) (x 0 j)) ≡ true) (g.closed.still j a) (g.closed.settled 0 some j j a a)))
        (λ a. subst₂ (λ b c. kind.at_most kind.zero (kind.sum b c) ≡ true) (sym (to_new j a)) (sym (from_new j a)) (arc_limits (j - n) (omega arith)).sum)
        (cases_lt j n)

    -- ---- token after token
    module _ (zs : ℕ → Matrix B) (k : ℕ) (inside : k < length arcs) (h : Added kind n arcs k x (zs k)) (step : AddedOne kind (n + k) (arc_at kind arcs k).range (zs k) (zs (suc k))) where
      so_far_to : (j : ℕ) → j < n + k → zs k j 0 ≡ to_clock kind n arcs x j
      so_far_to j a =
          ⊎_elim
          (λ c. h.old j 0 c some ∙ sym (to_old j c))
          (λ c. h.new j 0 a (omega arith) (λ e. omega arith) (inl c) ∙ after_start j (omega arith))
          (cases_lt j n)

      so_far_from : (i : ℕ) → i < n + k → zs k 0 i ≡ from_clock kind n arcs x i
      so_far_from i a =
          ⊎_elim
          (λ c. h.old 0 i some c ∙ sym (from_old i c))
          (λ c. h.new 0 i (omega arith) a (λ e. omega arith) (inr c) ∙ before_start i (omega arith))
          (cases_lt i n)

      last_to : to_clock kind n arcs x (n + k) ≡ (arc_at kind arcs k).range.upper
      last_to = let e : n + k - n ≡ k = omega arith in to_new (n + k) (omega arith) ∙ ap (λ a. (arc_at kind arcs a).range.upper) e

      last_from : from_clock kind n arcs x (n + k) ≡ (arc_at kind arcs k).range.lower
      last_from = let e : n + k - n ≡ k = omega arith in from_new (n + k) (omega arith) ∙ ap (λ a. (arc_at kind arcs a).range.lower) e

      last_row : (i : ℕ) → i < n + k → zs (suc k) (n + k) i ≡ kind.sum (to_clock kind n arcs x (n + k)) (from_clock kind n arcs x i)
      last_row i a = step.row i a ∙ ap (kind.sum (arc_at kind arcs k).range.upper) (so_far_from i a) ∙ ap (λ b. kind.sum b (from_clock kind n arcs x i)) (sym last_to)

      last_column : (j : ℕ) → j < n + k → zs (suc k) j (n + k) ≡ kind.sum (to_clock kind n arcs x j) (from_clock kind n arcs x (n + k))
      last_column j a = step.column j a ∙ ap (λ b. kind.sum b (arc_at kind arcs k).range.lower) (so_far_to j a) ∙ ap (kind.sum (to_clock kind n arcs x j)) (sym last_from)

      added_more : Added kind n arcs (suc k) x (zs (suc k))
      added_more = record { old = λ j i a b. step.old j i (omega arith) (omega arith) ∙ h.old j i a b; still = still; new = new }
        where
          still : (j : ℕ) → j < n + suc k → zs (suc k) j j ≡ kind.zero
          still j a =
              ⊎_elim
              (λ c. step.old j j c c ∙ h.still j c)
              (λ c. let e : n + k ≡ j = omega arith in subst (λ v. zs (suc k) v v ≡ kind.zero) e step.still)
              (cases_lt j (n + k))

          new : (j i : ℕ) → j < n + suc k → i < n + suc k → (j ≡ i → ⊥) → (n ≤ j) ⊎ (n ≤ i) → zs (suc k) j i ≡ kind.sum (to_clock kind n arcs x j) (from_clock kind n arcs x i)
          new j i a b apart either =
              ⊎_elim
              (λ c.
              ⊎_elim
              (λ d. step.old j i c d ∙ h.new j i c d apart either)
              (λ d. let e : n + k ≡ i = omega arith in subst (λ v. zs (suc k) j v ≡ kind.sum (to_clock kind n arcs x j) (from_clock kind n arcs x v)) e (last_column j c))
              (cases_lt i (n + k)))
              (λ c. let e : n + k ≡ j = omega arith in subst (λ v. zs (suc k) v i ≡ kind.sum (to_clock kind n arcs x v) (from_clock kind n arcs x i)) e (last_row i (below c)))
              (cases_lt j (n + k))
            where
              below : n + k ≤ j → i < n + k
              below c = omega (arith, apart)

    grown_first : (zs : ℕ → Matrix B) → Same n (zs 0) x → Grown kind n arcs zs → (k : ℕ) → k ≤ length arcs → Added kind n arcs k x (zs k)
    grown_first zs first steps zero le =
        record {
          old = first;
          still = λ j a. let h : j < n = omega arith in first j j h h ∙ g.closed.still j h;
          new = λ j i a b apart either. absurd (⊎_elim (λ c. omega arith) (λ c. omega arith) either);
        }
    grown_first zs first steps (suc k) le = added_more zs k le (grown_first zs first steps k (omega arith)) (steps k le)

    pub grown_added : (zs : ℕ → Matrix B) → Same n (zs 0) x → Grown kind n arcs zs → Added kind n arcs (length arcs) x (zs (length arcs))
    grown_added zs first steps = grown_first zs first steps (length arcs) (omega arith)

    -- ---- what is counted, before the clock's round
    abbrev whole : Matrix B
    whole = counted kind (with_tokens kind n arcs x)

    whole_still : (j : ℕ) → whole j j ≡ kind.zero
    whole_still j = cond-true (eqb j j) kind.zero _ (eq-eqb j j refl)

    whole_other : (j i : ℕ) → 1 ≤ j → (j ≡ i → ⊥) → whole j i ≡ with_tokens kind n arcs x j i
    whole_other j i some apart =
        cond-false (eqb j i) kind.zero _ (ne_eqb j i apart) ∙ cond-false (eqb j 0) (lesser kind (with_tokens kind n arcs x j i) kind.zero) (with_tokens kind n arcs x j i) (not_clock j some)

    tokens_to : (j : ℕ) → j < n + length arcs → with_tokens kind n arcs x j 0 ≡ to_clock kind n arcs x j
    tokens_to j h =
        ⊎_elim (λ c. tokens_old n arcs x j 0 c some ∙ sym (to_old j c)) (λ c. tokens_upper n arcs x j some c h ∙ sym (to_new j c)) (cases_lt j n)

    tokens_from : (i : ℕ) → i < n + length arcs → with_tokens kind n arcs x 0 i ≡ from_clock kind n arcs x i
    tokens_from i h =
        ⊎_elim (λ c. tokens_old n arcs x 0 i some c ∙ sym (from_old i c)) (λ c. tokens_lower n arcs x i some c h ∙ sym (from_new i c)) (cases_lt i n)

    whole_to : (j : ℕ) → j < n + length arcs → whole j 0 ≡ to_clock kind n arcs x j
    whole_to zero h = whole_still 0 ∙ sym to_start
    whole_to (suc j) h = whole_other (suc j) 0 (omega arith) (λ e. omega arith) ∙ tokens_to (suc j) h

    whole_from : (i : ℕ) → i < n + length arcs → whole 0 i ≡ from_clock kind n arcs x i
    whole_from zero h = whole_still 0 ∙ sym from_start
    whole_from (suc i) h =
        cond-false (eqb 0 (suc i)) kind.zero _ (ne_eqb 0 (suc i) (λ e. omega arith))
        ∙ cond-true (eqb 0 0) (lesser kind (with_tokens kind n arcs x 0 (suc i)) kind.zero) (with_tokens kind n arcs x 0 (suc i)) (eq-eqb 0 0 refl)
        ∙ ap (λ b. lesser kind b kind.zero) (tokens_from (suc i) h)
        ∙ lesser_is_left kind (from_clock kind n arcs x (suc i)) kind.zero (from_below (suc i) h)

    whole_old : (j i : ℕ) → j < n → i < n → whole j i ≡ x j i
    whole_old zero i a b = whole_from i (omega arith) ∙ from_old i b
    whole_old (suc j) i a b =
        ⊎_elim
        (λ e. subst (λ v. whole (suc j) v ≡ x (suc j) v) e (whole_still (suc j) ∙ sym (g.closed.still (suc j) a)))
        (λ ne. whole_other (suc j) i (omega arith) ne ∙ tokens_old n arcs x (suc j) i a b)
        (cases_eq (suc j) i)

    whole_free : (j i : ℕ) → 1 ≤ j → 1 ≤ i → j < n + length arcs → i < n + length arcs → (j ≡ i → ⊥) → (n ≤ j) ⊎ (n ≤ i) → whole j i ≡ kind.no_limit
    whole_free j i p q a b apart new = whole_other j i p apart ∙ tokens_free n arcs x j i p q a b new

    whole_sized : Sized kind (n + length arcs) s whole
    whole_sized zero i a b = omega (arith, ap kind.size (whole_from i b), from_size i b)
    whole_sized (suc j) zero a b = omega (arith, ap kind.size (whole_to (suc j) a), to_size (suc j) a)
    whole_sized (suc j) (suc i) a b =
        let free = λ (apart : suc j ≡ suc i → ⊥) (new : (n ≤ suc j) ⊎ (n ≤ suc i)). size_free (whole_free (suc j) (suc i) (omega arith) (omega arith) a b apart new) in
        ⊎_elim
        (λ e. subst (λ v. kind.size (whole (suc j) v) ≤ s) e (omega (arith, ap kind.size (whole_still (suc j)), kind.zero_size)))
        (λ ne.
        ⊎_elim
        (λ c. ⊎_elim (λ d. omega (arith, ap kind.size (whole_old (suc j) (suc i) c d), g.sized (suc j) (suc i) c d)) (λ d. free ne (inr d)) (cases_lt (suc i) n))
        (λ c. free ne (inl c))
        (cases_lt (suc j) n))
        (cases_eq (suc j) (suc i))
      where
        size_free : whole (suc j) (suc i) ≡ kind.no_limit → kind.size (whole (suc j) (suc i)) ≤ s
        size_free e = omega (arith, ap kind.size e, kind.no_limit_size)

    module _ (v : ℕ) (token : 1 ≤ v) (inside : v < n + length arcs) (j i : ℕ) (a : j < n + length arcs) (b : i < n + length arcs) where
      abbrev Through : Type 0
      Through = kind.at_most (whole j i) (kind.sum (whole j v) (whole v i)) ≡ true

      first_free : whole j v ≡ kind.no_limit → Through
      first_free e = subst (λ c. kind.at_most (whole j i) c ≡ true) (sym (ap (λ c. kind.sum c (whole v i)) e ∙ kind.absorbs (whole v i))) (kind.top (whole j i))

      second_free : whole v i ≡ kind.no_limit → Through
      second_free e = subst (λ c. kind.at_most (whole j i) c ≡ true) (sym (ap (kind.sum (whole j v)) e ∙ kind.commutative (whole j v) kind.no_limit (omega (arith, whole_sized j v a inside, kind.no_limit_size)) ∙ kind.absorbs (whole j v))) (kind.top (whole j i))

      at_first : j ≡ v → Through
      at_first e =
          let stay : kind.sum (whole v v) (whole v i) ≡ whole v i = ap (λ c. kind.sum c (whole v i)) (whole_still v) ∙ kind.neutral (whole v i) (omega (arith, whole_sized v i inside b)) in
          subst (λ u. kind.at_most (whole u i) (kind.sum (whole u v) (whole v i)) ≡ true) (sym e) (at_most_equal kind (whole v i) _ (sym stay))

      at_second : i ≡ v → Through
      at_second e =
          let stay : kind.sum (whole j v) (whole v v) ≡ whole j v = ap (kind.sum (whole j v)) (whole_still v) ∙ zero_after kind (whole j v) (omega (arith, whole_sized j v a inside)) in
          subst (λ u. kind.at_most (whole j u) (kind.sum (whole j v) (whole v u)) ≡ true) (sym e) (at_most_equal kind (whole j v) _ (sym stay))

      -- an old token
      by_old : v < n → (j ≡ v → ⊥) → (i ≡ v → ⊥) → Through
      by_old old p q =
          ⊎_elim
          (λ c.
          ⊎_elim
          (λ d. rw (whole_old j i c d, whole_old j v c old, whole_old v i old d) (g.closed.settled v old j i c d))
          (λ d. second_free (whole_free v i token (omega arith) inside b (λ e. q (sym e)) (inr d)))
          (cases_lt i n))
          (λ c. first_free (whole_free j v (omega arith) token a inside p (inl c)))
          (cases_lt j n)

      -- a new token
      by_new : n ≤ v → (j ≡ v → ⊥) → (i ≡ v → ⊥) → Through
      by_new new p q =
          ⊎_elim
          (λ c.
          ⊎_elim
          (λ d. both_clock c d)
          (λ d. second_free (whole_free v i token d inside b (λ e. q (sym e)) (inl new)))
          (cases_lt i 1))
          (λ c. first_free (whole_free j v c token a inside p (inr new)))
          (cases_lt j 1)
        where
          both_clock : j < 1 → i < 1 → Through
          both_clock c d =
              let j0 : 0 ≡ j = omega arith in
              let i0 : 0 ≡ i = omega arith in
              let back : kind.sum (whole 0 v) (whole v 0) ≡ kind.sum (to_clock kind n arcs x v) (from_clock kind n arcs x v) = kind.commutative (whole 0 v) (whole v 0) (omega (arith, whole_sized 0 v (omega arith) inside, whole_sized v 0 inside (omega arith))) ∙ ap (λ w. kind.sum w (whole 0 v)) (whole_to v inside) ∙ ap (kind.sum (to_clock kind n arcs x v)) (whole_from v inside) in
              subst₂ (λ u w. kind.at_most (whole u w) (kind.sum (whole u v) (whole v w)) ≡ true) j0 i0
              (subst₂ (λ c d. kind.at_most c d ≡ true) (sym (whole_still 0)) (sym back) (there_and_back v inside))

      through : Through
      through = ⊎_elim at_first (λ p. ⊎_elim at_second (λ q. ⊎_elim (λ c. by_old c p q) (λ c. by_new c p q) (cases_lt v n)) (cases_eq i v)) (cases_eq j v)

    module _ (few : n + length arcs ≤ most_points) (y : Matrix B) (added : Added kind n arcs (length arcs) x y) where
      ways : (j i : ℕ) → j < n + length arcs → i < n + length arcs → kind.sum (whole j 0) (whole 0 i) ≡ kind.sum (to_clock kind n arcs x j) (from_clock kind n arcs x i)
      ways j i a b = ap (λ c. kind.sum c (whole 0 i)) (whole_to j a) ∙ ap (kind.sum (to_clock kind n arcs x j)) (whole_from i b)

      -- where a new token takes part, the way through the clock is no longer than the leg
      by_clock : (j i : ℕ) → j < n + length arcs → i < n + length arcs → (j ≡ i → ⊥) → (n ≤ j) ⊎ (n ≤ i) → kind.at_most (kind.sum (to_clock kind n arcs x j) (from_clock kind n arcs x i)) (whole j i) ≡ true
      by_clock zero i a b apart new = at_most_equal kind _ (whole 0 i) (before_start i b ∙ sym (whole_from i b))
      by_clock (suc j) zero a b apart new = at_most_equal kind _ (whole (suc j) 0) (after_start (suc j) a ∙ sym (whole_to (suc j) a))
      by_clock (suc j) (suc i) a b apart new = subst (λ c. kind.at_most (kind.sum (to_clock kind n arcs x (suc j)) (from_clock kind n arcs x (suc i))) c ≡ true) (sym (whole_free (suc j) (suc i) (omega arith) (omega arith) a b apart new)) (kind.top _)

      round_loop : (j : ℕ) → j < n + length arcs → y j j ≡ relaxed kind 0 whole j j
      round_loop j a =
          added.still j a
          ∙ sym (lesser_is_left kind (whole j j) (kind.sum (whole j 0) (whole 0 j)) (subst₂ (λ c d. kind.at_most c d ≡ true) (sym (whole_still j)) (sym (ways j j a a)) (there_and_back j a)) ∙ whole_still j)

      round_old : (j i : ℕ) → j < n → i < n → y j i ≡ relaxed kind 0 whole j i
      round_old j i a b =
          let le : kind.at_most (whole j i) (kind.sum (whole j 0) (whole 0 i)) ≡ true = rw (whole_old j i a b, whole_old j 0 a some, whole_old 0 i some b) (g.closed.settled 0 some j i a b) in
          added.old j i a b ∙ sym (lesser_is_left kind (whole j i) (kind.sum (whole j 0) (whole 0 i)) le ∙ whole_old j i a b)

      round_new : (j i : ℕ) → j < n + length arcs → i < n + length arcs → (j ≡ i → ⊥) → (n ≤ j) ⊎ (n ≤ i) → y j i ≡ relaxed kind 0 whole j i
      round_new j i a b apart new =
          let le : kind.at_most (kind.sum (whole j 0) (whole 0 i)) (whole j i) ≡ true = subst (λ c. kind.at_most c (whole j i) ≡ true) (sym (ways j i a b)) (by_clock j i a b apart new) in
          added.new j i a b apart new ∙ sym (lesser_is_right kind (whole j i) (kind.sum (whole j 0) (whole 0 i)) le ∙ ways j i a b)

      round_same : Same (n + length arcs) y (relaxed kind 0 whole)
      round_same j i a b =
          ⊎_elim
          (λ e. subst (λ v. y j v ≡ relaxed kind 0 whole j v) e (round_loop j a))
          (λ ne.
          ⊎_elim
          (λ c. ⊎_elim (λ d. round_old j i c d) (λ d. round_new j i a b ne (inr d)) (cases_lt i n))
          (λ c. round_new j i a b ne (inl c))
          (cases_lt j n))
          (cases_eq j i)

      abbrev tokens : ℕ → Bool
      tokens v = not (eqb v 0)

      entries : Sized kind (n + length arcs) largest_entry whole
      entries j i a b = omega (arith, whole_sized j i a b)

      before : Progress kind (n + length arcs) whole 0 tokens whole
      before =
          progress_none kind (n + length arcs) whole tokens (λ j h. whole_still j) entries
          (λ v h t j i a b. through v (token_from v t) h j i a b)
        where
          token_from : (v : ℕ) → not (eqb v 0) ≡ true → 1 ≤ v
          token_from v t = omega (arith, eqb-false v 0 (not-true (eqb v 0) t))

      after : Progress kind (n + length arcs) whole 1 (λ v. eqb v 0 || tokens v) y
      after = progress_round kind (n + length arcs) whole 0 0 tokens whole y (omega arith) entries before (omega arith) (at_most_equal kind kind.zero (whole 0 0) (sym (whole_still 0))) round_same

      finished : Finished kind (n + length arcs) whole y
      finished =
          progress_normal kind (n + length arcs) whole 1 (λ v. eqb v 0 || tokens v) y few (omega arith) entries after
          (λ v h. ⊎_elim (λ e. or_left (eqb v 0) (tokens v) e) (λ e. or_right (eqb v 0) (tokens v) (not_from_false (eqb v 0) e)) (cases_Bool (eqb v 0)))

      pub added_normal : NormalForm kind (n + length arcs) (counted kind (with_tokens kind n arcs x)) y
      added_normal = finished.normal

      pub added_good : Good kind (n + length arcs) (s + s) y
      added_good =
          record {
            closed = finished.closed;
            clock = λ i h. kind.transitive (y 0 i) (from_clock kind n arcs x i) kind.zero (subst (λ c. kind.at_most (y 0 i) c ≡ true) (whole_from i h) (after.below 0 i (omega arith) h)) (from_below i h);
            sized = λ j i a b. subst (λ c. kind.size c ≤ s + s) (sym (round_same j i a b)) (lesser_size kind (whole j i) (kind.sum (whole j 0) (whole 0 i)) (s + s) (omega (arith, whole_sized j i a b)) (omega (arith, kind.sum_size (whole j 0) (whole 0 i), whole_sized j 0 a (omega arith), whole_sized 0 i (omega arith) b)));
          }

  -- ---- a firing, by lists: some arcs narrow the tokens that digits name, some tokens go, and each of
  -- other arcs adds one
  module _ (z : Zone B) (places : ℕ) (few : length z.places ≤ 8) (g : Good kind (points z) (2 ^ 22) z.bound) (outs : List (Arc B)) (digits : List ℕ) (out_limits : Every (ArcLimits kind places) outs) (narrow : Matrix B) (narrows : NormalForm kind (points z) (counted kind (narrowed_by kind outs digits z.bound)) narrow) (possible : Negative kind (points z) (counted kind (narrowed_by kind outs digits z.bound)) → ⊥) where
    pub narrowing_good : Good kind (points z) (2 ^ 26) narrow
    narrowing_good =
        good_more (points z) (points z * 2 ^ 22) (2 ^ 26) narrow (omega arith)
        (narrow_good (points z) (2 ^ 22) places outs digits z.bound narrow (omega arith) (omega arith) (omega arith) (omega arith) out_limits g narrows possible)

    module _ (gone : List ℕ) (ins : List (Arc B)) (in_limits : Every (ArcLimits kind places) ins) (few_ins : length ins ≤ 4) where
      pub staying_good : Good kind (suc (length (staying gone z))) (2 ^ 26) (picked (0 ∷ staying gone z) narrow)
      staying_good = picked_good (points z) (suc (length (staying gone z))) (2 ^ 26) (0 ∷ staying gone z) narrow (λ j h. staying_inside gone z j) refl narrowing_good

      replaced_few : suc (length (staying gone z)) + length ins ≤ most_points
      replaced_few = omega (arith, staying_few gone z, few_ins)

      module _ (y : Matrix B) (added : Added kind (suc (length (staying gone z))) ins (length ins) (picked (0 ∷ staying gone z) narrow) y) where
        pub replaced_points : suc (length (staying gone z)) + length ins ≡ points (replaced_back gone ins z y)
        replaced_points = omega (arith, length-append (places_at (staying gone z) z) (map (λ a. a.place) ins), length-map (staying gone z) (λ i. numbered z.places i 0), length-map ins (λ a. a.place))

        pub replaced_normal : NormalForm kind (points (replaced_back gone ins z y)) (counted kind (with_tokens kind (suc (length (staying gone z))) ins (picked (0 ∷ staying gone z) narrow))) y
        replaced_normal =
            subst (λ p. NormalForm kind p (counted kind (with_tokens kind (suc (length (staying gone z))) ins (picked (0 ∷ staying gone z) narrow))) y) replaced_points (added_normal (suc (length (staying gone z))) (2 ^ 26) places ins (picked (0 ∷ staying gone z) narrow) (omega arith) (omega arith) (omega arith) in_limits staying_good replaced_few y added)

        pub replaced_good : Good kind (points (replaced_back gone ins z y)) (2 ^ 27) y
        replaced_good =
            subst (λ p. Good kind p (2 ^ 27) y) replaced_points
            (good_more _ (2 ^ 26 + 2 ^ 26) (2 ^ 27) y (omega arith) (added_good (suc (length (staying gone z))) (2 ^ 26) places ins (picked (0 ∷ staying gone z) narrow) (omega arith) (omega arith) (omega arith) in_limits staying_good replaced_few y added))

  -- ---- a firing of a transition
  module _ (t : Transition B) (matching : List ℕ) (z : Zone B) (places : ℕ) (few : length z.places ≤ 8) (g : Good kind (points z) (2 ^ 22) z.bound) (limits : TransitionLimits kind places t) (matched : matches z.places t.outputs matching ≡ true) (narrow : Matrix B) (narrows : NormalForm kind (points z) (counted kind (narrowed_by kind t.outputs matching z.bound)) narrow) (possible : Void kind t matching z → ⊥) where
    pub firing_picked : Good kind (suc (length (staying matching z))) (2 ^ 26) (picked (0 ∷ staying matching z) narrow)
    firing_picked = staying_good z places few g t.outputs matching limits.outputs narrow narrows possible matching t.inputs limits.inputs limits.few_inputs

    module _ (y : Matrix B) (added : Added kind (suc (length (staying matching z))) t.inputs (length t.inputs) (picked (0 ∷ staying matching z) narrow) y) where
      pub firing_predecessor : FiringPredecessor kind t matching z (fired_back t matching z y)
      firing_predecessor =
          record {
            possible = possible;
            narrow = narrow;
            narrows = narrows;
            places = refl;
            bounds = replaced_normal z places few g t.outputs matching limits.outputs narrow narrows possible matching t.inputs limits.inputs limits.few_inputs y added;
          }

      pub firing_good : Good kind (points (fired_back t matching z y)) (2 ^ 27) y
      firing_good = replaced_good z places few g t.outputs matching limits.outputs narrow narrows possible matching t.inputs limits.inputs limits.few_inputs y added
