-- A zone written into a draft, and its normal form there.
use Rattle.std.proofs.Common.{◌≡◌, ℕ, zero, suc, ◌+◌, ◌*◌, ◌^◌, ◌<◌, ◌≤◌, Bool, true, false, eqb, List, ◌∷◌, length, take, refl, ap, ◌∙◌, subst, inl, ⊎_elim, mul-le-mul, arith}
use Rattle.std.proofs.lemmas.List.FromFn.{length-range_with_len}
use Rattle.std.proofs.lemmas.Bool.{cases_eq, eq-eqb, or_left, or_right}
use Rattle.std.specs.List.{range_with_len}
use Rattle.bounds.specs.Kinds.{Kind}
use Rattle.zone_walks.specs.NormalForms.{most_points, largest_entry}
use Rattle.zone_walks.specs.Walks.{Inside, Matrix, Negative, Sized, counted}
use Rattle.zone_walks.proofs.Again.{counted_still, counted_sized, normal_again}
use Rattle.zone_walks.proofs.Closed.{Same}
use Rattle.zone_walks.proofs.NormalForms.{same_back, same_from, same_negative, same_sized, same_still, normal_sized}
use Rattle.zones.specs.Predecessors.{among}
use Rattle.zones.specs.Zones.{Zone, SizedZone, points}
use Rattle.zone_cells.specs.Cells.{times, in_draft, put, written}
use Rattle.zone_cells.specs.Drafts.{Workable, most_tokens}
use Rattle.zone_cells.specs.Loading.{nine_points, DraftFormedOr}
use Rattle.zone_cells.specs.Settling.{Ready, Consistent, Settles}
use Rattle.zone_cells.proofs.Fills.{row_filled, grid_filled}
use Rattle.zone_cells.proofs.Grid.{length-written}

-- ---- every point as a pivot
pub counting_among : (a n v : ℕ) → a ≤ v → v < a + n → among v (range_with_len a n) ≡ true
counting_among a zero v low high = absurd (omega (arith, low, high))
counting_among a (suc n) v low high =
    ⊎_elim
    (λ e. or_left (eqb v a) (among v (range_with_len (a + 1) n)) (eq-eqb v a e))
    (λ ne. or_right (eqb v a) (among v (range_with_len (a + 1) n)) (counting_among (a + 1) n v (omega arith) (omega arith)))
    (cases_eq v a)

pub counting_inside : (a n most : ℕ) → a + n ≤ most → Inside most (range_with_len a n)
counting_inside a zero most h = tt
counting_inside a (suc n) most h = (omega arith, counting_inside (a + 1) n most (omega arith))

pub take_counting : (a n k : ℕ) → k ≤ n → take k (range_with_len a n) ≡ range_with_len a k
take_counting a n zero h = refl
take_counting a zero (suc k) h = absurd (omega (arith, h))
take_counting a (suc n) (suc k) h = ap (λ xs. a ∷ xs) (take_counting (a + 1) n k (omega arith))

pub points_first : (n : ℕ) → n ≤ 9 → take n nine_points ≡ range_with_len 0 n
points_first n few = take_counting 0 9 n few

-- the bounds that were written are those that the draft holds
pub written_is : {B : Type 0} (kind : Kind B) (bounds : Matrix B) (n : ℕ) (cells : List B) → length cells ≡ 169 → n ≤ most_points → Same n (in_draft kind (written bounds n cells)) bounds
written_is kind bounds n cells full few =
    (grid_filled kind n bounds (λ j c. times n (λ i e. put j i (bounds j i) e) c) cells full few
    (λ j c l g. row_filled kind j n (bounds j) (λ i _. bounds j i) c g.long (omega arith) few (λ i _ _ _. refl))
    ).done

module _ {B : Type 0} (kind : Kind B) where
  -- ---- the cells written
  module _ (d : Matrix B) (n : ℕ) (cells : List B) (full : length cells ≡ 169) (few : n ≤ most_points) where
    counted_is : Same n (in_draft kind (written (counted kind d) n cells)) (counted kind d)
    counted_is = written_is kind (counted kind d) n cells full few

    written_back : Same n (counted kind d) (in_draft kind (written (counted kind d) n cells))
    written_back = same_back kind n (in_draft kind (written (counted kind d) n cells)) (counted kind d) counted_is

    pub written_ready : (s : ℕ) → s ≤ largest_entry → Sized kind n s d → Ready kind n (range_with_len 0 n) (written (counted kind d) n cells)
    written_ready s small sized =
        record {
          full = length-written (counted kind d) n cells ∙ full;
          few = few;
          rounds = omega (arith, length-range_with_len 0 n);
          inside = counting_inside 0 n n (omega arith);
          still = same_still kind n (counted kind d) (in_draft kind (written (counted kind d) n cells)) written_back (counted_still kind n d);
          sized = λ j i p q. let least = same_sized kind n s (counted kind d) (in_draft kind (written (counted kind d) n cells)) written_back (counted_sized kind n s d sized) j i p q in omega (arith, least, small);
          settled = λ v l. inl (counting_among 0 n v (omega arith) (omega arith));
        }

    pub written_negative : Negative kind n (in_draft kind (written (counted kind d) n cells)) → Negative kind n (counted kind d)
    written_negative = same_negative kind n (in_draft kind (written (counted kind d) n cells)) (counted kind d) counted_is

    pub written_consistent : (y : Matrix B) → Consistent kind n (in_draft kind (written (counted kind d) n cells)) y → Consistent kind n (counted kind d) y
    written_consistent y h =
        record {
          normal = same_from kind n (in_draft kind (written (counted kind d) n cells)) (counted kind d) y counted_is h.normal;
          none = λ negative. h.none (same_negative kind n (counted kind d) (in_draft kind (written (counted kind d) n cells)) written_back negative);
        }

  -- ---- the normal form of a zone of small bounds
  module _ (z : Zone B) (s : ℕ) (few : length z.places ≤ most_tokens) (small : s ≤ 2 ^ 18) (sized : SizedZone kind s z) where
    pub normal_workable : (after : List B) → length after ≡ 169 → Consistent kind (points z) (counted kind z.bound) (in_draft kind after) → Workable kind z.places after
    normal_workable after full h =
        let n = points z in
        let again = normal_again kind n s z.bound (in_draft kind after) (omega (arith, few)) (omega arith) (omega (arith, small)) sized h.normal h.none in
        let largest = normal_sized kind n s (counted kind z.bound) (in_draft kind after) (counted_sized kind n s z.bound sized) h.normal in
        let nine : n ≤ 9 = omega (arith, few) in
        let most : n * s ≤ 9 * 2 ^ 18 = mul-le-mul nine small in
        record {
          full = full;
          formed = record {
            few = few;
            normal = record { still = again.closed.still; bounds = again.normal };
            small = λ j i p q. let here = largest j i p q in omega (arith, here, most);
          };
        }

    by_counting : (before after : List B) (answer : Bool) → length before ≡ 169 → Settles kind (points z) (range_with_len 0 (points z)) (written (counted kind z.bound) (points z) before) after answer → DraftFormedOr kind z after answer
    by_counting before after true full h =
        let enough : points z ≤ most_points = omega (arith, few) in
        let ready = written_ready z.bound (points z) before full enough s (omega (arith, small)) sized in
        let consistent = written_consistent z.bound (points z) before full enough (in_draft kind after) (h.answered ready) in
        record {
          normal = record { places = refl; bounds = consistent.normal };
          consistent = consistent.none;
          workable = normal_workable after (h.kept ∙ length-written (counted kind z.bound) (points z) before ∙ full) consistent;
        }
    by_counting before after false full h =
        let enough : points z ≤ most_points = omega (arith, few) in
        let ready = written_ready z.bound (points z) before full enough s (omega (arith, small)) sized in
        written_negative z.bound (points z) before full enough (h.answered ready)

    pub formed : (before after : List B) (answer : Bool) → length before ≡ 169 → Settles kind (points z) (take (points z) nine_points) (written (counted kind z.bound) (points z) before) after answer → DraftFormedOr kind z after answer
    formed before after answer full h =
        by_counting before after answer full (subst (λ pivots. Settles kind (points z) pivots (written (counted kind z.bound) (points z) before) after answer) (points_first (points z) (omega (arith, few))) h)
