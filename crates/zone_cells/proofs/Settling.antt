-- Rounds of elimination over a list of pivots, one after the other.
use Rattle.std.proofs.Common.{◌≡◌, ℕ, zero, suc, ◌+◌, ◌*◌, ◌^◌, ◌<◌, ◌≤◌, Bool, true, false, not, ◌||◌, eqb, List, [], ◌∷◌, ◌++◌, length, get_or, take, drop, sym, refl, ap, ◌∙◌, subst, ⊎_elim, arith}
use native.Mathlib.Nat.{pow-le-pow_right}
use Rattle.std.proofs.lemmas.List.{append-nil, append_assoc, take-append-drop, take_all, take_more}
use Rattle.std.proofs.lemmas.Bool.{cases_Bool, cond-false, cond-true, or_right, false≢true}
use Rattle.bounds.specs.Kinds.{Kind, largest_size}
use Rattle.zone_walks.specs.Walks.{Inside}
use Rattle.zone_walks.specs.NormalForms.{most_points, largest_entry}
use Rattle.zone_walks.proofs.Closed.{Same, relaxed}
use Rattle.zone_walks.proofs.Rounds.{Progress, progress_none, progress_round, progress_sized, progress_negative, progress_normal}
use Rattle.zones.specs.Predecessors.{among}
use Rattle.zone_cells.specs.Cells.{in_draft, relaxed_cells}
use Rattle.zone_cells.specs.Settling.{Ready, Settles, eliminated}
use Rattle.zone_cells.proofs.Grid.{length-relaxed}
use Rattle.zone_cells.proofs.Operations.{relaxed_is}

-- r rounds after the start, with the points that are settled by then
pub record Done {B : Type 0} (kind : Kind B) (points : ℕ) (pivots : List ℕ) (before : List B) (r : ℕ) (after : List B) : Type 0 where
  pub done : ℕ → Bool
  pub progress : Progress kind points (in_draft kind before) r done (in_draft kind after)
  pub other : (v : ℕ) → v < points → among v pivots ≡ false → done v ≡ true
  pub first : (v : ℕ) → v < points → among v (take r pivots) ≡ true → done v ≡ true

pub record SettledSoFar {B : Type 0} (kind : Kind B) (points : ℕ) (pivots : List ℕ) (before : List B) (r : ℕ) (after : List B) : Type 0 where
  pub turned : (later : List ℕ) → eliminated kind points (take r pivots ++ later) before ≡ eliminated kind points later after
  pub kept : length after ≡ length before
  pub so_far : Ready kind points pivots before → Done kind points pivots before r after

inside_at : (n : ℕ) (ps : List ℕ) (r : ℕ) → Inside n ps → r < length ps → get_or ps r 0 < n
inside_at n [] r h l = absurd (omega (arith, l))
inside_at n (p ∷ ps) zero h l = h.0
inside_at n (p ∷ ps) (suc r) h l = inside_at n ps r h.1 (omega (arith, l))

-- among the first r + 1: the r-th, or among the first r
among_more : (v : ℕ) (ps : List ℕ) (r : ℕ) → r < length ps → among v (take (suc r) ps) ≡ true → (eqb v (get_or ps r 0) || among v (take r ps)) ≡ true
among_more v [] r l h = absurd (omega (arith, l))
among_more v (p ∷ ps) zero l h = h
among_more v (p ∷ ps) (suc r) l h = split (eqb v p) (among v (take (suc r) ps)) (eqb v (get_or ps r 0)) (among v (take r ps)) h (among_more v ps r (omega (arith, l)))
  where
    split : (a b c d : Bool) → (a || b) ≡ true → (b ≡ true → (c || d) ≡ true) → (c || (a || d)) ≡ true
    split true b true d h more = refl
    split true b false d h more = refl
    split false b true d h more = refl
    split false b false d h more = more h

or_more : (a b c : Bool) → (b ≡ true → c ≡ true) → (a || b) ≡ true → (a || c) ≡ true
or_more true b c more h = refl
or_more false b c more h = more h

-- sizes double at most with every round
rounds_small : (r : ℕ) → r < most_points → 2 ^ r * largest_entry ≤ largest_size
rounds_small r early =
    let two : 0 < 2 = omega arith in
    let le : r ≤ 12 = omega (arith, early) in
    let power : 2 ^ r ≤ 2 ^ 12 = pow-le-pow_right two le in
    omega (arith, power)

module _ {B : Type 0} (kind : Kind B) (points : ℕ) (pivots : List ℕ) (before : List B) where
  pub settled_none : SettledSoFar kind points pivots before 0 before
  settled_none =
      record {
        turned = λ later. refl;
        kept = refl;
        so_far = λ ready.
            record {
              done = λ v. not (among v pivots);
              progress = progress_none kind points (in_draft kind before) (λ v. not (among v pivots)) ready.still ready.sized (λ v l h. ⊎_elim (λ in_List. absurd (false≢true (ap not (sym in_List) ∙ h))) (λ settled. settled) (ready.settled v l));
              other = λ v l h. ap not h;
              first = λ v l h. absurd (false≢true h);
            };
      }

  module _ (r : ℕ) (cells : List B) (here : r < length pivots) (so_far : SettledSoFar kind points pivots before r cells) where
    -- the round's pivot comes first of those that are left
    this_round : (later : List ℕ) → eliminated kind points (take (r + 1) pivots ++ later) before ≡ eliminated kind points (get_or pivots r 0 ∷ later) cells
    this_round later =
        ap (λ ps. eliminated kind points (ps ++ later) before) (take_more pivots r 0 here)
        ∙ ap (λ ps. eliminated kind points ps before) (append_assoc (take r pivots) (get_or pivots r 0 ∷ []) later)
        ∙ so_far.turned (get_or pivots r 0 ∷ later)

    pub settled_more : (next : List B) → next ≡ relaxed_cells kind points (get_or pivots r 0) cells → kind.at_most kind.zero (in_draft kind cells (get_or pivots r 0) (get_or pivots r 0)) ≡ true → SettledSoFar kind points pivots before (r + 1) next
    settled_more next is good =
        let p = get_or pivots r 0 in
        record {
          turned = λ later. this_round later ∙ cond-true _ _ _ good ∙ ap (eliminated kind points later) (sym is);
          kept = ap length is ∙ length-relaxed kind points p cells ∙ so_far.kept;
          so_far = λ ready.
              let d = so_far.so_far ready in
              let inside = inside_at points pivots r ready.inside here in
              let early : r < most_points = omega (arith, here, ready.rounds) in
              let still = kind.antisymmetric (in_draft kind cells p p) kind.zero (d.progress.loops p inside) good in
              let sized = progress_sized kind points (in_draft kind before) r d.done (in_draft kind cells) ready.sized d.progress in
              let small : (i : ℕ) → i < points → kind.size (in_draft kind cells p i) ≤ largest_size = λ i l. omega (arith, sized p i inside l, rounds_small r early) in
              let same = relaxed_is kind points p cells (so_far.kept ∙ ready.full) ready.few inside still small in
              let round = progress_round kind points (in_draft kind before) r p d.done (in_draft kind cells) (in_draft kind next) early ready.sized d.progress inside good (subst (λ c. Same points (in_draft kind c) (relaxed kind p (in_draft kind cells))) (sym is) same) in
              let e : suc r ≡ r + 1 = omega arith in
              record {
                done = λ v. eqb v p || d.done v;
                progress = subst (λ m. Progress kind points (in_draft kind before) m (λ v. eqb v p || d.done v) (in_draft kind next)) e round;
                other = λ v l h. or_right (eqb v p) (d.done v) (d.other v l h);
                first = λ v l h. or_more (eqb v p) (among v (take r pivots)) (d.done v) (d.first v l) (among_more v pivots r here (subst (λ m. among v (take m pivots) ≡ true) (sym e) h));
              };
        }

    pub settled_not : (next : List B) → next ≡ cells → kind.at_most kind.zero (in_draft kind cells (get_or pivots r 0) (get_or pivots r 0)) ≡ false → Settles kind points pivots before next false
    settled_not next is bad =
        record {
          run = ap (λ c. (c, false)) is ∙ sym (ap (λ ps. eliminated kind points ps before) (sym (take-append-drop (r + 1) pivots)) ∙ this_round (drop (r + 1) pivots) ∙ cond-false _ _ _ bad);
          kept = ap length is ∙ so_far.kept;
          answered = λ ready.
              let d = so_far.so_far ready in
              progress_negative kind points (in_draft kind before) r (get_or pivots r 0) d.done (in_draft kind cells) ready.few (omega (arith, here, ready.rounds)) ready.sized d.progress (inside_at points pivots r ready.inside here) bad;
        }

  pub settled_all : (r : ℕ) (cells : List B) → r ≡ length pivots → SettledSoFar kind points pivots before r cells → Settles kind points pivots before cells true
  settled_all r cells end so_far =
      record {
        run = sym (ap (λ ps. eliminated kind points ps before) (sym (append-nil (take r pivots) ∙ take_all r pivots (omega (arith, end)))) ∙ so_far.turned []);
        kept = so_far.kept;
        answered = λ ready.
            let d = so_far.so_far ready in
            let all = take_all r pivots (omega (arith, end)) in
            let every = λ (v : ℕ) (l : v < points). ⊎_elim (λ h. d.first v l (ap (among v) all ∙ h)) (λ h. d.other v l h) (cases_Bool (among v pivots)) in
            let finished = progress_normal kind points (in_draft kind before) r d.done (in_draft kind cells) ready.few (omega (arith, end, ready.rounds)) ready.sized d.progress every in
            record { normal = finished.normal; none = finished.none };
      }
