-- A position of a number: its digit is raised, or is passed.
use Rattle.std.proofs.Common.{◌≡◌, ℕ, zero, suc, ◌+◌, ◌-◌, ◌<◌, ◌≤◌, min, Bool, true, false, ◌||◌, eqb, List, [], ◌∷◌, ◌++◌, map, length, get_or, take, Option, Some, None, sym, refl, ap, ◌∙◌, subst, ap₂, arith}
use Rattle.std.proofs.lemmas.Bool.Decides.{nat_tests}
use Rattle.std.specs.List.{list_any}
use Rattle.std.specs.Option.{MatchOption, IfSome, IsSomeAnd, option_map}
use Rattle.std.specs.Bool.{IsTrue}
use Rattle.std.specs.Iterator.Runs.{Run, AllItemsGive, IsFirstToGive, CallKeepsClosure}
use denote.Param.Members.{Mut, Called}
use Rattle.std.proofs.lemmas.List.{map_more, append_assoc}
use Rattle.nets.specs.Nets.{Arc, numbered}
use Rattle.zones.specs.Predecessors.{among, fields, is_matching}
use Rattle.zones.specs.Digits.{digit_fits, all_fit, Fitting, raised}
use Rattle.zones.proofs.Digits.{Passed, passed_all, passed_first, passed_more, raised_small, raised_fits, raised_none, all_fit_matching}
use Rattle.zone_matchings.specs.Next.{Least, NextBelow}

pub any-among : (token : ℕ) (ds : List ℕ) → list_any (λ d. eqb d token) ds ≡ among token ds
any-among token [] = refl
any-among token (d ∷ ds) = ap₂ ◌||◌ (turned d token) (any-among token ds)
  where
    turned : (x y : ℕ) → eqb x y ≡ eqb y x
    turned x y = grind (arith, nat_tests)

-- the first number above the given one that passes, as a search of the numbers up to the limit answers it
pub next_below : (limit : ℕ) (test : ℕ → Bool) (after : ℕ) (r : Option ℕ) → MatchOption r ((k : ℕ) → after + 1 ≤ k → k < limit → test k ≡ false) (λ i. (after + 1 ≤ i) × (i < limit) × (test i ≡ true) × ((k : ℕ) → after + 1 ≤ k → k < i → test k ≡ false)) → NextBelow limit test after r
next_below limit test after None none = λ k above small. none k (omega (arith, above)) small
next_below limit test after (Some n) first =
    record { above = omega (arith, first.0); small = first.1; passes = first.2; between = λ k above below. first.3 k (omega (arith, above)) below }

module _ (arcs places ds : List ℕ) (n : ℕ) (e : ds ≡ fields n) where
  pub starts : (count end : ℕ) → Fitting arcs places ds count → end ≡ min (count + 1) 4 → Passed arcs places end n
  starts count end f is =
      subst (λ p. Passed arcs places p n) (sym is) (passed_first arcs places n count (subst (λ x. Fitting arcs places x count) e f))

  pub passes : (p : ℕ) → p < 4 → ((x : ℕ) → get_or ds p 0 < x → x < 16 → digit_fits arcs places (take p ds) x ≡ false) → Passed arcs places (suc p) n → Passed arcs places p n
  passes p h none later =
      passed_more arcs places p n h (subst (λ xs. (x : ℕ) → get_or xs p 0 < x → x < 16 → digit_fits arcs places (take p xs) x ≡ false) e none) later

  found_at : (count p d : ℕ) → n < 65536 → Fitting arcs places (fields n) count → p < min (count + 1) 4 → Passed arcs places (suc p) n → Least 16 (digit_fits arcs places (take p (fields n))) (get_or (fields n) p 0) d → Least 65536 (λ m. all_fit arcs places [] (fields m)) n (raised n p d)
  found_at count p d s f h later least =
      let here : p < 4 = omega arith in
      let bounds = raised_small p n d here s least.small least.above in
      record { above = bounds.0; small = bounds.1; passes = raised_fits arcs places p n d here least.small (λ k l. f.before k (omega arith)) least.passes; between = raised_none arcs places p n d here s least.small least.above least.between later }

  pub found : (count p d r : ℕ) → n < 65536 → Fitting arcs places ds count → p < min (count + 1) 4 → Passed arcs places (suc p) n → Least 16 (digit_fits arcs places (take p ds)) (get_or ds p 0) d → r ≡ raised n p d → Least 65536 (λ m. all_fit arcs places [] (fields m)) n r
  found count p d r s f h later least is =
      subst (λ x. Least 65536 (λ m. all_fit arcs places [] (fields m)) n x) (sym is) (found_at count p d s (subst (λ x. Fitting arcs places x count) e f) h later (subst (λ x. Least 16 (digit_fits arcs places (take p x)) (get_or x p 0) d) e least))

  -- what the search for a larger digit at a position answers
  abbrev pub Tried : ℕ → Option ℕ → Type 0
  Tried p None = (x : ℕ) → get_or ds p 0 < x → x < 16 → digit_fits arcs places (take p ds) x ≡ false
  Tried p (Some r) = (d : ℕ) × Least 16 (digit_fits arcs places (take p ds)) (get_or ds p 0) d × (r ≡ raised n p d)

  passed_down : (left p end : ℕ) → p + left ≡ end → end ≤ 4 → ((k : ℕ) → p ≤ k → k < end → Tried k None) → Passed arcs places end n → Passed arcs places p n
  passed_down zero p end is few none later = let same : end ≡ p = omega (arith, is) in subst (λ k. Passed arcs places k n) same later
  passed_down (suc left) p end is few none later =
      passes p (omega (arith, is, few)) (none p (omega arith) (omega (arith, is))) (passed_down left (suc p) end (omega (arith, is)) few (λ k low high. none k (omega (arith, low)) high) later)

  -- the positions from the last one down, up to the first that gives a number
  pub next_tried : (count end len : ℕ) (whole : Bool) (at : ℕ → Option ℕ) (r : Option ℕ) → n < 65536 → Fitting arcs places ds count → end ≡ min (count + 1) 4 → len ≤ end → (whole ≡ true → len ≡ end) → ((k : ℕ) → k < len → at k ≡ Some (end - 1 - k)) → MatchOption r ((whole ≡ true) × ((k : ℕ) → IfSome (at k) (λ x. Tried x None))) (λ y. (i : ℕ) × (i < len) × IsSomeAnd (at i) (λ x. Tried x (Some y)) × ((k : ℕ) → k < i → IsSomeAnd (at k) (λ x. Tried x None))) → NextBelow 65536 (λ m. all_fit arcs places [] (fields m)) n r
  next_tried count end len whole at None small fitting is few all reads none =
      let reaches : (k : ℕ) → 0 ≤ k → k < end → Tried k None =
      λ k low high. subst (λ x. Tried x None) {x = end - 1 - (end - 1 - k)} {y = k} (omega (arith, high)) (subst (λ o. IfSome o (λ x. Tried x None)) (reads (end - 1 - k) (omega (arith, all none.0, high))) (none.1 (end - 1 - k))) in
      passed_all arcs places n small (passed_down end 0 end (omega arith) (omega (arith, is)) reaches (starts count end fitting is))
  next_tried count end len whole at (Some r) small fitting is few all reads hit =
      let p = end - 1 - hit.0 in
      let here = subst (λ o. IsSomeAnd o (λ x. Tried x (Some r))) (reads hit.0 hit.1) hit.2 in
      let left : suc p + hit.0 ≡ end = omega (arith, hit.1, few) in
      let reaches : (k : ℕ) → suc p ≤ k → k < end → Tried k None =
      λ k low high. subst (λ x. Tried x None) {x = end - 1 - (end - 1 - k)} {y = k} (omega (arith, high)) (subst (λ o. IsSomeAnd o (λ x. Tried x None)) (reads (end - 1 - k) (omega (arith, low, hit.1, left))) (hit.3 (end - 1 - k) (omega (arith, low, left, high)))) in
      found count p here.0 r small fitting (omega (arith, is, left)) (passed_down hit.0 (suc p) end left (omega (arith, is)) reaches (starts count end fitting is)) here.1 here.2

if_some : {X : Type 0} {P Q : X → Type 0} (o : Option X) → ((x : X) → P x → Q x) → IfSome o P → IfSome o Q
if_some None f h = tt
if_some (Some x) f h = f x h

is_some_and : {X : Type 0} {P Q : X → Type 0} (o : Option X) → ((x : X) → P x → Q x) → IsSomeAnd o P → IsSomeAnd o Q
is_some_and None f h = h
is_some_and (Some x) f h = f x h

-- what each answer of a search's closure means
pub meant : {S F : Type 0} {steps : S → Option ℕ → S → Type 0} (p : Run steps) (g : Mut F (ℕ × Unit {0}) (Option ℕ)) (f : F) (Means : ℕ → Option ℕ → Type 0) (r : Option ℕ) → CallKeepsClosure g f → ((x : ℕ) (o : Option ℕ) → Called g f (x, tt) o f → Means x o) → MatchOption r (IsTrue p.whole × AllItemsGive p g f None) (λ y. (i : ℕ) × (i < p.len) × (p.len ≡ i + 1) × IsFirstToGive p g f (Some y) None i) → MatchOption r ((p.whole ≡ true) × ((k : ℕ) → IfSome (p.at k) (λ x. Means x None))) (λ y. (i : ℕ) × (i < p.len) × IsSomeAnd (p.at i) (λ x. Means x (Some y)) × ((k : ℕ) → k < i → IsSomeAnd (p.at k) (λ x. Means x None)))
meant p g f Means None stays means h = (h.0, λ k. if_some (p.at k) (λ x. means x None) (h.1 stays k))
meant p g f Means (Some y) stays means h =
    let first = h.3 stays in
    (h.0, h.1, is_some_and (p.at h.0) (λ x. means x (Some y)) first.0, λ k below. is_some_and (p.at k) (λ x. means x None) (first.1 k below))

-- an item that is copied
pub copied : (o : Option ℕ) (x : ℕ) → option_map (λ y. y) o ≡ Some x → o ≡ Some x
copied None x e = e
copied (Some y) x e = e

pub numbered_from : {X : Type 0} (xs : List X) (t : ℕ) (d : X) → 1 ≤ t → numbered xs t d ≡ get_or xs (t - 1) d
numbered_from xs zero d some = absurd (omega (arith, some))
numbered_from xs (suc t) d some = let e : t ≡ suc t - 1 = omega arith in ap (λ i. get_or xs i d) e

-- a list of what f makes of the elements, after one more of them, numbered from 1
pub pushed_numbered : {X : Type 0} (f : X → ℕ) (xs : List X) (n : ℕ) (d : X) (before now next : List ℕ) (y : ℕ) → 0 < n → n ≤ length xs → now ≡ before ++ map f (take (n - 1) xs) → next ≡ now ++ y ∷ [] → y ≡ f (get_or xs (n - 1) d) → next ≡ before ++ map f (take (n + 1 - 1) xs)
pushed_numbered f xs n d before now next y some few so_far is read =
    let e : n - 1 + 1 ≡ n + 1 - 1 = omega (arith, some) in
    is
    ∙ ap₂ (λ ys z. ys ++ z ∷ []) so_far read
    ∙ append_assoc before (map f (take (n - 1) xs)) (f (get_or xs (n - 1) d) ∷ [])
    ∙ ap (λ ys. before ++ ys) (sym (map_more f xs (n - 1) d (omega (arith, some, few))))
    ∙ ap (λ m. before ++ map f (take m xs)) e

-- the digits fit exactly where they say a matching
pub gathered : {B : Type 0} (arcs : List (Arc B)) (slots places : List ℕ) → slots ≡ map (λ a. a.place) arcs → length arcs ≤ 4 → (n : ℕ) → all_fit slots places [] (fields n) ≡ is_matching places arcs n
gathered arcs slots places read few n = ap (λ xs. all_fit xs places [] (fields n)) read ∙ all_fit_matching places arcs n few
