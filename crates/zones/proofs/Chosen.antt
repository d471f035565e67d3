-- Tokens by number: the numbers of a list, those among others, and those left.
use Rattle.std.proofs.Common.{◌≡◌, ℕ, zero, suc, ◌+◌, ◌<◌, ◌≤◌, true, false, not, cond, ◌&&◌, ◌||◌, eqb, leb, ◌==◌, ◌⊎◌, List, [], ◌∷◌, ◌++◌, map, length, get_or, pos, sym, refl, ap, ◌∙◌, subst, inl, inr, ⊎_elim, arith}
use Rattle.std.proofs.lemmas.List.{get_or-map, map-append}
use Rattle.std.proofs.lemmas.Bool.{cases_eq, eqb-true, eqb-false, eq-eqb, ne_eqb, cond_both, or_cases, or_parts, or_from, or_left, or_right, false≢true, both_ways, and_parts, leb-true, not-true}
use Rattle.nets.specs.Markings.{Token, Permuted}
use Rattle.nets.specs.Markings.Permuted.{keep, join}
use Rattle.nets.specs.Nets.{Arc, Every, numbered}
use Rattle.nets.proofs.Bags.{permuted_same, permuted_equal, permuted_map}
use Rattle.zones.specs.Predecessors.{among, matches, others, stands}
use Rattle.zones.specs.Vouching.{Distinct, Partner}
use Rattle.zones.specs.Zones.{age_of, no_token}
use Rattle.zones.proofs.Bags.{Taken, taken_first}
use Rattle.zones.proofs.Bags.Taken.{here, there}

-- ---- tokens by number
abbrev pub token_of : List Token → ℕ → Token
token_of ts i = numbered ts i no_token

pub age_token : (ts : List Token) (i : ℕ) → age_of ts i ≡ pos (token_of ts i).age
age_token ts zero = refl
age_token ts (suc i) = refl

getD_place : (ts : List Token) (i : ℕ) → (get_or ts i no_token).place ≡ get_or (map (λ t. t.place) ts) i 0
getD_place [] i = refl
getD_place (t ∷ ts) zero = refl
getD_place (t ∷ ts) (suc i) = getD_place ts i

pub place_token : (ts : List Token) (i : ℕ) → (token_of ts i).place ≡ numbered (map (λ t. t.place) ts) i 0
place_token ts zero = refl
place_token ts (suc i) = getD_place ts i

-- the ages of tokens chosen by their numbers
pub age_chosen : (ts : List Token) (ps : List ℕ) (j : ℕ) → j < suc (length ps) → age_of (map (token_of ts) ps) j ≡ age_of ts (get_or (0 ∷ ps) j 0)
age_chosen ts ps zero h = refl
age_chosen ts ps (suc j) h =
    ap (λ t. pos t.age) (get_or-map (token_of ts) ps j 0 no_token (omega arith)) ∙ sym (age_token ts (get_or ps j 0))

pub places_chosen : (ts : List Token) (ps : List ℕ) → map (λ t. t.place) (map (token_of ts) ps) ≡ map (λ i. numbered (map (λ t. t.place) ts) i 0) ps
places_chosen ts [] = refl
places_chosen ts (p ∷ ps) =
    let first = place_token ts p in
    let more = places_chosen ts ps in
    cc

-- ---- all the numbers
-- so many numbers from the first one on
abbrev pub numbers : ℕ → ℕ → List ℕ
numbers first zero = []
numbers first (suc n) = first ∷ numbers (suc first) n

-- the numbers of a list that are not among the given
abbrev pub without : List ℕ → List ℕ → List ℕ
without gone [] = []
without gone (p ∷ ps) = cond (among p gone) (without gone ps) (p ∷ without gone ps)

pub others-without : (gone : List ℕ) (first n : ℕ) → others gone first n ≡ without gone (numbers first n)
others-without gone first zero = refl
others-without gone first (suc n) = ap (λ l. cond (among first gone) l (first ∷ l)) (others-without gone (suc first) n)

pub without_none : (ps : List ℕ) → without [] ps ≡ ps
without_none [] = refl
without_none (p ∷ ps) = ap (λ l. p ∷ l) (without_none ps)

-- the whole list, by numbers; front is what stands before it
get_d_after : {X : Type 0} (front : List X) (x : X) (xs : List X) (d : X) → get_or (front ++ (x ∷ xs)) (length front) d ≡ x
get_d_after [] x xs d = refl
get_d_after (y ∷ front) x xs d = get_d_after front x xs d

append_one : {X : Type 0} (front : List X) (x : X) (xs : List X) → (front ++ (x ∷ [])) ++ xs ≡ front ++ (x ∷ xs)
append_one [] x xs = refl
append_one (y ∷ front) x xs = ap (λ l. y ∷ l) (append_one front x xs)

length_one : {X : Type 0} (front : List X) (x : X) → length (front ++ (x ∷ [])) ≡ suc (length front)
length_one [] x = refl
length_one (y ∷ front) x = ap suc (length_one front x)

tokens_from : (front ts : List Token) → map (token_of (front ++ ts)) (numbers (suc (length front)) (length ts)) ≡ ts
tokens_from front [] = refl
tokens_from front (t ∷ ts) =
    let first = get_d_after front t ts no_token in
    let more = tokens_from (front ++ (t ∷ [])) ts in
    let again : map (token_of (front ++ (t ∷ ts))) (numbers (suc (length (front ++ (t ∷ [])))) (length ts)) ≡ ts = subst (λ l. map (token_of l) (numbers (suc (length (front ++ (t ∷ [])))) (length ts)) ≡ ts) (append_one front t ts) more in
    let last : map (token_of (front ++ (t ∷ ts))) (numbers (suc (suc (length front))) (length ts)) ≡ ts = subst (λ n. map (token_of (front ++ (t ∷ ts))) (numbers (suc n) (length ts)) ≡ ts) (length_one front t) again in
    ap (λ x. x ∷ map (token_of (front ++ (t ∷ ts))) (numbers (suc (suc (length front))) (length ts))) first ∙ ap (λ l. t ∷ l) last

pub tokens_all : (ts : List Token) → map (token_of ts) (numbers 1 (length ts)) ≡ ts
tokens_all ts = tokens_from [] ts

-- ---- what is among a list
pub among_cases : (i d : ℕ) (ds : List ℕ) → among i (d ∷ ds) ≡ true → (i ≡ d) ⊎ (among i ds ≡ true)
among_cases i d ds h = ⊎_elim (λ e. inl (eqb-true i d e)) (λ e. inr e) (or_cases (eqb i d) (among i ds) h)

pub among_first : (i d : ℕ) (ds : List ℕ) → i ≡ d → among i (d ∷ ds) ≡ true
among_first i d ds e = or_left (eqb i d) (among i ds) (eq-eqb i d e)

pub among_later : (i d : ℕ) (ds : List ℕ) → among i ds ≡ true → among i (d ∷ ds) ≡ true
among_later i d ds e = or_right (eqb i d) (among i ds) e

pub among-numbers : (first n i : ℕ) → first ≤ i → i < first + n → among i (numbers first n) ≡ true
among-numbers first zero i l h = absurd (omega arith)
among-numbers first (suc n) i l h =
    ⊎_elim (λ e. among_first i first (numbers (suc first) n) e) (λ e. among_later i first (numbers (suc first) n) (among-numbers (suc first) n i (omega arith) (omega arith))) (cases_eq i first)

below_numbers : (first n i : ℕ) → i < first → among i (numbers first n) ≡ false
below_numbers first zero i h = refl
below_numbers first (suc n) i h = or_from (eqb i first) _ (ne_eqb i first (λ e. omega arith)) (below_numbers (suc first) n i (omega arith))

pub distinct_numbers : (first n : ℕ) → Distinct (numbers first n)
distinct_numbers first zero = tt
distinct_numbers first (suc n) = (below_numbers (suc first) n first (omega arith), distinct_numbers (suc first) n)

pub every_numbers : (first n most : ℕ) → 1 ≤ first → first + n ≤ suc most → Every (Partner most) (numbers first n)
every_numbers first zero most some few = tt
every_numbers first (suc n) most some few = (record { some = some; few = omega arith }, every_numbers (suc first) n most (omega arith) (omega arith))

-- what a place of a list holds is among it
pub getD_among : (ps : List ℕ) (j : ℕ) → j < length ps → among (get_or ps j 0) ps ≡ true
getD_among [] j h = absurd (omega arith)
getD_among (p ∷ ps) zero h = among_first p p ps refl
getD_among (p ∷ ps) (suc j) h = among_later (get_or ps j 0) p ps (getD_among ps j (omega arith))

-- two places of a list without repetition hold two numbers
pub distinct_apart : (ps : List ℕ) → Distinct ps → (j i : ℕ) → j < length ps → i < length ps → (j ≡ i → ⊥) → get_or ps j 0 ≡ get_or ps i 0 → ⊥
distinct_apart [] dist j i p q apart e = omega arith
distinct_apart (x ∷ ps) dist zero zero p q apart e = apart refl
distinct_apart (x ∷ ps) dist zero (suc i) p q apart e =
    both_ways (among x ps) dist.0 (subst (λ y. among y ps ≡ true) (sym e) (getD_among ps i (omega arith)))
distinct_apart (x ∷ ps) dist (suc j) zero p q apart e =
    both_ways (among x ps) dist.0 (subst (λ y. among y ps ≡ true) e (getD_among ps j (omega arith)))
distinct_apart (x ∷ ps) dist (suc j) (suc i) p q apart e =
    distinct_apart ps dist.1 j i (omega arith) (omega arith) (λ h. apart (ap suc h)) e

pub every_getD : (P : ℕ → Type 0) (ps : List ℕ) → Every P ps → (j : ℕ) → j < length ps → P (get_or ps j 0)
every_getD P [] every j h = absurd (omega arith)
every_getD P (p ∷ ps) every zero h = every.0
every_getD P (p ∷ ps) every (suc j) h = every_getD P ps every.1 j (omega arith)

-- ---- a list without repetition, out of another
pub record Left {X : Type 0} (xs ys : List X) : Type 0 where
  pub left : List X
  pub same : Permuted xs (ys ++ left)

pub record Removed (p : ℕ) (xs : List ℕ) : Type 0 where
  pub left : List ℕ
  pub taken : Taken p xs left
  pub keeps : (q : ℕ) → (q ≡ p → ⊥) → among q xs ≡ true → among q left ≡ true

removed_later : (p x : ℕ) (xs : List ℕ) → Removed p xs → Removed p (x ∷ xs)
removed_later p x xs r = record { left = x ∷ r.left; taken = there x r.taken; keeps = keeps }
  where
    keeps : (q : ℕ) → (q ≡ p → ⊥) → among q (x ∷ xs) ≡ true → among q (x ∷ r.left) ≡ true
    keeps q apart m = ⊎_elim (λ e. among_first q x r.left e) (λ e. among_later q x r.left (r.keeps q apart e)) (among_cases q x xs m)

pub removed : (p : ℕ) (xs : List ℕ) → among p xs ≡ true → Removed p xs
removed p [] h = absurd (false≢true h)
removed p (x ∷ xs) h = go (λ m. removed p xs m) (cases_eq p x)
  where
    keeps_first : (e : p ≡ x) (q : ℕ) → (q ≡ p → ⊥) → among q (x ∷ xs) ≡ true → among q xs ≡ true
    keeps_first e q apart m = ⊎_elim (λ s. absurd (apart (s ∙ sym e))) (λ s. s) (among_cases q x xs m)

    later : (p ≡ x → ⊥) → among p xs ≡ true
    later apart = ⊎_elim (λ s. absurd (apart s)) (λ s. s) (among_cases p x xs h)

    go : (among p xs ≡ true → Removed p xs) → (p ≡ x) ⊎ (p ≡ x → ⊥) → Removed p (x ∷ xs)
    go r (inl e) = record { left = xs; taken = here x xs (sym e); keeps = keeps_first e }
    go r (inr apart) = removed_later p x xs (r (later apart))

every_among : (p : ℕ) (ps xs left : List ℕ) → among p ps ≡ false → ((q : ℕ) → (q ≡ p → ⊥) → among q xs ≡ true → among q left ≡ true) → Every (λ q. among q xs ≡ true) ps → Every (λ q. among q left ≡ true) ps
every_among p [] xs left absent keeps every = tt
every_among p (q ∷ ps) xs left absent keeps every =
    let parts = or_parts (eqb p q) (among p ps) absent in
    (keeps q (λ e. eqb-false p q parts.0 (sym e)) every.0, every_among p ps xs left parts.1 keeps every.1)

pub distinct_left : (ps xs : List ℕ) → Distinct ps → Every (λ p. among p xs ≡ true) ps → Left xs ps
distinct_left [] xs dist every = record { left = xs; same = permuted_same xs }
distinct_left (p ∷ ps) xs dist every =
    let r = removed p xs every.0 in
    let s = distinct_left ps r.left dist.1 (every_among p ps xs r.left dist.0 r.keeps every.1) in
    record { left = s.left; same = join (taken_first p r.taken) (keep p s.same) }

partners_among : (n : ℕ) (ps : List ℕ) → Every (Partner n) ps → Every (λ p. among p (numbers 1 n) ≡ true) ps
partners_among n [] every = tt
partners_among n (p ∷ ps) every =
    let some = every.0.some in
    let few = every.0.few in
    (among-numbers 1 n p some (omega arith), partners_among n ps every.1)

-- tokens chosen by numbers, none twice, and the tokens left
pub chosen_left : (ts : List Token) (ps : List ℕ) → Distinct ps → Every (Partner (length ts)) ps → Left ts (map (token_of ts) ps)
chosen_left ts ps dist every =
    let r = distinct_left ps (numbers 1 (length ts)) dist (partners_among (length ts) ps every) in
    let mapped = join (permuted_map (token_of ts) r.same) (permuted_equal (map-append (token_of ts) ps r.left)) in
    record { left = map (token_of ts) r.left; same = subst (λ l. Permuted l (map (token_of ts) ps ++ map (token_of ts) r.left)) (tokens_all ts) mapped }

-- ---- one number less
pub without_absent : (d : ℕ) (ds xs : List ℕ) → among d xs ≡ false → without (d ∷ ds) xs ≡ without ds xs
without_absent d ds [] absent = refl
without_absent d ds (x ∷ xs) absent =
    let parts = or_parts (eqb d x) (among d xs) absent in
    let other : eqb x d ≡ false = ne_eqb x d (λ e. eqb-false d x parts.0 (sym e)) in
    ap (λ t. cond (t || among x ds) (without (d ∷ ds) xs) (x ∷ without (d ∷ ds) xs)) other
    ∙ ap (λ l. cond (among x ds) l (x ∷ l)) (without_absent d ds xs parts.1)

pub taken_among : (d : ℕ) {xs ys : List ℕ} → Taken d xs ys → among d xs ≡ true
taken_among d (here x xs e) = among_first d x xs (sym e)
taken_among d (there x {xs} {ys} h) = among_later d x xs (taken_among d h)

pub taken_absent : (d q : ℕ) {xs ys : List ℕ} → Taken d xs ys → among q xs ≡ false → among q ys ≡ false
taken_absent d q (here x xs e) absent = (or_parts (eqb q x) (among q xs) absent).1
taken_absent d q (there x {xs} {ys} h) absent =
    let parts = or_parts (eqb q x) (among q xs) absent in
    or_from (eqb q x) (among q ys) parts.0 (taken_absent d q h parts.1)

pub taken_keeps : (d q : ℕ) {xs ys : List ℕ} → Taken d xs ys → among q ys ≡ true → among q xs ≡ true
taken_keeps d q (here x xs e) m = among_later q x xs m
taken_keeps d q (there x {xs} {ys} h) m = ⊎_elim (λ e. among_first q x xs e) (λ e. among_later q x xs (taken_keeps d q h e)) (among_cases q x ys m)

pub taken_distinct : (d : ℕ) {xs ys : List ℕ} → Taken d xs ys → Distinct xs → Distinct ys
taken_distinct d (here x xs e) dist = dist.1
taken_distinct d (there x h) dist = (taken_absent d x h dist.0, taken_distinct d h dist.1)

distinct_other : (d x : ℕ) (xs : List ℕ) → among x xs ≡ false → among d xs ≡ true → x ≡ d → ⊥
distinct_other d x xs absent m e = both_ways (among x xs) absent (subst (λ y. among y xs ≡ true) (sym e) m)

pub taken_gone : (d : ℕ) {xs ys : List ℕ} → Taken d xs ys → Distinct xs → among d ys ≡ false
taken_gone d (here x xs e) dist = subst (λ y. among y xs ≡ false) e dist.0
taken_gone d (there x {xs} {ys} h) dist =
    or_from (eqb d x) (among d ys) (ne_eqb d x (λ e. distinct_other d x xs dist.0 (taken_among d h) (sym e))) (taken_gone d h dist.1)

pub without_taken : (d : ℕ) (ds : List ℕ) {xs ys : List ℕ} → Taken d xs ys → Distinct xs → without (d ∷ ds) xs ≡ without ds ys
without_taken d ds (here x xs e) dist =
    ap (λ t. cond (t || among x ds) (without (d ∷ ds) xs) (x ∷ without (d ∷ ds) xs)) (eq-eqb x d e)
    ∙ without_absent d ds xs (subst (λ y. among y xs ≡ false) e dist.0)
without_taken d ds (there x {xs} {ys} h) dist =
    ap (λ t. cond (t || among x ds) (without (d ∷ ds) xs) (x ∷ without (d ∷ ds) xs)) (ne_eqb x d (distinct_other d x xs dist.0 (taken_among d h)))
    ∙ ap (λ l. cond (among x ds) l (x ∷ l)) (without_taken d ds h dist.1)

pub taken_every : (P : ℕ → Type 0) (d : ℕ) {xs ys : List ℕ} → Taken d xs ys → Every P xs → Every P ys
taken_every P d (here x xs e) every = every.1
taken_every P d (there x h) every = (every.0, taken_every P d h every.1)

pub taken_has : (P : ℕ → Type 0) (d : ℕ) {xs ys : List ℕ} → Taken d xs ys → Every P xs → P d
taken_has P d (here x xs e) every = subst P e every.0
taken_has P d (there x h) every = taken_has P d h every.1

pub without_every : (P : ℕ → Type 0) (gone xs : List ℕ) → Every P xs → Every P (without gone xs)
without_every P gone [] every = tt
without_every P gone (x ∷ xs) every =
    cond_both (among x gone) (without gone xs) (x ∷ without gone xs) (Every P) (λ _. without_every P gone xs every.1) (λ _. (every.0, without_every P gone xs every.1))

-- zero is no token's number
pub zero_absent : (n : ℕ) (ps : List ℕ) → Every (Partner n) ps → among 0 ps ≡ false
zero_absent n [] every = refl
zero_absent n (p ∷ ps) every = let some = every.0.some in or_from (eqb 0 p) (among 0 ps) (ne_eqb 0 p (λ e. omega arith)) (zero_absent n ps every.1)

-- ---- digits: 0, or a number
abbrev pub named : List ℕ → List ℕ
named [] = []
named (zero ∷ ds) = named ds
named (suc d ∷ ds) = suc d ∷ named ds

-- the numbers are, in some order, those that digits name and those that they do not
pub left_parted : (ds left : List ℕ) → Distinct left → among 0 left ≡ false → Distinct (named ds) → Every (λ d. among d left ≡ true) (named ds) → Permuted left (named ds ++ without ds left)
left_parted [] left dist no_zero own every = permuted_equal (sym (without_none left))
left_parted (zero ∷ ds) left dist no_zero own every =
    join (left_parted ds left dist no_zero own every) (permuted_equal (ap (λ l. named ds ++ l) (sym (without_absent 0 ds left no_zero))))
left_parted (suc d ∷ ds) left dist no_zero own every =
    let r = removed (suc d) left every.0 in
    let rest = left_parted ds r.left (taken_distinct (suc d) r.taken dist) (taken_absent (suc d) 0 r.taken no_zero) own.1 (every_among (suc d) (named ds) left r.left own.0 r.keeps every.1) in
    join (taken_first (suc d) r.taken) (keep (suc d) (join rest (permuted_equal (ap (λ l. named ds ++ l) (sym (without_taken (suc d) ds r.taken dist))))))

pub numbers_parted : (n : ℕ) (ds : List ℕ) → Distinct (named ds) → Every (Partner n) (named ds) → Permuted (numbers 1 n) (named ds ++ others ds 1 n)
numbers_parted n ds own every =
    join (left_parted ds (numbers 1 n) (distinct_numbers 1 n) (zero_absent n (numbers 1 n) (every_numbers 1 n n (omega arith) (omega arith))) own (partners_among n (named ds) every)) (permuted_equal (ap (λ l. named ds ++ l) (sym (others-without ds 1 n))))

named_absent : (d : ℕ) (ds : List ℕ) → among d ds ≡ false → among d (named ds) ≡ false
named_absent d [] absent = refl
named_absent d (zero ∷ ds) absent = named_absent d ds (or_parts (eqb d 0) (among d ds) absent).1
named_absent d (suc e ∷ ds) absent =
    let parts = or_parts (eqb d (suc e)) (among d ds) absent in
    or_from (eqb d (suc e)) (among d (named ds)) parts.0 (named_absent d ds parts.1)

-- a matching names no token twice, and tokens of the zone alone
matched_token : (places : List ℕ) (d : ℕ) (place : ℕ) (ds : List ℕ) → ((suc d == 0) || (stands places (suc d) place && not (among (suc d) ds))) ≡ true → Partner (length places) (suc d) × (among (suc d) ds ≡ false)
matched_token places d place ds h =
    ⊎_elim
    (λ none. let e = eqb-true (suc d) 0 none in absurd (omega (arith, e)))
    (λ is.
    let both = and_parts (stands places (suc d) place) (not (among (suc d) ds)) is in
    let inside = and_parts (leb 1 (suc d)) (leb (suc d) (length places)) (and_parts _ (eqb (numbered places (suc d) 0) place) both.0).0 in
    (record { some = omega arith; few = leb-true (suc d) (length places) inside.1 }, not-true _ both.1))
    (or_cases (eqb (suc d) 0) _ h)

pub matches_named : {B : Type 0} (places : List ℕ) (arcs : List (Arc B)) (ds : List ℕ) → matches places arcs ds ≡ true → Distinct (named ds) × Every (Partner (length places)) (named ds)
matches_named places [] [] h = (tt, tt)
matches_named places [] (d ∷ ds) h = absurd (false≢true h)
matches_named places (a ∷ arcs) [] h = absurd (false≢true h)
matches_named places (a ∷ arcs) (zero ∷ ds) h =
    matches_named places arcs ds (and_parts ((0 == 0) || (stands places 0 a.place && not (among 0 ds))) (matches places arcs ds) h).1
matches_named places (a ∷ arcs) (suc d ∷ ds) h =
    let both = and_parts _ (matches places arcs ds) h in
    let first = matched_token places d a.place ds both.0 in
    let later = matches_named places arcs ds both.1 in
    ((named_absent (suc d) ds first.1, later.0), (first.0, later.1))

-- so the tokens of a zone are, in some order, those that a matching names and those that stay
pub matching_parts : {B : Type 0} (places : List ℕ) (arcs : List (Arc B)) (ds : List ℕ) → matches places arcs ds ≡ true → Permuted (numbers 1 (length places)) (named ds ++ others ds 1 (length places))
matching_parts places arcs ds h = let of = matches_named places arcs ds h in numbers_parted (length places) ds of.0 of.1
