-- What a firing's predecessors mean for markings.
use Rattle.std.proofs.Common.{◌≡◌, ℕ, zero, suc, ◌+◌, ◌<◌, ◌≤◌, true, List, [], ◌∷◌, ◌++◌, map, length, get_or, ℤ, pos, ◌-ℤ◌, sym, refl, ap, ◌∙◌, subst, arith}
use Rattle.std.proofs.lemmas.List.{append_assoc, length-map, length-append, get_or_append_left, get_or-append-add, map-append}
use Rattle.bounds.specs.Kinds.{Kind}
use Rattle.bounds.specs.Ranges.{holds}
use Rattle.nets.specs.Markings.{Token, Marking, Permuted, FitsAll}
use Rattle.nets.specs.Markings.Permuted.{join}
use Rattle.nets.specs.Nets.{Arc, Transition, Every, numbered}
use Rattle.nets.specs.Runs.{Fired}
use Rattle.nets.proofs.Bags.{permuted_equal, permuted_back, permuted_before, permuted_after, permuted_turned}
use Rattle.zone_walks.specs.Walks.{Matrix, counted, AgesAllowed}
use Rattle.zone_walks.proofs.NormalForms.{to_form, none_allowed}
use Rattle.zones.specs.Predecessors.{FiringPredecessor, matches, narrowed_by, picked, with_tokens, staying, places_at}
use Rattle.zones.specs.Safety.{CameBy}
use Rattle.zones.specs.Vouching.{Partner}
use Rattle.zones.specs.Zones.{Zone, Satisfies, points, age_of, no_token}
use Rattle.zones.proofs.Between.{from_counted, from_allowed, to_counted}
use Rattle.zones.proofs.Chosen.{token_of, age_chosen, places_chosen, numbers, without, others-without, tokens_all, distinct_numbers, every_numbers, every_getD, without_every}
use Rattle.zones.proofs.Matchings.{Found, added_matched, found}
use Rattle.zones.proofs.Narrowings.{Aged, narrowed_by_allows, with_tokens_allows}
use Rattle.zones.proofs.Forms.{form_allows, chosen_count}

module _ {B : Type 0} (kind : Kind B) (k : ℕ) (grid : 1 ≤ k) where
  fits_places : (arcs : List (Arc B)) (ts : List Token) → FitsAll kind k arcs ts → map (λ t. t.place) ts ≡ map (λ a. a.place) arcs
  fits_places [] [] fits = refl
  fits_places [] (t ∷ ts) fits = absurd fits
  fits_places (a ∷ arcs) [] fits = absurd fits
  fits_places (a ∷ arcs) (t ∷ ts) fits =
      ap (λ p. p ∷ map (λ u. u.place) ts) fits.0.place ∙ ap (λ l. a.place ∷ l) (fits_places arcs ts fits.1)

  fits_ages : (age : ℕ → ℤ) (n : ℕ) (arcs : List (Arc B)) (ts : List Token) → ((i : ℕ) → i < length ts → age (n + i) ≡ pos (get_or ts i no_token).age) → FitsAll kind k arcs ts → Aged kind k age n arcs
  fits_ages age n [] [] ages fits = tt
  fits_ages age n [] (t ∷ ts) ages fits = absurd fits
  fits_ages age n (a ∷ arcs) [] ages fits = absurd fits
  fits_ages age n (a ∷ arcs) (t ∷ ts) ages fits =
      let start : n ≡ n + 0 = omega arith in
      let first : age n ≡ pos t.age = ap age start ∙ ages 0 (omega arith) in
      (subst (λ z. holds kind k a.range z ≡ true) (sym first) fits.0.age, fits_ages age (suc n) arcs ts (λ i h. let e : suc n + i ≡ n + suc i = omega arith in ap age e ∙ ages (suc i) (omega arith)) fits.1)

  -- the tokens that stay, and the removed ones
  module _ (z : Zone B) (ts removed : List Token) (stay : List ℕ) (places : map (λ t. t.place) ts ≡ z.places) (partners : Every (Partner (length z.places)) stay) (arcs : List (Arc B)) (fits : FitsAll kind k arcs removed) where
    abbrev before_age : ℕ → ℤ
    before_age = age_of (map (token_of ts) stay ++ removed)

    stay_age : (j : ℕ) → j < suc (length stay) → before_age j ≡ age_of ts (get_or (0 ∷ stay) j 0)
    stay_age zero h = refl
    stay_age (suc j) h =
        let count = length-map stay (token_of ts) in
        ap (λ t. pos t.age) (get_or_append_left (map (token_of ts) stay) removed no_token j (omega arith)) ∙ age_chosen ts stay (suc j) h

    stay_inside : (j : ℕ) → j < suc (length stay) → get_or (0 ∷ stay) j 0 < points z
    stay_inside zero h = omega arith
    stay_inside (suc j) h = let few = (every_getD (Partner (length z.places)) stay partners j (omega arith)).few in omega arith

    removed_age : (i : ℕ) → i < length removed → before_age (suc (length stay) + i) ≡ pos (get_or removed i no_token).age
    removed_age i h =
        let count = length-map stay (token_of ts) in
        let at : suc (length stay) + i ≡ suc (length (map (token_of ts) stay) + i) = omega arith in
        ap before_age at ∙ ap (λ t. pos t.age) (get_or-append-add (map (token_of ts) stay) removed i no_token)

    before_allows : (narrow : Matrix B) → AgesAllowed kind k (points z) narrow (age_of ts) → AgesAllowed kind k (suc (length stay) + length arcs) (with_tokens kind (suc (length stay)) arcs (picked (0 ∷ stay) narrow)) before_age
    before_allows narrow allowed = with_tokens_allows kind k grid before_age refl (suc (length stay)) arcs (picked (0 ∷ stay) narrow) (fits_ages before_age (suc (length stay)) arcs removed removed_age fits) kept
      where
        kept : AgesAllowed kind k (suc (length stay)) (picked (0 ∷ stay) narrow) before_age
        kept j i p q =
            ap (λ y. kind.allows k (picked (0 ∷ stay) narrow j i) (y -ℤ before_age i)) (stay_age j p)
            ∙ ap (λ y. kind.allows k (picked (0 ∷ stay) narrow j i) (age_of ts (get_or (0 ∷ stay) j 0) -ℤ y)) (stay_age i q)
            ∙ allowed (get_or (0 ∷ stay) j 0) (get_or (0 ∷ stay) i 0) (stay_inside j p) (stay_inside i q)

    before_places : map (λ t. t.place) (map (token_of ts) stay ++ removed) ≡ places_at stay z ++ map (λ a. a.place) arcs
    before_places =
        map-append (λ t. t.place) (map (token_of ts) stay) removed
        ∙ ap (λ l. l ++ map (λ t. t.place) removed) (places_chosen ts stay ∙ ap (λ ps. map (λ i. numbered ps i 0) stay) places)
        ∙ ap (λ l. places_at stay z ++ l) (fits_places arcs removed fits)

    before_points : length (places_at stay z ++ map (λ a. a.place) arcs) ≡ length stay + length arcs
    before_points =
        let first = length-map stay (λ i. numbered z.places i 0) in
        let last = length-map arcs (λ a. a.place) in
        let both = length-append (places_at stay z) (map (λ a. a.place) arcs) in
        omega arith

  came_found : (t : Transition B) (z : Zone B) (m n : Marking) (f : Fired kind k t m n) (s : Satisfies kind k z n) → Found s.chosen t.outputs f.added (numbers 1 (length s.chosen)) f.rest
  came_found t z m n f s =
      let both = join (permuted_back s.pairing) f.after in
      let count = length-map s.chosen (λ u. u.place) in
      found kind k s.chosen t.outputs f.added (numbers 1 (length s.chosen)) s.rest f.rest f.puts (distinct_numbers 1 (length s.chosen)) (every_numbers 1 (length s.chosen) _ (omega arith) (omega arith))
      (subst (λ l. Permuted (l ++ s.rest) (f.added ++ f.rest)) (sym (tokens_all s.chosen)) both)

  pub firing_came : (t : Transition B) (z : Zone B) (m n : Marking) → Fired kind k t m n → Satisfies kind k z n → CameBy kind k t z m
  firing_came t z m n f s =
      record {
        matching = g.digits;
        is = subst (λ ps. matches ps t.outputs g.digits ≡ true) s.places g.is;
        possible = λ void. none_allowed kind (points z) k _ (age_of s.chosen) grid void narrowed;
        before = before;
      }
    where
      ts : List Token
      ts = s.chosen

      g : Found s.chosen t.outputs f.added (numbers 1 (length s.chosen)) f.rest
      g = came_found t z m n f s

      stay : List ℕ
      stay = staying g.digits z

      narrowed : AgesAllowed kind k (points z) (counted kind (narrowed_by kind t.outputs g.digits z.bound)) (age_of s.chosen)
      narrowed = to_counted kind k grid (points z) (narrowed_by kind t.outputs g.digits z.bound) s.chosen (narrowed_by_allows kind k grid (age_of s.chosen) refl (points z) t.outputs g.digits z.bound (added_matched kind k ts t.outputs f.added g.digits f.puts g.placed) (from_counted kind k grid (points z) z.bound (age_of s.chosen) s.allowed))

      kept_is : without g.digits (numbers 1 (length s.chosen)) ≡ stay
      kept_is = ap (λ c. without g.digits (numbers 1 c)) (chosen_count kind k grid z n s) ∙ sym (others-without g.digits 1 (length z.places))

      partners : Every (Partner (length z.places)) stay
      partners = subst (Every (Partner (length z.places))) (sym (others-without g.digits 1 (length z.places))) (without_every (Partner (length z.places)) g.digits (numbers 1 (length z.places)) (every_numbers 1 (length z.places) (length z.places) (omega arith) (omega arith)))

      same : Permuted f.rest (map (token_of ts) stay ++ g.rest)
      same = subst (λ l. Permuted f.rest (map (token_of ts) l ++ g.rest)) kept_is g.same

      chosen : List Token
      chosen = map (token_of ts) stay ++ f.removed

      pairing : Permuted m (chosen ++ g.rest)
      pairing =
          join f.before (join (permuted_after f.removed same) (join (permuted_equal (sym (append_assoc f.removed (map (token_of ts) stay) g.rest))) (permuted_before g.rest (permuted_turned f.removed (map (token_of ts) stay)))))

      before : (p : Zone B) → FiringPredecessor kind t g.digits z p → Satisfies kind k p m
      before p is =
          let narrow = to_form kind (points z) k _ is.narrow (age_of ts) grid is.narrows narrowed in
          let added : Matrix B = with_tokens kind (suc (length stay)) t.inputs (picked (0 ∷ stay) is.narrow) in
          let given = before_allows z ts f.removed stay s.places partners t.inputs f.takes is.narrow narrow in
          let size : length p.places ≡ length stay + length t.inputs = ap length is.places ∙ before_points z ts f.removed stay s.places partners t.inputs f.takes in
          let count : suc (length stay) + length t.inputs ≡ points p = omega (arith, size) in
          let all : AgesAllowed kind k (points p) added (age_of chosen) = subst (λ c. AgesAllowed kind k c added (age_of chosen)) count given in
          record {
            chosen = chosen;
            rest = g.rest;
            pairing = pairing;
            places = before_places z ts f.removed stay s.places partners t.inputs f.takes ∙ sym is.places;
            allowed = form_allows kind k grid (points p) added p.bound chosen is.bounds (from_allowed kind k grid (points p) added (age_of chosen) all);
          }
