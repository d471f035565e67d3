-- Which tokens of a zone a firing put there.
use Rattle.std.proofs.Common.{◌≡◌, ℕ, ◌≤◌, true, false, eqb, ◌⊎◌, List, [], ◌∷◌, ◌++◌, map, length, ℤ, pos, sym, refl, ap, ◌∙◌, subst, inl, inr, ⊎_elim, arith}
use Rattle.std.proofs.lemmas.Bool.{eq-eqb, ne_eqb, le-leb, and_from, or_from, or_right, not_from_false, both_ways}
use Rattle.bounds.specs.Kinds.{Kind}
use Rattle.bounds.specs.Ranges.{holds}
use Rattle.nets.specs.Markings.{Token, Marking, Permuted, FitsAll}
use Rattle.nets.specs.Nets.{Arc, Every}
use Rattle.nets.proofs.Bags.{permuted_back}
use Rattle.zones.specs.Predecessors.{among, stands, matches}
use Rattle.zones.specs.Vouching.{Distinct, Partner}
use Rattle.zones.specs.Zones.{age_of}
use Rattle.zones.proofs.Bags.{Taken, Without, InFront, Behind, taken_back, taken_append, taken_map}
use Rattle.zones.proofs.Bags.Taken.{here}
use Rattle.zones.proofs.Chosen.{token_of, age_token, place_token, without, without_none, without_absent, without_taken, taken_among, taken_keeps, taken_distinct, taken_gone, taken_every, taken_has, zero_absent}

-- every matched token has an age in its arc's range
abbrev pub Matched : {B : Type 0} → Kind B → ℕ → (ℕ → ℤ) → List (Arc B) → List ℕ → Type 0
Matched kind k age [] ds = Unit {0}
Matched kind k age (a ∷ arcs) [] = Unit {0}
Matched kind k age (a ∷ arcs) (d ∷ ds) = ((d ≡ 0) ⊎ (holds kind k a.range (age d) ≡ true)) × Matched kind k age arcs ds

-- zero, or one of the numbers
abbrev pub Inside : List ℕ → ℕ → Type 0
Inside left d = (d ≡ 0) ⊎ (among d left ≡ true)

-- every digit that is not 0 is the number of the token that its arc added
abbrev pub Added : List Token → List Token → List ℕ → Type 0
Added ts [] ds = Unit {0}
Added ts (t ∷ added) [] = Unit {0}
Added ts (t ∷ added) (d ∷ ds) = ((d ≡ 0) ⊎ (token_of ts d ≡ t)) × Added ts added ds

-- and so has an age in its arc's range
pub added_matched : {B : Type 0} (kind : Kind B) (k : ℕ) (ts : List Token) (arcs : List (Arc B)) (added : List Token) (ds : List ℕ) → FitsAll kind k arcs added → Added ts added ds → Matched kind k (age_of ts) arcs ds
added_matched kind k ts [] added ds fits is = tt
added_matched kind k ts (a ∷ arcs) [] ds fits is = absurd fits
added_matched kind k ts (a ∷ arcs) (t ∷ added) [] fits is = tt
added_matched kind k ts (a ∷ arcs) (t ∷ added) (d ∷ ds) fits is =
    (⊎_elim (λ none. inl none) (λ same. inr (ap (holds kind k a.range) (age_token ts d ∙ ap (λ u. pos u.age) same) ∙ fits.0.age)) is.0, added_matched kind k ts arcs added ds fits.1 is.1)

-- A matching of the arcs, which added these tokens, with tokens that are left, such that the unmatched ones are in the marking.
pub record Found {B : Type 0} (ts : List Token) (arcs : List (Arc B)) (added : List Token) (left : List ℕ) (m : Marking) : Type 0 where
  pub digits : List ℕ
  pub is : matches (map (λ t. t.place) ts) arcs digits ≡ true
  pub inside : Every (Inside left) digits
  pub placed : Added ts added digits
  pub rest : Marking
  pub same : Permuted m (map (token_of ts) (without digits left) ++ rest)

inside_absent : (d : ℕ) (left ds : List ℕ) → 1 ≤ d → among d left ≡ false → Every (Inside left) ds → among d ds ≡ false
inside_absent d left [] some absent every = refl
inside_absent d left (e ∷ ds) some absent every = or_from (eqb d e) (among d ds) (ne_eqb d e apart) (inside_absent d left ds some absent every.1)
  where
    apart : d ≡ e → ⊥
    apart same = ⊎_elim (λ z. omega arith) (λ m. both_ways (among d left) absent (subst (λ y. among y left ≡ true) (sym same) m)) every.0

inside_more : (d : ℕ) (left less ds : List ℕ) → Taken d left less → Every (Inside less) ds → Every (Inside left) ds
inside_more d left less [] taken every = tt
inside_more d left less (e ∷ ds) taken every = (⊎_elim (λ z. inl z) (λ m. inr (taken_keeps d e taken m)) every.0, inside_more d left less ds taken every.1)

module _ {B : Type 0} (kind : Kind B) (k : ℕ) (ts : List Token) where
  -- the first arc's token is none of the zone's
  found_other : (a : Arc B) (arcs : List (Arc B)) (t : Token) (added : List Token) (left : List ℕ) (m : Marking) → Every (Partner (length (map (λ t. t.place) ts))) left → Found ts arcs added left m → Found ts (a ∷ arcs) (t ∷ added) left m
  found_other a arcs t added left m partners f =
      record {
        digits = 0 ∷ f.digits;
        is = f.is;
        inside = (inl refl, f.inside);
        placed = (inl refl, f.placed);
        rest = f.rest;
        same = subst (λ l. Permuted m (map (token_of ts) l ++ f.rest)) (sym (without_absent 0 f.digits left (zero_absent _ left partners))) f.same;
      }

  -- it is the zone's token d
  found_token : (a : Arc B) (arcs : List (Arc B)) (t : Token) (added : List Token) (d : ℕ) (left less : List ℕ) (m : Marking) → Every (Partner (length (map (λ t. t.place) ts))) left → Distinct left → Taken d left less → t.place ≡ a.place → token_of ts d ≡ t → Found ts arcs added less m → Found ts (a ∷ arcs) (t ∷ added) left m
  found_token a arcs t added d left less m partners dist taken place same f =
      record {
        digits = d ∷ f.digits;
        is = and_from _ (matches (map (λ t. t.place) ts) arcs f.digits) (or_right (eqb d 0) _ (and_from (stands (map (λ t. t.place) ts) d a.place) _ standing (not_from_false _ (inside_absent d less f.digits part.some (taken_gone d taken dist) f.inside)))) f.is;
        inside = (inr (taken_among d taken), inside_more d left less f.digits taken f.inside);
        placed = (inr same, f.placed);
        rest = f.rest;
        same = subst (λ l. Permuted m (map (token_of ts) l ++ f.rest)) (sym (without_taken d f.digits taken dist)) f.same;
      }
    where
      part : Partner (length (map (λ t. t.place) ts)) d
      part = taken_has (Partner (length (map (λ t. t.place) ts))) d taken partners

      standing : stands (map (λ t. t.place) ts) d a.place ≡ true
      standing = and_from _ _ (and_from _ _ (le-leb _ _ part.some) (le-leb _ _ part.few)) (eq-eqb _ _ (sym (place_token ts d) ∙ ap (λ u. u.place) same ∙ place))

  pub found : (arcs : List (Arc B)) (added : List Token) (left : List ℕ) (r m : Marking) → FitsAll kind k arcs added → Distinct left → Every (Partner (length (map (λ t. t.place) ts))) left → Permuted (map (token_of ts) left ++ r) (added ++ m) → Found ts arcs added left m
  found [] [] left r m fits dist partners p =
      record { digits = []; is = refl; inside = tt; placed = tt; rest = r; same = subst (λ l. Permuted m (map (token_of ts) l ++ r)) (sym (without_none left)) (permuted_back p) }
  found [] (t ∷ added) left r m fits dist partners p = absurd fits
  found (a ∷ arcs) [] left r m fits dist partners p = absurd fits
  found (a ∷ arcs) (t ∷ added) left r m fits dist partners p =
      go (λ left r d e q. found arcs added left r m fits.1 d e q) (taken_back t p (here t (added ++ m) refl))
    where
      Rest : Type 0
      Rest = (left : List ℕ) (r : Marking) → Distinct left → Every (Partner (length (map (λ t. t.place) ts))) left → Permuted (map (token_of ts) left ++ r) (added ++ m) → Found ts arcs added left m

      front : Rest → (w : List Token) → Permuted w (added ++ m) → InFront t (map (token_of ts) left) r w → Found ts (a ∷ arcs) (t ∷ added) left m
      front rec w same f =
          let o = taken_map (token_of ts) t left f.left f.taken in
          let here = subst (λ l. Permuted l (added ++ m)) f.is same in
          let there = subst (λ l. Permuted (l ++ r) (added ++ m)) o.left_is here in
          found_token a arcs t added o.element left o.left m partners dist o.taken fits.0.place o.element_is (rec o.left r (taken_distinct o.element o.taken dist) (taken_every _ o.element o.taken partners) there)

      behind : Rest → (w : List Token) → Permuted w (added ++ m) → Behind t (map (token_of ts) left) r w → Found ts (a ∷ arcs) (t ∷ added) left m
      behind rec w same f = found_other a arcs t added left m partners (rec left f.left dist partners (subst (λ l. Permuted l (added ++ m)) f.is same))

      go : Rest → Without t (map (token_of ts) left ++ r) (added ++ m) → Found ts (a ∷ arcs) (t ∷ added) left m
      go rec w = ⊎_elim (front rec w.left w.same) (behind rec w.left w.same) (taken_append t (map (token_of ts) left) r w.left w.taken)
