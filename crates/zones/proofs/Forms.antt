-- A marking satisfies a zone as it satisfies the zone's normal form.
use Rattle.std.proofs.Common.{◌≡◌, ℕ, suc, ◌≤◌, List, length, sym, ap, ◌∙◌, subst, arith}
use Rattle.std.proofs.lemmas.List.{length-map}
use Rattle.bounds.specs.Kinds.{Kind, largest_size}
use Rattle.nets.specs.Markings.{Token, Marking, Permuted}
use Rattle.nets.specs.Markings.Permuted.{join}
use Rattle.zone_walks.specs.Walks.{Matrix, counted, NormalForm, AgesAllowed}
use Rattle.zone_walks.proofs.Again.{counted_sized}
use Rattle.zone_walks.proofs.NormalForms.{to_form, none_allowed, normal_below}
use Rattle.zones.specs.Zones.{Zone, Satisfies, Inconsistent, NormalOf, SizedZone, points, age_of}
use Rattle.zones.proofs.Between.{Between, from_counted, from_allowed, to_counted, counted_below}

module _ {B : Type 0} (kind : Kind B) (k : ℕ) (grid : 1 ≤ k) where
  pub satisfied_from : (z : Zone B) (m n : Marking) → Permuted m n → Satisfies kind k z n → Satisfies kind k z m
  satisfied_from z m n p s = record { chosen = s.chosen; rest = s.rest; pairing = join p s.pairing; places = s.places; allowed = s.allowed }

  -- ages that meet bounds meet their normal form
  pub form_allows : (n : ℕ) (x y : Matrix B) (ts : List Token) → NormalForm kind n (counted kind x) y → Between kind k n x (age_of ts) → AgesAllowed kind k n (counted kind y) (age_of ts)
  form_allows n x y ts form between =
      to_counted kind k grid n y ts (from_allowed kind k grid n y (age_of ts) (to_form kind n k (counted kind x) y (age_of ts) grid form (to_counted kind k grid n x ts between)))

  pub form_satisfied : (z y : Zone B) (m : Marking) → NormalOf kind z y → Satisfies kind k z m → Satisfies kind k y m
  form_satisfied z y m form s =
      record {
        chosen = s.chosen;
        rest = s.rest;
        pairing = s.pairing;
        places = s.places ∙ sym form.places;
        allowed = subst (λ l. AgesAllowed kind k (suc (length l)) (counted kind y.bound) (age_of s.chosen)) (sym form.places) (form_allows (points z) z.bound y.bound s.chosen form.bounds (from_counted kind k grid (points z) z.bound (age_of s.chosen) s.allowed));
      }

  pub form_satisfies : (z y : Zone B) (m : Marking) → SizedZone kind largest_size z → NormalOf kind z y → Satisfies kind k y m → Satisfies kind k z m
  form_satisfies z y m small form s =
      record {
        chosen = s.chosen;
        rest = s.rest;
        pairing = s.pairing;
        places = s.places ∙ form.places;
        allowed = to_counted kind k grid (points z) z.bound s.chosen between;
      }
    where
      given : Between kind k (points z) y.bound (age_of s.chosen)
      given = subst (λ l. Between kind k (suc (length l)) y.bound (age_of s.chosen)) form.places (from_counted kind k grid (points y) y.bound (age_of s.chosen) s.allowed)

      between : Between kind k (points z) z.bound (age_of s.chosen)
      between j i p q apart =
          let below = normal_below kind (points z) largest_size (counted kind z.bound) y.bound (omega arith) (counted_sized kind (points z) largest_size z.bound small) form.bounds j i p q in
          let under = kind.transitive _ _ _ below (counted_below kind z.bound j i apart) in
          kind.larger_allows k (y.bound j i) (z.bound j i) _ grid under (given j i p q apart)

  pub none_satisfies : (z : Zone B) (m : Marking) → Inconsistent kind z → Satisfies kind k z m → ⊥
  none_satisfies z m negative s = none_allowed kind (points z) k (counted kind z.bound) (age_of s.chosen) grid negative s.allowed

  -- a token for each of the zone's
  pub chosen_count : (z : Zone B) (m : Marking) (s : Satisfies kind k z m) → length s.chosen ≡ length z.places
  chosen_count z m s = sym (length-map s.chosen (λ t. t.place)) ∙ ap length s.places
