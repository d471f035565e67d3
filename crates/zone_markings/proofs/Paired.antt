-- Pairing by number is what satisfies a zone.
use Rattle.std.proofs.Common.{◌≡◌, ℕ, suc, ◌<◌, ◌≤◌, Bool, true, List, [], ◌∷◌, ◌++◌, map, length, get_or, pos, ◌-ℤ◌, sym, refl, ap, ◌∙◌, subst, arith}
use Rattle.std.proofs.lemmas.List.{length-append, length-map}
use Rattle.bounds.specs.Kinds.{Kind}
use Rattle.zone_markings.specs.Initial.{token_at}
use Rattle.zone_markings.specs.Pairings.{by_ages, extends}
use Rattle.zone_markings.proofs.Numbers.{distinct_front, every_front, permuted_length, permuted_distinct, permuted_every}
use Rattle.zone_markings.proofs.Completions.{Meet, Completion, finds, found}
use Rattle.nets.specs.Markings.{Marking, Permuted}
use Rattle.nets.specs.Nets.{Every}
use Rattle.zones.specs.Vouching.{Partner}
use Rattle.zones.specs.Zones.{Zone, Satisfies, age_of}
use Rattle.zones.proofs.Bags.{Front, front_unmapped}
use Rattle.zones.proofs.Between.{Between, from_counted, to_counted}
use Rattle.zones.proofs.Chosen.{token_of, age_token, age_chosen, numbers, tokens_all, distinct_numbers, every_numbers, zero_absent, Left, chosen_left}
use Rattle.zones.proofs.Forms.{chosen_count}

module _ {B : Type 0} (kind : Kind B) (z : Zone B) (m : Marking) where
  -- a pairing by number, the clock's 0 first
  abbrev pub Pairing : Type 0
  Pairing = Completion (by_ages kind z.bound m) (0 ∷ []) z.places

  -- the ages of the numbers are those of the chosen tokens
  age : (ps : List ℕ) (j : ℕ) → j < suc (length ps) → age_of (map (token_of m) ps) j ≡ pos (token_at m (get_or (0 ∷ ps) j 0)).age
  age ps j h = age_chosen m ps j h ∙ age_token m (get_or (0 ∷ ps) j 0)

  -- and so are their places
  stand : (ps : List ℕ) → map (λ t. t.place) (map (token_of m) ps) ≡ map (λ n. (token_at m n).place) ps
  stand [] = refl
  stand (p ∷ ps) = ap (λ xs. (token_at m p).place ∷ xs) (stand ps)

  meets_ages : (ps : List ℕ) → Meet (by_ages kind z.bound m) (0 ∷ ps) → Between kind 1 (suc (length ps)) z.bound (age_of (map (token_of m) ps))
  meets_ages ps meet j i p q apart =
      ap (λ x. kind.allows 1 (z.bound j i) (x -ℤ age_of (map (token_of m) ps) i)) (age ps j p) ∙ ap (λ x. kind.allows 1 (z.bound j i) (pos (token_at m (get_or (0 ∷ ps) j 0)).age -ℤ x)) (age ps i q) ∙ meet j i p q apart

  ages_meet : (ps : List ℕ) → Between kind 1 (suc (length ps)) z.bound (age_of (map (token_of m) ps)) → Meet (by_ages kind z.bound m) (0 ∷ ps)
  ages_meet ps between j i p q apart =
      ap (λ x. kind.allows 1 (z.bound j i) (x -ℤ pos (token_at m (get_or (0 ∷ ps) i 0)).age)) (sym (age ps j p)) ∙ ap (λ x. kind.allows 1 (z.bound j i) (age_of (map (token_of m) ps) j -ℤ x)) (sym (age ps i q)) ∙ between j i p q apart

  pub satisfied : Pairing → Satisfies kind 1 z m
  satisfied c =
      record {
        chosen = map (token_of m) c.more;
        rest = l.left;
        pairing = l.same;
        places = stand c.more ∙ c.standing;
        allowed = to_counted kind 1 (omega arith) (suc (length z.places)) z.bound (map (token_of m) c.more) (subst (λ n. Between kind 1 (suc n) z.bound (age_of (map (token_of m) c.more))) count (meets_ages c.more c.meet));
      }
    where
      l : Left m (map (token_of m) c.more)
      l = chosen_left m c.more c.distinct.1 c.partners

      count : length c.more ≡ length z.places
      count = sym (length-map c.more (token_of m)) ∙ sym (length-map (map (token_of m) c.more) (λ t. t.place)) ∙ ap length (stand c.more ∙ c.standing)

  pub paired : Satisfies kind 1 z m → Pairing
  paired s =
      record {
        more = f.front;
        standing = sym (stand f.front) ∙ ap (map (λ t. t.place)) (sym f.is) ∙ s.places;
        partners = partners;
        distinct = (zero_absent (length m) f.front partners, distinct_front f.front f.back (permuted_distinct f.same (distinct_numbers 1 (length m))));
        meet = ages_meet f.front (subst (λ ts. Between kind 1 (suc (length f.front)) z.bound (age_of ts)) f.is between);
      }
    where
      f : Front (token_of m) (numbers 1 (length m)) s.chosen
      f = front_unmapped (token_of m) (numbers 1 (length m)) s.chosen s.rest (subst (λ ts. Permuted ts (s.chosen ++ s.rest)) (sym (tokens_all m)) s.pairing)

      partners : Every (Partner (length m)) f.front
      partners = every_front (Partner (length m)) f.front f.back (permuted_every (Partner (length m)) f.same (every_numbers 1 (length m) (length m) (omega arith) (omega arith)))

      count : length z.places ≡ length f.front
      count = sym (chosen_count kind 1 (omega arith) z m s) ∙ ap length f.is ∙ length-map f.front (token_of m)

      between : Between kind 1 (suc (length f.front)) z.bound (age_of s.chosen)
      between = subst (λ n. Between kind 1 (suc n) z.bound (age_of s.chosen)) count (from_counted kind 1 (omega arith) (suc (length z.places)) z.bound (age_of s.chosen) s.allowed)

  -- a zone has no more tokens than a marking that satisfies it
  pub enough : Satisfies kind 1 z m → length z.places ≤ length m
  enough s = omega (arith, permuted_length s.pairing, length-append s.chosen s.rest, chosen_count kind 1 (omega arith) z m s)

  pub decided : (r : Bool) → r ≡ extends (by_ages kind z.bound m) (0 ∷ []) z.places → (r ≡ true → Satisfies kind 1 z m) × (Satisfies kind 1 z m → r ≡ true)
  decided r is = (
    λ h. satisfied (finds (by_ages kind z.bound m) z.places (0 ∷ []) (sym is ∙ h) (refl, tt) (λ j i p q apart. absurd (omega (arith, p, q, apart)))),
    λ s. let c = paired s in is ∙ found (by_ages kind z.bound m) z.places (0 ∷ []) c.more c.standing c.partners c.distinct c.meet,
  )
