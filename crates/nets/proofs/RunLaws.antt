-- The laws of runs, over every kind and net.
use Rattle.std.proofs.Common.{◌≡◌, ℕ, zero, suc, ◌*◌, ◌≤◌, ◌&&◌, List, [], ◌∷◌, ◌++◌, pos, ◌*ℤ◌, neg_ℤ, sym, refl, ap, ◌∙◌, subst, mul-zero, mul-add, arith}
use borrow.Author.Differences.{ints}
use mathlib.Core.List.{map-append}
use Rattle.bounds.specs.Kinds.{Kind}
use Rattle.bounds.specs.Ranges.{holds}
use Rattle.bounds.specs.declared.range.Range.{Range}
use Rattle.nets.specs.Markings.{Token, Marking, Permuted, older, aged, finer, refined, Fits, FitsAll}
use Rattle.nets.specs.Markings.Permuted.{join}
use Rattle.nets.specs.Nets.{Arc, Net, Transition, no_transition, transition_of}
use Rattle.nets.specs.Runs.{Delayed, Fired, Run, RunLaws}
use Rattle.nets.specs.Runs.Run.{stay, delay, fire}
use Rattle.nets.proofs.Bags.{permuted_same, permuted_equal, permuted_back, permuted_map}

-- ---- the order of a marking's tokens does not matter
pub delayed_from : (d : ℕ) {m n o : Marking} → Permuted m n → Delayed d n o → Delayed d m o
delayed_from d p q = join (permuted_map (older d) p) q

module _ {B : Type 0} {kind : Kind B} {k : ℕ} where
  pub fired_from : {t : Transition B} {m n o : Marking} → Permuted m n → Fired kind k t n o → Fired kind k t m o
  fired_from p f =
      record { removed = f.removed; added = f.added; rest = f.rest; before = join p f.before; after = f.after; takes = f.takes; puts = f.puts }

  pub fired_to : {t : Transition B} {m n o : Marking} → Fired kind k t m n → Permuted n o → Fired kind k t m o
  fired_to f p =
      record { removed = f.removed; added = f.added; rest = f.rest; before = f.before; after = join (permuted_back p) f.after; takes = f.takes; puts = f.puts }

  pub run_from : {net : Net B} {m n o : Marking} → Permuted m n → Run kind k net n o → Run kind k net m o
  run_from p (stay q) = stay (join p q)
  run_from p (delay d q r) = delay d (delayed_from d p q) r
  run_from p (fire t first last f r) = fire t first last (fired_from p f) r

  pub run_after : {net : Net B} {m n o : Marking} → Run kind k net m n → Run kind k net n o → Run kind k net m o
  run_after (stay p) s = run_from p s
  run_after (delay d p r) s = delay d p (run_after r s)
  run_after (fire t first last f r) s = fire t first last f (run_after r s)

  pub run_to : {net : Net B} {m n o : Marking} → Run kind k net m n → Permuted n o → Run kind k net m o
  run_to r p = run_after r (stay p)

-- ---- a transition without arcs
module _ {B : Type 0} (kind : Kind B) (k : ℕ) where
  no_tokens : (ts : List Token) → FitsAll kind k [] ts → ts ≡ []
  no_tokens [] fits = refl
  no_tokens (t ∷ ts) fits = absurd fits

  pub idle_fired : (m n : Marking) → Fired kind k no_transition m n → Permuted m n
  idle_fired m n f =
      let before = subst (λ ts. Permuted m (ts ++ f.rest)) (no_tokens f.removed f.takes) f.before in
      let after = subst (λ ts. Permuted n (ts ++ f.rest)) (no_tokens f.added f.puts) f.after in
      join before (permuted_back after)

-- ---- from grid 1 to grid k
pub refined_aged : (k d : ℕ) (m : Marking) → aged (k * d) (refined k m) ≡ refined k (aged d m)
refined_aged k d [] = refl
refined_aged k d (t ∷ m) =
    ap (λ n. record { place = t.place; age = n } ∷ aged (k * d) (refined k m)) (sym (mul-add k t.age d))
    ∙ ap (λ r. finer k (older d t) ∷ r) (refined_aged k d m)

negated : (k n : ℕ) → neg_ℤ (pos (k * n)) ≡ pos k *ℤ neg_ℤ (pos n)
negated k zero = omega (arith, ints, mul-zero k)
negated k (suc n) = omega (arith, ints)

module _ {B : Type 0} (kind : Kind B) (k : ℕ) (some : 1 ≤ k) where
  pub holds-finer : (range : Range B) (age : ℕ) → holds kind k range (pos (k * age)) ≡ holds kind 1 range (pos age)
  holds-finer range age =
      ap (λ t. t && kind.allows k range.lower (neg_ℤ (pos (k * age)))) (kind.grids k range.upper (pos age) some)
      ∙ ap (λ d. kind.allows 1 range.upper (pos age) && kind.allows k range.lower d) (negated k age)
      ∙ ap (λ t. kind.allows 1 range.upper (pos age) && t) (kind.grids k range.lower (neg_ℤ (pos age)) some)

  pub finer_fits : (arc : Arc B) (t : Token) → Fits kind 1 arc t → Fits kind k arc (finer k t)
  finer_fits arc t fits = record { place = fits.place; age = holds-finer arc.range t.age ∙ fits.age }

  pub refined_fits : (arcs : List (Arc B)) (ts : List Token) → FitsAll kind 1 arcs ts → FitsAll kind k arcs (refined k ts)
  refined_fits [] [] fits = fits
  refined_fits [] (t ∷ ts) fits = absurd fits
  refined_fits (a ∷ arcs) [] fits = absurd fits
  refined_fits (a ∷ arcs) (t ∷ ts) fits = (finer_fits a t fits.0, refined_fits arcs ts fits.1)

  refined_split : (m ts rest : Marking) → Permuted m (ts ++ rest) → Permuted (refined k m) (refined k ts ++ refined k rest)
  refined_split m ts rest p = join (permuted_map (finer k) p) (permuted_equal (map-append (finer k) ts rest))

  pub refined_fired : (t : Transition B) (m n : Marking) → Fired kind 1 t m n → Fired kind k t (refined k m) (refined k n)
  refined_fired t m n f =
      record {
        removed = refined k f.removed;
        added = refined k f.added;
        rest = refined k f.rest;
        before = refined_split m f.removed f.rest f.before;
        after = refined_split n f.added f.rest f.after;
        takes = refined_fits t.inputs f.removed f.takes;
        puts = refined_fits t.outputs f.added f.puts;
      }

  pub refined_delayed : (d : ℕ) (m n : Marking) → Delayed d m n → Delayed (k * d) (refined k m) (refined k n)
  refined_delayed d m n p = join (permuted_equal (refined_aged k d m)) (permuted_map (finer k) p)

  pub refined_run : (net : Net B) {m n : Marking} → Run kind 1 net m n → Run kind k net (refined k m) (refined k n)
  refined_run net (stay p) = stay (permuted_map (finer k) p)
  refined_run net (delay {m} {n} {o} d p r) = delay (k * d) (refined_delayed d m n p) (refined_run net r)
  refined_run net (fire {m} {n} {o} t first last f r) = fire t first last (refined_fired (transition_of net t) m n f) (refined_run net r)

pub runs_keep_laws : {B : Type 0} (kind : Kind B) (net : Net B) → RunLaws kind net
runs_keep_laws kind net =
    record {
      empty = λ k m. stay (permuted_same m);
      compose = λ k m n o r s. run_after r s;
      idle = λ k m n f. idle_fired kind k m n f;
      grids = λ k m n some r. refined_run kind k some net r;
    }
