-- Adding up a loop line by line, and what the sum says of its timings.
use Rattle.std.proofs.Common.{◌≡◌, ℕ, ◌+◌, ◌<◌, ◌≤◌, Bool, true, false, cond, eqb, ◌⊎◌, List, [], ◌∷◌, ◌++◌, map, length, ℤ, pos, ◌+ℤ◌, Ok, Err, Result, sym, refl, ap, ◌∙◌, inl, inr, ⊎_elim, append_assoc, arith}
use lib.IntN.{+ℤ_assoc, +ℤ_idl, +ℤ_idr}
use mathlib.Core.List.{map-append}
use Rattle.std.proofs.lemmas.List.{length_push}
use Rattle.std.proofs.lemmas.Bool.{true≢false}
use Rattle.bounds.specs.Kinds.{Kind}
use Rattle.loops.specs.declared.judging.BadLine.{BadLine}
use Rattle.loops.specs.declared.line.LineFault.{LineFault}
use Rattle.loops.specs.declared.line.LineFault.TheVariants.{TooManyLines}
use Rattle.loops.specs.Lines.{lines, grown, first_line, after_line}
use Rattle.loops.specs.Readings.{line_bound}
use Rattle.loops.specs.Loops.{total_after, total, named, with_bound, added, AllAllowed, Faulty, most_lines}

-- ---- lines
step_line : (b : ℕ) (text : List ℕ) (t : Bool) → grown b (lines text) ≡ (b ∷ first_line text) ∷ lines (after_line text) → cond t ([] ∷ lines text) (grown b (lines text)) ≡ cond t [] (b ∷ first_line text) ∷ lines (cond t text (after_line text))
step_line b text true e = refl
step_line b text false e = e

pub split_lines : (b : ℕ) (text : List ℕ) → lines (b ∷ text) ≡ first_line (b ∷ text) ∷ lines (after_line (b ∷ text))
split_lines b [] = step_line b [] (eqb b 10) refl
split_lines b (c ∷ text) = step_line b (c ∷ text) (eqb b 10) (ap (grown b) (split_lines c text))

cut_line : (t : Bool) (text rest : List ℕ) → length rest ≤ length text → length (cond t text rest) ≤ length text
cut_line true text rest h = omega arith
cut_line false text rest h = h

after_within : (text : List ℕ) → length (after_line text) ≤ length text
after_within [] = omega arith
after_within (b ∷ text) = omega (arith, cut_line (eqb b 10) text (after_line text) (after_within text))

-- what is left after a line is shorter
pub after_shorter : (text : List ℕ) → 0 < length text → length (after_line text) < length text
after_shorter [] h = absurd (omega arith)
after_shorter (b ∷ text) h = omega (arith, cut_line (eqb b 10) text (after_line text) (after_within text))

pub next_line : (text : List ℕ) → 0 < length text → lines text ≡ first_line text ∷ lines (after_line text)
next_line [] h = absurd (omega arith)
next_line (b ∷ text) h = split_lines b text

-- ---- the way through the lines
-- the lines before the rest, and the bounds that they say
pub record Progress {B : Type 0} (kind : Kind B) (text rest : List ℕ) (sum : B) (count : ℕ) : Type 0 where
  pub before : List (List ℕ)
  pub bounds : List B
  pub split : lines text ≡ before ++ lines rest
  pub said : map (line_bound kind) before ≡ map Ok bounds
  pub many : length before ≡ count
  pub paired : length bounds ≡ count
  pub few : count ≤ most_lines
  pub summed : sum ≡ total kind bounds

total_push : {B : Type 0} (kind : Kind B) (s : B) (bs : List B) (b : B) → total_after kind s (bs ++ (b ∷ [])) ≡ kind.sum (total_after kind s bs) b
total_push kind s [] b = refl
total_push kind s (c ∷ bs) b = total_push kind (kind.sum s c) bs b

-- what the sum with one more line says of the line
added_bound : {B : Type 0} (kind : Kind B) (sum next : B) (r : Result B LineFault) → Ok next ≡ with_bound kind sum r → (b : B) × (r ≡ Ok b) × (next ≡ kind.sum sum b)
added_bound kind sum next (Ok b) e = (b, refl, cc)
added_bound kind sum next (Err f) e = let z : ◌≡◌ {A = ℕ} 0 1 = cc in absurd (omega arith)

added_fault : {B : Type 0} (kind : Kind B) (sum : B) (f : LineFault) (r : Result B LineFault) → Err f ≡ with_bound kind sum r → r ≡ Err f
added_fault kind sum f (Ok b) e = let z : ◌≡◌ {A = ℕ} 0 1 = cc in absurd (omega arith)
added_fault kind sum f (Err g) e = sym e

pub named_sum : {B : Type 0} (count : ℕ) (sum : B) (r : Result B LineFault) → Ok sum ≡ named count r → Ok sum ≡ r
named_sum count sum (Ok b) e = cc
named_sum count sum (Err f) e = let z : ◌≡◌ {A = ℕ} 0 1 = cc in absurd (omega arith)

pub named_fault : {B : Type 0} (count : ℕ) (bad : BadLine) (r : Result B LineFault) → Err bad ≡ named count r → (bad.line ≡ count + 1) × (Err bad.fault ≡ r)
named_fault count bad (Ok b) e = let z : ◌≡◌ {A = ℕ} 0 1 = cc in absurd (omega arith)
named_fault count bad (Err f) e = let same : bad ≡ record { line = count + 1; fault = f } = cc in (ap (λ b. b.line) same, ap (λ b. Err b.fault) same)

module _ {B : Type 0} (kind : Kind B) (text : List ℕ) where
  pub progress_none : (sum : B) → sum ≡ kind.zero → Progress kind text text sum 0
  progress_none sum e =
      record { before = []; bounds = []; split = refl; said = refl; many = refl; paired = refl; few = omega arith; summed = e }

  module _ (rest : List ℕ) (sum : B) (count : ℕ) (some : 0 < length rest) (so_far : Progress kind text rest sum count) where
    at_line : lines text ≡ so_far.before ++ (first_line rest ∷ lines (after_line rest))
    at_line = so_far.split ∙ ap (λ ls. so_far.before ++ ls) (next_line rest some)

    pub progress_more : (b next : B) → count < most_lines → Ok b ≡ line_bound kind (first_line rest) → next ≡ kind.sum sum b → Progress kind text (after_line rest) next (count + 1)
    progress_more b next room read e =
        record {
          before = so_far.before ++ (first_line rest ∷ []);
          bounds = so_far.bounds ++ (b ∷ []);
          split = at_line ∙ sym (append_assoc so_far.before (first_line rest ∷ []) (lines (after_line rest)));
          said =
              map-append (line_bound kind) so_far.before (first_line rest ∷ [])
              ∙ ap (λ rs. rs ++ (line_bound kind (first_line rest) ∷ [])) so_far.said
              ∙ ap (λ r. map Ok so_far.bounds ++ (r ∷ [])) (sym read)
              ∙ sym (map-append Ok so_far.bounds (b ∷ []));
          many = length_push so_far.before (first_line rest) ∙ ap (λ n. n + 1) so_far.many;
          paired = length_push so_far.bounds b ∙ ap (λ n. n + 1) so_far.paired;
          few = omega arith;
          summed = e ∙ ap (λ s. kind.sum s b) so_far.summed ∙ sym (total_push kind kind.zero so_far.bounds b);
        }

    pub progress_added : (next : B) → count < most_lines → Ok next ≡ with_bound kind sum (line_bound kind (first_line rest)) → Progress kind text (after_line rest) next (count + 1)
    progress_added next room e = let r = added_bound kind sum next (line_bound kind (first_line rest)) e in progress_more r.0 next room (sym r.1) r.2

    pub faulty : (bad : BadLine) → bad.line ≡ count + 1 → ((count < most_lines) × (Err bad.fault ≡ with_bound kind sum (line_bound kind (first_line rest)))) ⊎ ((count ≡ most_lines) × (bad.fault ≡ TooManyLines)) → Faulty kind text bad
    faulty bad number fault =
        record {
          before = so_far.before;
          at = first_line rest;
          after = lines (after_line rest);
          split = at_line;
          number = number ∙ ap (λ n. n + 1) (sym so_far.many);
          bounds = so_far.bounds;
          said = so_far.said;
          fault = ⊎_elim (λ p. inl (omega (arith, so_far.many, p.0), added_fault kind sum bad.fault (line_bound kind (first_line rest)) p.1)) (λ p. inr (so_far.many ∙ p.0, p.1)) fault;
        }

-- ---- no timing under a sum below zero
module _ {B : Type 0} (kind : Kind B) (k : ℕ) (grid : 1 ≤ k) where
  allowed_total : (s : B) (e : ℤ) (bs : List B) (ds : List ℤ) → kind.allows k s e ≡ true → AllAllowed kind k bs ds → kind.allows k (total_after kind s bs) (e +ℤ added ds) ≡ true
  allowed_total s e [] [] h a = ap (kind.allows k s) (+ℤ_idr e) ∙ h
  allowed_total s e [] (d ∷ ds) h a = absurd a
  allowed_total s e (b ∷ bs) [] h a = absurd a
  allowed_total s e (b ∷ bs) (d ∷ ds) h a =
      ap (kind.allows k (total_after kind (kind.sum s b) bs)) (sym (+ℤ_assoc e d (added ds)))
      ∙ allowed_total (kind.sum s b) (e +ℤ d) bs ds (kind.sum_allows k s b e d grid h a.0) a.1

  pub none_meets : (bs : List B) (ds : List ℤ) → kind.at_most kind.zero (total kind bs) ≡ false → AllAllowed kind k bs ds → added ds ≡ pos 0 → ⊥
  none_meets bs ds below a closed =
      let h = allowed_total kind.zero (pos 0) bs ds (kind.zero_allows k (pos 0) grid) a in
      let z : kind.allows k (total kind bs) (pos 0) ≡ true = ap (kind.allows k (total kind bs)) (sym (+ℤ_idl (added ds) ∙ closed)) ∙ h in
      true≢false (sym z ∙ kind.below_zero k (total kind bs) grid below)
