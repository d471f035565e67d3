-- A closed loop of timing constraints: its bounds limit differences that add up to 0 on the way
-- round.
--     meets       differences, one for each bound, that the bounds allow on grid k and that add up
--                 to 0
--     verdict     the sum of the bounds, and whether any differences on any grid meet them
use Rattle.std.specs.Prelude.{◌≡◌, ℕ, ◌+◌, ◌^◌, ◌<◌, ◌≤◌, ◌⊎◌, List, [], ◌∷◌, ◌++◌, map, length, ℤ}
use Rattle.std.specs.Prelude.{pos, ◌+ℤ◌, Ok, Err, Result, IsTrue, IsFalse}
use Rattle.bounds.specs.Kinds.{Kind}
use Rattle.loops.specs.Lines.{lines}
use Rattle.loops.specs.Readings.{line_bound}
use Rattle.loops.specs.declared.judging.BadLine.{BadLine}
use Rattle.loops.specs.declared.judging.Verdict.{Verdict}
use Rattle.loops.specs.declared.line.LineFault.{LineFault}
use Rattle.loops.specs.declared.line.LineFault.TheVariants.{TooManyLines}

-- so few that no sum of made bounds grows past 2^40
abbrev pub most_lines : ℕ
most_lines = 2 ^ 22

-- the bounds added to one that stands first
abbrev pub total_after : {B : Type 0} → Kind B → B → List B → B
total_after kind sum [] = sum
total_after kind sum (b ∷ bs) = total_after kind (kind.sum sum b) bs

abbrev pub total : {B : Type 0} → Kind B → List B → B
total kind bs = total_after kind kind.zero bs

abbrev pub added : List ℤ → ℤ
added [] = pos 0
added (d ∷ ds) = d +ℤ added ds

-- one bound more, where there is one
abbrev pub with_bound : {B : Type 0} → Kind B → B → Result B LineFault → Result B LineFault
with_bound kind sum (Ok b) = Ok (kind.sum sum b)
with_bound kind sum (Err fault) = Err fault

-- the fault of the line after so many good ones
abbrev pub named : {B : Type 0} → ℕ → Result B LineFault → Result B BadLine
named count (Ok sum) = Ok sum
named count (Err fault) = Err (record { line = count + 1; fault = fault })

abbrev pub loop_verdict : {B : Type 0} → Kind B → B → Verdict B
loop_verdict kind sum = record { sum = sum; possible = kind.at_most kind.zero sum }

-- each bound allows its difference on grid k, and there are as many of both
abbrev pub AllAllowed : {B : Type 0} → Kind B → ℕ → List B → List ℤ → Type 0
AllAllowed kind k [] [] = Unit {0}
AllAllowed kind k [] (d ∷ ds) = ⊥
AllAllowed kind k (b ∷ bs) [] = ⊥
AllAllowed kind k (b ∷ bs) (d ∷ ds) = IsTrue (kind.allows k b d) × AllAllowed kind k bs ds

pub record Meets {B : Type 0} (kind : Kind B) (k : ℕ) (bs : List B) (ds : List ℤ) : Type 0 where
  pub grid : 1 ≤ k
  pub allowed : AllAllowed kind k bs ds
  pub closed : added ds ≡ pos 0

-- every line says its bound; the sum is theirs; and the loop is possible just where some
-- differences meet it
pub record Summed {B : Type 0} (kind : Kind B) (text : List ℕ) (v : Verdict B) : Type 0 where
  pub bounds : List B
  pub said : map (line_bound kind) (lines text) ≡ map Ok bounds
  pub few : length bounds ≤ most_lines
  pub sum : v.sum ≡ total kind bounds
  pub impossible : IsFalse v.possible → (k : ℕ) (ds : List ℤ) → Meets kind k bounds ds → ⊥
  pub possible : IsTrue v.possible → (k : ℕ) × (ds : List ℤ) × Meets kind k bounds ds

-- the lines before the named one say bounds, and that one is at fault
pub record Faulty {B : Type 0} (kind : Kind B) (text : List ℕ) (bad : BadLine) : Type 0 where
  pub before : List (List ℕ)
  pub at : List ℕ
  pub after : List (List ℕ)
  pub split : lines text ≡ before ++ (at ∷ after)
  pub number : bad.line ≡ length before + 1
  pub bounds : List B
  pub said : map (line_bound kind) before ≡ map Ok bounds
  pub fault : ((length before < most_lines) × (line_bound kind at ≡ Err bad.fault))
      ⊎ ((length before ≡ most_lines) × (bad.fault ≡ TooManyLines))

abbrev pub Judged : {B : Type 0} → Kind B → List ℕ → Result (Verdict B) BadLine → Type 0
Judged kind text (Ok v) = Summed kind text v
Judged kind text (Err bad) = Faulty kind text bad
