-- A verdict and a bad line, written for people.
use Rattle.std.specs.Prelude.{ℕ, Bool, true, false, List, ◌++◌, codes, decimal}
use Rattle.loops.specs.FaultTexts.{line_fault_text}
use Rattle.loops.specs.declared.judging.BadLine.{BadLine}

abbrev pub possible_text : Bool → List ℕ
possible_text true = codes ": some timing meets the loop"
possible_text false = codes ": no timing can meet the loop"

-- of a loop whose sum is written so
abbrev pub verdict_text : Bool → List ℕ → List ℕ
verdict_text possible sum =
    codes "sum " ++ (sum ++ possible_text possible)

abbrev pub bad_line_text : BadLine → List ℕ
bad_line_text bad = codes "line " ++ (decimal bad.line ++ (codes ": " ++ line_fault_text bad.fault))
