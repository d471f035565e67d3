-- What is wrong with a line, written for people.
use Rattle.std.specs.Prelude.{ℕ, List, codes}
use Rattle.bounds.specs.MadeTexts.{make_error_text}
use Rattle.loops.specs.declared.line.LineFault.{LineFault}
use Rattle.loops.specs.declared.line.LineFault.TheVariants.{NotABound, Unmade, TooManyLines}

abbrev pub line_fault_text : LineFault → List ℕ
line_fault_text NotABound =
    codes "not a bound (write a number as 3, a strict one as <3, or no limit)"
line_fault_text (Unmade e) = make_error_text e
line_fault_text TooManyLines = codes "a loop has at most 4194304 lines"
