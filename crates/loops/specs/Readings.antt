-- The bound that a line says: 5, <5 for a strict one, or no limit.
use Rattle.std.specs.Prelude.{ℕ, Bool, true, false, List, [], ◌∷◌, ℤ, Some, None, Ok, Err, codes}
use Rattle.std.specs.Prelude.{Option, Result, ◌==◌, if◌then◌else◌}
use Rattle.bounds.specs.Kinds.{Kind, made}
use Rattle.bounds.specs.declared.made.MakeError.{MakeError}
use Rattle.std.specs.Str.{bytes_eq}
use Rattle.loops.specs.Lines.{integer}
use Rattle.loops.specs.declared.line.LineFault.{LineFault}
use Rattle.loops.specs.declared.line.LineFault.TheVariants.{NotABound, Unmade}

abbrev pub unmade : {B : Type 0} → Result B MakeError → Result B LineFault
unmade (Ok b) = Ok b
unmade (Err e) = Err (Unmade e)

-- the bound of a number that was read, which making may refuse
abbrev pub limit_bound : {B : Type 0} → Kind B → Bool → Option ℤ → Result B LineFault
limit_bound kind strict None = Err NotABound
limit_bound kind strict (Some c) = unmade (made kind c strict)

abbrev pub number_bound : {B : Type 0} → Kind B → List ℕ → Bool → Result B LineFault
number_bound kind text strict = limit_bound kind strict (integer text)

-- a strict bound begins with <
abbrev pub marked_line_bound : {B : Type 0} → Kind B → List ℕ → Result B LineFault
marked_line_bound kind [] = Err NotABound
marked_line_bound kind (b ∷ text) =
    if b == 60 then number_bound kind text true else number_bound kind (b ∷ text) false

-- the bound that a line says
abbrev pub line_bound : {B : Type 0} → Kind B → List ℕ → Result B LineFault
line_bound kind line =
    if bytes_eq line (codes "no limit") then Ok kind.no_limit else marked_line_bound kind line
