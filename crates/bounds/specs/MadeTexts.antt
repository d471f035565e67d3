-- How a refusal to make a bound is written for people.
use Rattle.std.specs.Prelude.{ℕ, List, codes}
use Rattle.bounds.specs.declared.made.MakeError.{MakeError}
use Rattle.bounds.specs.declared.made.MakeError.TheVariants.{OutsideLimits, MarkNotTaken}

abbrev pub make_error_text : MakeError → List ℕ
make_error_text OutsideLimits = codes "the number is outside -262143 to 262143"
make_error_text MarkNotTaken = codes "this kind has no strict bounds"
