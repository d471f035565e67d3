-- How a bound is written for people: 5, <5 where it is strict, or no limit.
use Rattle.std.specs.Prelude.{ℕ, List, ◌++◌, codes, if◌then◌else◌}
use Rattle.std.specs.Fmt.{signed_decimal}
use Rattle.bounds.specs.Limits.{Limit}
use Rattle.bounds.specs.Limits.Limit.{number, unlimited}

abbrev pub limit_text : Limit → List ℕ
limit_text (number c s) = if s then codes "<" ++ signed_decimal c else signed_decimal c
limit_text unlimited = codes "no limit"
