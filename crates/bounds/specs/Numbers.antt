-- A number with its mark, or none, as a limit.
use Rattle.std.specs.Prelude.{Some, None, Option}
use Rattle.bounds.specs.Limits.{Limit}
use Rattle.bounds.specs.Limits.Limit.{number, unlimited}
use Rattle.bounds.specs.declared.marked.MarkedNumber.{MarkedNumber}

abbrev pub numbered_limit : Option MarkedNumber → Limit
numbered_limit (Some m) = number m.number m.strict
numbered_limit None = unlimited
