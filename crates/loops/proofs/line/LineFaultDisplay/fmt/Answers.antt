use Rattle.std.specs.Fmt.{digits}
use Rattle.loops.proofs.line.LineFaultDisplay.fmt.Goals as goal

pub returns-in-TooManyLines-clause-writes : goal.returns-in-TooManyLines-clause-writes
unfolding digits
returns-in-TooManyLines-clause-writes g c = rw c.in-TooManyLines.is c.write-in-TooManyLines.ensures.writes
