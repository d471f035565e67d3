use Rattle.std.proofs.Common.{◌+◌, get_or}
use Rattle.std.specs.Fmt.{HasWritten, IsPlainFormatter}
use Rattle.file_words.specs.Tables.{below}
use Rattle.file_words.specs.Zones.{place_line}
use Rattle.file_words.proofs.zone.PlacesDisplay.fmt.Given as goal

abbrev pub invariant-loop-t : goal.invariant-loop-t
invariant-loop-t g l =
    IsPlainFormatter l.initial.f → HasWritten g.W.Write.write_str_gives l.initial.f (below (λ t. place_line (t + 1) (get_or l.self.0.now t 0)) l.t) l.f
