use Rattle.std.specs.Fmt.{HasWritten, IsPlainFormatter}
use Rattle.file_words.specs.Items.{spaced_text}
use Rattle.file_words.specs.Tables.{below}
use Rattle.file_words.proofs.item.SpacedDisplay.fmt.Given as goal

abbrev pub invariant-loop-at : goal.invariant-loop-at
invariant-loop-at g l =
    IsPlainFormatter l.initial.f → HasWritten g.W.Write.write_str_gives l.initial.f (below (spaced_text l.self.0.now) l.at) l.f
