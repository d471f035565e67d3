use Rattle.std.proofs.Common.{◌+◌, ◌-◌, ◌≤◌}
use Rattle.std.specs.Fmt.{HasWritten, IsPlainFormatter}
use Rattle.net_words.specs.Explained.{each, transition_lines}
use Rattle.net_words.proofs.net.NetLinesDisplay.fmt.Given as goal

abbrev pub invariant-loop-number : goal.invariant-loop-number
invariant-loop-number g l = record {
  written : IsPlainFormatter l.initial.f → HasWritten g.W.Write.write_str_gives l.initial.f (each (transition_lines l.net.bytes.now) (l.number - 1)) l.f;
  within : l.number ≤ l.number-end + 1;
}
