use Rattle.std.proofs.Common.{◌+◌, ◌-◌, ◌≤◌}
use Rattle.std.specs.Fmt.{HasWritten, IsPlainFormatter}
use Rattle.net_words.specs.Explained.{each, arc_line}
use Rattle.net_words.proofs.net.SideLinesDisplay.fmt.Given as goal

abbrev pub invariant-loop-arc : goal.invariant-loop-arc
invariant-loop-arc g l = record {
  written : IsPlainFormatter l.initial.f → HasWritten g.W.Write.write_str_gives l.initial.f (each (arc_line l.self.net.bytes.now l.self.transition l.side) (l.arc - 1)) l.f;
  within : l.arc ≤ l.arc-end + 1;
}
