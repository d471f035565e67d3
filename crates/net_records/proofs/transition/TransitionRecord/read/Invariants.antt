use Rattle.std.proofs.Common.{◌≡◌, ◌+◌, ◌*◌, ◌≤◌, length, take, drop}
use Rattle.net_records.specs.Slots.{slots_of}
use Rattle.net_records.proofs.transition.TransitionRecord.read.Given as goal

abbrev pub invariant-loop-slot : goal.invariant-loop-slot
invariant-loop-slot l = record {
  whole : length l.slot-items ≡ 8;
  rest : l.rest ≡ drop (5 * l.slot-index) (drop 1 l.bytes);
  so_far : take l.slot-index l.slot-items ≡ slots_of l.slot-index (drop 1 l.bytes);
  long : 1 + 5 * l.slot-index ≤ length l.bytes;
}
