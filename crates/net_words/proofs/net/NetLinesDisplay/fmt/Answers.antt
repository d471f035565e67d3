use Rattle.std.proofs.Common.{◌+◌, ◌-◌, ◌≡◌, arith, rules}
use Rattle.std.specs.Fmt.{HasWritten, IsPlainFormatter}
use Rattle.std.proofs.lemmas.Bool.{false≢true}
use Rattle.std.proofs.lemmas.Result.{err_from_is_err_and}
use Rattle.net_words.specs.Explained.{line, transition_lines}
use Rattle.net_words.specs.Summaries.{summary_text}
use Rattle.net_words.proofs.Texts.{written_to, written_more, net_written}
use Rattle.net_words.proofs.net.NetLinesDisplay.fmt.Goals as goal

pub loop-number-preserved : goal.loop-number-preserved
loop-number-preserved g c =
    let took = g.W.Write.write_str_gives in
    let lines = transition_lines c.args.self.now.0.bytes.now in
    let number = c.loop-number.number in
    record {
      written = λ plain.
          let so_far = c.loop-number.invariant.written plain in
          let here : HasWritten took c.loop-number.f (lines number) c.write.new.self = search rules in
          written_more took c.writeln.new.self c.loop-number.f c.write.new.self lines number ((number + 1) - 1) (omega arith) (omega arith) so_far here;
      within = omega arith;
    }

pub returns-in_err-write-clause-writes : goal.returns-in_err-write-clause-writes
returns-in_err-write-clause-writes g c = λ plain ok.
    let p = err_from_is_err_and c.from_residual-in_err-write.result c.from_residual-in_err-write.ensures.1 in
    absurd (false≢true (rw p.1 at ok))

pub returns-in_ok-writeln-clause-writes : goal.returns-in_ok-writeln-clause-writes
returns-in_ok-writeln-clause-writes g c = λ plain ok.
    let took = g.W.Write.write_str_gives in
    let bytes = c.args.self.now.0.bytes.now in
    let h = c.header-header.result in
    let first : HasWritten took c.args.f.now (line (summary_text h)) c.writeln.new.self = search rules in
    let then : IsPlainFormatter c.writeln.new.self = search rules in
    let all : c.loop-number.number - 1 ≡ h.transitions = omega arith in
    net_written took c.args.f.now c.writeln.new.self c.loop-number.f h bytes c.header-header.ensures first
    (written_to took c.writeln.new.self c.loop-number.f (transition_lines bytes) (c.loop-number.number - 1) h.transitions all (c.loop-number.invariant.written then))

pub returns-in_ok-write-clause-writes : goal.returns-in_ok-write-clause-writes
returns-in_ok-write-clause-writes g c = λ plain ok.
    let took = g.W.Write.write_str_gives in
    let bytes = c.args.self.now.0.bytes.now in
    let h = c.header-header.result in
    let number = c.loop-number.number in
    let first : HasWritten took c.args.f.now (line (summary_text h)) c.writeln.new.self = search rules in
    let then : IsPlainFormatter c.writeln.new.self = search rules in
    let so_far = c.loop-number.invariant.written then in
    let here : HasWritten took c.loop-number.f (transition_lines bytes number) c.write.new.self = search rules in
    let last : number ≡ h.transitions = omega arith in
    net_written took c.args.f.now c.writeln.new.self c.write.new.self h bytes c.header-header.ensures first
    (written_more took c.writeln.new.self c.loop-number.f c.write.new.self (transition_lines bytes) number h.transitions (omega arith) last so_far here)
