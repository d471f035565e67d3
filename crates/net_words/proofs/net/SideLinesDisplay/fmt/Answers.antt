use Rattle.std.proofs.Common.{◌+◌, ◌-◌, ◌≡◌, ◌∙◌, subst, arith, rules}
use Rattle.std.specs.Fmt.{HasWritten}
use Rattle.std.specs.Result.{IsOk}
use Rattle.std.proofs.lemmas.Bool.{false≢true}
use Rattle.std.proofs.lemmas.Result.{err_from_is_err_and}
use Rattle.net_words.specs.Explained.{slot_line, arc_line}
use Rattle.net_words.proofs.Texts.{written_to, written_more, arc_written, none_written}
use Rattle.net_words.proofs.net.SideLinesDisplay.fmt.Goals.{in-Some+in_ok-writeln, in_default}
use Rattle.net_words.proofs.net.SideLinesDisplay.fmt.Goals as goal

pub loop-arc-preserved : goal.loop-arc-preserved
loop-arc-preserved g c =
    let took = g.W.Write.write_str_gives in
    let side = c.args.self.now.side in
    let line = arc_line c.args.self.now.net.bytes.now c.args.self.now.transition side in
    let arc = c.loop-arc.arc in
    let before = c.loop-arc.f in
    let after = c.match-slot.f in
    record {
      written = λ plain.
          let so_far = c.loop-arc.invariant.written plain in
          let here : HasWritten took before (slot_line side c.slot.result) after =
          elim c.match-slot.branch [
            | in-Some+in_ok-writeln w ↦
                let ok : IsOk w.writeln.result = (let branch = w.branch-writeln in let went = w.in_ok-writeln in search rules) in
                arc_written took before _ after side c.slot.result w.in-Some.slot w.in-Some.is w.f-is (w.writeln.ensures.writes so_far.plain ok)
            | in_default w ↦ none_written took before after side c.slot.result w.in_default.not-Some w.f-is so_far.plain
          ] in
          written_more took c.args.f.now before after line arc ((arc + 1) - 1) (omega arith) (omega arith) so_far (subst (λ o. HasWritten took before (slot_line side o) after) c.slot.ensures here);
      within = omega arith;
    }

pub returns-in_err-writeln-clause-writes : goal.returns-in_err-writeln-clause-writes
returns-in_err-writeln-clause-writes g c = λ plain ok.
    let p = err_from_is_err_and c.from_residual.result c.from_residual.ensures.1 in
    absurd (false≢true (rw p.1 at ok))

pub returns-clause-writes : goal.returns-clause-writes
returns-clause-writes g c = λ plain ok.
    let line = arc_line c.args.self.now.net.bytes.now c.args.self.now.transition c.args.self.now.side in
    let all : c.loop-arc.arc - 1 ≡ c.arc_count-arc-end.result = omega arith in
    written_to g.W.Write.write_str_gives c.args.f.now c.loop-arc.f line (c.loop-arc.arc - 1) _ (all ∙ c.arc_count-arc-end.ensures) (c.loop-arc.invariant.written plain)

pub returns-after-slot-clause-writes : goal.returns-after-slot-clause-writes
returns-after-slot-clause-writes g c = λ plain ok.
    let took = g.W.Write.write_str_gives in
    let side = c.args.self.now.side in
    let line = arc_line c.args.self.now.net.bytes.now c.args.self.now.transition side in
    let arc = c.loop-arc.arc in
    let before = c.loop-arc.f in
    let after = c.match-slot.f in
    let last : arc ≡ c.arc_count-arc-end.result = omega arith in
    let so_far = c.loop-arc.invariant.written plain in
    let here : HasWritten took before (slot_line side c.slot.result) after =
    elim c.match-slot.branch [
      | in-Some+in_ok-writeln w ↦
          let ok : IsOk w.writeln.result = (let branch = w.branch-writeln in let went = w.in_ok-writeln in search rules) in
          arc_written took before _ after side c.slot.result w.in-Some.slot w.in-Some.is w.f-is (w.writeln.ensures.writes so_far.plain ok)
      | in_default w ↦ none_written took before after side c.slot.result w.in_default.not-Some w.f-is so_far.plain
    ] in
    written_more took c.args.f.now before after line arc _ (omega arith) (last ∙ c.arc_count-arc-end.ensures) so_far (subst (λ o. HasWritten took before (slot_line side o) after) c.slot.ensures here)
