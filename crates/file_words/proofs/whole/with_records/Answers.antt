use Rattle.std.proofs.Common.{string_bytes, subst}
use Rattle.file_words.proofs.Ended.{leaves_sound}
use Rattle.file_words.proofs.Wholes.{under_told}
use Rattle.file_words.specs.Asked.{DueAdded}
use Rattle.file_words.specs.Told.{teller_words}
use Rattle.net_records.specs.NetBytes.{net_of}
use Rattle.file_words.proofs.whole.with_records.Goals as goal

pub write_due-requires-clause-sound : goal.write_due-requires-clause-sound
write_due-requires-clause-sound g c =
    let kind = g.B.Bound.kind in
    let walked = c.in_ok-line.ensures in
    leaves_sound kind (teller_words kind g.B.BoundWords.words) c.args.net.bytes.now c.new-file.result c.walk.new.self.world (string_bytes c.args.text) c.walk.new.watcher c.in_ok-line.line c.new-file.ensures c.calls_lead.ensures.laws c.calls_lead.ensures.pages walked.told

pub returns : goal.returns
returns g c =
    let walked = c.in_ok-line.ensures in
    under_told g.B.Bound.kind g.B.BoundWords.words c.args.net.bytes.now c.new-file.result c.walk.new.self.world (string_bytes c.args.text) c.walk.new.watcher (string_bytes c.write_due.new.text) (string_bytes c.writeln.new.self) c.in_ok-line.line c.new-file.ensures walked.told walked.line
    (subst (λ t. DueAdded g.B.Bound.kind g.B.BoundWords.words (net_of g.B.Bound.kind c.args.net.bytes.now) c.walk.new.self.world t (string_bytes c.write_due.new.text)) c.teller.view_is c.in_ok-write_due.ensures)
    c.in_ok-writeln.ensures.bytes
