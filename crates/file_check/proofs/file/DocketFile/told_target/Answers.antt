use Rattle.std.proofs.Common.{◌≡◌, ◌++◌, rules}
use Rattle.file_check.proofs.Walking.{target_taken}
use Rattle.file_check.proofs.file.DocketFile.told_target.Goals as goal

pub returns-clause-told : goal.returns-clause-told
returns-clause-told g c =
    let said = g.W.Watcher.said in
    let heard : said c.zone.new.self ≡ said c.args.watcher.now ++ g.W.Watcher.words.zone c.target.new.self.world = search rules in
    λ later. target_taken g.W.Watcher.words g.B.Bound.kind _ _ c.args.initial.now _ _ heard later c.in_ok-target.ensures.made
