use Rattle.std.proofs.Common.{◌∙◌, ap, refl, sym}
use Rattle.docket_rules.specs.Calls.{Close}
use Rattle.file_check.proofs.Calling.{called}
use Rattle.file_check.specs.Files.{filed}
use Rattle.file_check.proofs.file.DocketFile.close.Goals as goal

pub returns-clause-made : goal.returns-clause-made
returns-clause-made g c =
    rw (sym c.self.view_is)
    (called g.B.Bound.kind _ _ c.close-answer.result refl c.self.inside.reader.next Close c.filed.result (c.filed.ensures ∙ ap (λ n. filed n c.close-answer.result) c.number-at.ensures) (c.close-answer.ensures, record { cells = refl; places = refl }))
