use Rattle.std.specs.Prelude.{OnOk}
use Rattle.std.proofs.Common.{◌≡◌, ◌++◌, ◌∙◌, ap, string_bytes, subst}
use Rattle.docket_rules.specs.Worlds.{page_cells_at, page_places_at}
use Rattle.file_words.proofs.zone.write_last.Goals as goal
use Rattle.file_words.specs.Told.{last_page_text}
use Rattle.file_words.specs.Zones.{zone_text}
use Rattle.zone_cells.specs.Cells.{in_page}

pub returns : goal.returns
returns g c =
    let kind = g.B.Bound.kind in
    let words = g.B.BoundWords.words in
    let w = c.args.file.now.world in
    let page = c.page-page.result in
    let number = c.listed-number.ensures in
    let places = c.page-page.ensures.places ∙ ap (page_places_at w) number in
    let cells = c.page-page.ensures.cells ∙ ap (page_cells_at w) number in
    let same : zone_text words c.listed-number.result page.places.now (in_page kind page.cells.now) ≡ last_page_text kind words w = λ i. zone_text words (number i) (places i) (in_page kind (cells i)) in
    subst (λ t. OnOk c.write_tabled.result (string_bytes c.write_tabled.new.text ≡ string_bytes c.args.text.now ++ t)) same c.write_tabled.ensures
