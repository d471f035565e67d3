use Rattle.std.proofs.Common.{◌≡◌, ℕ, rules, replicate, ap, ◌∙◌}
use Rattle.docket_rules.specs.Worlds.{book_cells, book_places}
use Rattle.file_check.proofs.Alike.{all_alike}
use Rattle.file_check.proofs.file.DocketFile.new.Goals as goal
use Rattle.net_records.specs.NetBytes.{net_of}

pub returns : goal.returns
returns g c =
    let bare = g.B.Bound.kind.no_limit in
    let cells : c.wipe.new.cells ≡ replicate book_cells bare = c.wipe.ensures ∙ ap (λ (n : ℕ). replicate n bare) c.told-cells in
    let places : c.fill_with.new.self ≡ replicate book_places 0 = all_alike _ 0 (λ f x h k. search rules) _ _ _ c.fill_with.ensures.ran.1 ∙ ap (λ (n : ℕ). replicate n 0) (c.fill_with.ensures.len ∙ c.told-places) in
    λ i. record {
      net = net_of g.B.Bound.kind c.args.net.bytes.now;
      unread = c.later_records.ensures i;
      world = record { state = c.new.ensures i; cells = cells i; places = places i };
    }
