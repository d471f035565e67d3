-- What follows an item, asked of the places of its page.
use Rattle.std.proofs.Common.{◌≡◌, ℕ, ◌+◌, min, List, Option, sym, ap, ◌∙◌}
use Rattle.std.proofs.lemmas.List.{length-map}
use Rattle.bounds.specs.Kinds.{Kind}
use Rattle.docket.specs.Discharging.{Advanced}
use Rattle.docket.proofs.Named.{as_many, places_named}
use Rattle.docket_dues.specs.Answered.{places_of_all}
use Rattle.docket_dues.specs.Dues.{Leads}
use Rattle.docket_dues.specs.declared.item.Item.{Item}
use Rattle.docket_items.specs.Next.{Lists}
use Rattle.nets.specs.Nets.{Net}
use Rattle.docket_rules.specs.Calls.{most_taken, stage_of}
use Rattle.docket_rules.specs.Worlds.{World, listed_count, listed_pages, page_places_at}
use Rattle.docket_rules.specs.declared.stage.Stage.{Stage}

module _ {B : Type 0} (kind : Kind B) (net : Net B) (w : World B) (d : Item) where
  pub advanced : (zones : ℕ) (places : List ℕ) (next : Option Item) (stage : Stage) (taken : ℕ) → zones ≡ listed_count w.state → places ≡ page_places_at w d.zone → ((listed : List (List ℕ)) → Lists listed zones d.zone places → Leads net listed d next) → stage ≡ stage_of next → taken ≡ min (w.state.taken + 1) most_taken → Advanced kind net w d (record { stage = stage; initial = w.state.initial; counts = w.state.counts; taken = taken })
  advanced zones places next stage taken zones_are places_are leads stage_is taken_is =
      let listed = listed_pages kind w in
      record {
        next = next;
        leads = leads (places_of_all listed) (record {
          all = length-map listed (λ z. z.places) ∙ as_many kind w ∙ sym zones_are;
          here = λ some. places_named kind w d.zone some ∙ sym places_are;
        });
        state = ap (λ s. record { stage = s; initial = w.state.initial; counts = w.state.counts; taken = taken }) stage_is ∙ ap (λ n. record { stage = stage_of next; initial = w.state.initial; counts = w.state.counts; taken = n }) taken_is;
      }
