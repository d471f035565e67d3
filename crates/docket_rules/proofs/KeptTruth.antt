-- The seal of a docket that agrees with its calls is true.
use Rattle.std.proofs.Common.{◌≡◌, ℕ, suc, ◌-◌, ◌≤◌, Bool, true, false, List, [], ◌∷◌, length, Some, sym, refl, ap, ◌∙◌, subst, arith}
use Rattle.std.specs.List.{range_with_len}
use Rattle.std.proofs.lemmas.Bool.{false≢true}
use Rattle.bounds.specs.Kinds.{Kind, largest_size}
use Rattle.docket_dues.specs.Answered.{AllAnswered, Answered, places_of_all}
use Rattle.docket_dues.specs.Dues.{all_due}
use Rattle.docket_dues.specs.declared.item.Item.{Item}
use Rattle.docket_dues.proofs.Lists.{map_every, number_every}
use Rattle.docket_dues.proofs.Soundness.{safe}
use Rattle.docket_dues.proofs.Turns.{all_answered}
use Rattle.nets.specs.Nets.{Every, Limits, Net}
use Rattle.zone_markings.specs.Initial.{marking_of}
use Rattle.zones.specs.Safety.{Apart, Safe, starts_at}
use Rattle.zones.specs.Zones.{Zone, SizedZone}
use Rattle.zones.proofs.Certificates.{apart_at}
use Rattle.zones.proofs.ZoneLaws.{zones_keep_laws}
use Rattle.docket_rules.specs.Logs.{Log, Opening, still_due, proving_stage, stage_said}
use Rattle.docket_rules.specs.Tables.{is_sealed}
use Rattle.docket_rules.specs.Worlds.{World, listed_count, listed_pages, page_of}
use Rattle.docket_rules.specs.declared.stage.Stage.TheVariants.{Sealed}
use Rattle.docket_rules.proofs.Agrees.{AgreesOpened}
use Rattle.docket_rules.proofs.Listed.{listed_as_many, places_listed}

-- ---- the seal stands where nothing is due
pub none_left : (items : List Item) → proving_stage items ≡ Sealed → items ≡ []
none_left [] e = refl
none_left (d ∷ items) e = absurd (false≢true (ap is_sealed e))

pub nothing_due : {B : Type 0} (net : Net B) (log : Log B) (o : Opening B) (closed : Bool) → stage_said net log (Some o) closed ≡ Sealed → still_due net log ≡ []
nothing_due net log o false e = absurd (false≢true (ap is_sealed e))
nothing_due net log o true e = none_left (still_due net log) e

module _ {B : Type 0} (kind : Kind B) (net : Net B) (log : Log B) (o : Opening B) (w : World B) (a : AgreesOpened kind net log o w) where
  every_page : (P : Zone B → Type 0) → ((p : ℕ) → 1 ≤ p → p ≤ length log.listed → P (page_of kind w p)) → Every P (listed_pages kind w)
  every_page P each =
      let count : suc (length log.listed) - 1 ≡ listed_count w.state = omega (arith, listed_as_many kind net log o w a) in
      map_every P (page_of kind w) (range_with_len 1 (listed_count w.state))
      (subst (λ n. Every (λ p. P (page_of kind w p)) (range_with_len 1 n)) count (number_every (λ p. P (page_of kind w p)) 1 (suc (length log.listed)) (λ p some few. each p some (omega (arith, few)))))

  all_done : still_due net log ≡ [] → AllAnswered kind net (starts_at (marking_of o.initial)) (page_of kind w 0) (listed_pages kind w)
  all_done none =
      record {
        few_tokens = every_page (λ z. length z.places ≤ 8) (λ p some few. (a.pages p few).formed.few);
        small = every_page (SizedZone kind largest_size) (λ p some few j i q r. omega (arith, (a.pages p few).formed.small j i q r));
        apart = every_page (Apart kind (starts_at (marking_of o.initial))) (λ p some few. apart_at kind (marking_of o.initial) (page_of kind w p) (a.apart p some few));
        answered = subst (λ l. Every (Answered kind net (page_of kind w 0) (listed_pages kind w)) (all_due net l)) (sym (places_listed kind net log o w a)) (all_answered net (places_of_all log.listed) (Answered kind net (page_of kind w 0) (listed_pages kind w)) log.taken none a.answered);
      }

  pub sealed_true : Limits kind net → w.state.stage ≡ Sealed → Safe kind net (starts_at (marking_of o.initial)) o.target
  sealed_true limits sealed c =
      safe kind net limits (starts_at (marking_of o.initial)) (page_of kind w 0) (listed_pages kind w)
      (all_done (nothing_due net log o log.closed (sym a.stage ∙ sealed)))
      (record {
        grid = c.grid;
        some = c.some;
        start = c.start;
        begins = c.begins;
        last = c.last;
        run = c.run;
        satisfied = (zones_keep_laws kind).to_form c.grid o.target (page_of kind w 0) c.last c.some (a.pages 0 (omega arith)).normal c.satisfied;
      })
