-- Where the call for one more entry of a certificate leads.
use Rattle.std.proofs.Common.{◌≡◌, ℕ, ◌+◌, ◌<◌, true, false, List, [], ◌∷◌, ◌++◌, map, length, take, get_or, replicate, cond, Bool, Ok, Err, Some, None, Option, Result, is_err, is_some, refl, sym, ap, ◌∙◌, subst, ⊎_elim, arith}
use Rattle.std.proofs.lemmas.Bool.{false≢true, true≢false}
use Rattle.std.proofs.lemmas.List.{length-replicate, map-append, take_all, take_more}
use Rattle.bounds.specs.PlainKind.{plain_kind}
use Rattle.bounds.specs.declared.plain.PlainBound.{PlainBound}
use Rattle.docket_dues.specs.declared.item.Item.{Item}
use Rattle.docket_records.specs.ZoneRecords.{zone_of}
use Rattle.docket_example.specs.Checking.{CallsEnded, MayBeRefused, EntryStands, Stopped, at_entry, blank_page, call_for, check_verdict, given_by, initial_marking, listing, log_before, opening_of, proving, target_given}
use Rattle.docket_example.specs.declared.certificate.Certificate.{Certificate}
use Rattle.docket_example.specs.declared.checking.Entry.{Entry}
use Rattle.docket_example.specs.declared.checking.Entry.TheVariants.{Opening as InOpening, Zone, ListEnd, Voucher}
use Rattle.docket_example.specs.declared.checking.Refused.{Refused}
use Rattle.docket_example.specs.declared.checking.Verdict.TheVariants.{Sealed, StillDue}
use Rattle.nets.specs.Nets.{Net}
use Rattle.docket_rules.specs.Calls.{Closes, Left, Opens, Posts, Discharges, Step, is_early, next_due_of}
use Rattle.docket_rules.specs.Logs.{Log, no_log, proving_stage, still_due, with_call}
use Rattle.docket_rules.specs.Promise.{Kept}
use Rattle.docket_rules.specs.Reached.{CallLaws, ReachedByCalls}
use Rattle.docket_rules.specs.Tables.{Answer, is_listing}
use Rattle.docket_rules.specs.Worlds.{State, World, blank, book_cells, book_places, with_book, with_scratch}
use Rattle.zones.specs.Safety.{Safe, starts_at}

abbrev refused_or : Refused → Result (Unit {0}) Refused → Refused
refused_or other (Ok u) = other
refused_or other (Err x) = x

abbrev due_or : Item → Option Item → Item
due_or other None = other
due_or other (Some d) = d

-- ---- the scratch page
as_lent : (early : Bool) (lent page : List PlainBound) → lent ≡ page → cond early lent page ≡ page
as_lent true lent page e = e
as_lent false lent page e = refl

pub left_blank : (answer : Answer) (lent left : List PlainBound) → lent ≡ blank_page → Left plain_kind answer lent left → left ≡ blank_page
left_blank answer lent left e h = h ∙ as_lent (is_early answer) lent blank_page e

module _ (net : Net PlainBound) (c : Certificate) where
  -- ---- the step that a call's contract gives
  pub open_step : (w v : World PlainBound) (lent left : List PlainBound) (answer : Answer) → lent ≡ blank_page → Opens plain_kind net (given_by c) c.target.now (with_scratch w lent) (with_scratch v left) answer → Step plain_kind net w (call_for c InOpening answer) v
  open_step w v lent left answer e h = (left, subst (λ l. Opens plain_kind net (given_by c) c.target.now (with_scratch w l) (with_scratch v left) answer) e h)

  pub post_step : (n : ℕ) (w v : World PlainBound) (lent left : List PlainBound) (answer : Answer) → lent ≡ blank_page → Posts plain_kind net (get_or c.zones.now n []) (with_scratch w lent) (with_scratch v left) answer → Step plain_kind net w (call_for c (Zone n) answer) v
  post_step n w v lent left answer e h = (left, subst (λ l. Posts plain_kind net (get_or c.zones.now n []) (with_scratch w l) (with_scratch v left) answer) e h)

  pub discharge_step : (n : ℕ) (w : World PlainBound) (s : State) (lent left : List PlainBound) (answer : Answer) → lent ≡ blank_page → Discharges plain_kind net (get_or c.vouchers.now n []) (with_scratch w lent) s left answer → Step plain_kind net w (call_for c (Voucher n) answer) (with_book s w.cells w.places)
  discharge_step n w s lent left answer e h = (left, subst (λ l. Discharges plain_kind net (get_or c.vouchers.now n []) (with_scratch w l) s left answer) e h, record { cells = refl; places = refl })

  -- ---- where a step leads
  pub begun : CallLaws plain_kind net → (s : State) (x : PlainBound) → s ≡ blank → EntryStands net no_log (record { state = s; cells = replicate book_cells x; places = replicate book_places 0 })
  begun laws s x is =
      let book = replicate {A = ℕ} book_places 0 in
      record {
        reached = subst (λ s. ReachedByCalls plain_kind net no_log (record { state = s; cells = replicate book_cells x; places = book })) (sym is) (laws.start (replicate book_cells x) book);
        cells = length-replicate book_cells x;
        places = length-replicate {A = ℕ} book_places 0;
      }

  -- an entry that is taken
  pub gone_on : CallLaws plain_kind net → (e : Entry) (w v : World PlainBound) (answer : Answer) (u : Unit {0}) → Ok u ≡ at_entry e answer → length v.cells ≡ length w.cells → length v.places ≡ length w.places → EntryStands net (log_before c e) w → Step plain_kind net w (call_for c e answer) v → EntryStands net (with_call plain_kind (log_before c e) (call_for c e (Ok tt))) v
  gone_on laws e w v (Ok u) u' is full whole s step =
      record {
        reached = laws.more (log_before c e) w v (call_for c e (Ok tt)) s.reached step;
        cells = full ∙ s.cells;
        places = whole ∙ s.places;
      }
  gone_on laws e w v (Err r) u' is full whole s step = absurd (false≢true (ap is_err is))

  -- an entry that is refused
  pub stopped : CallLaws plain_kind net → (e : Entry) (w v : World PlainBound) (answer : Answer) (x : Refused) → MayBeRefused c e → Err x ≡ at_entry e answer → EntryStands net (log_before c e) w → Step plain_kind net w (call_for c e answer) v → Stopped net c x
  stopped laws e w v (Ok u) x may is s step = absurd (true≢false (ap is_err is))
  stopped laws e w v (Err r) x may is s step =
      subst (Stopped net c) (sym (ap (refused_or x) is))
      (record {
        may = may;
        world = w;
        stands = s;
        rule = (laws.kept (log_before c e) w s.reached).exact (call_for c e (Err r)) v step;
      })

  -- the end of the list, which is taken after an opening
  pub end_taken : {X : Type 0} → CallLaws plain_kind net → (n : ℕ) (w v : World PlainBound) (answer : Answer) (x : Refused) → Err x ≡ at_entry ListEnd answer → EntryStands net (listing c n) w → Closes w.state v.state answer → X
  end_taken laws n w v (Ok u) x is s closes = absurd (true≢false (ap is_err is))
  end_taken laws n w v (Err r) x is s closes =
      let listed : is_listing w.state.stage ≡ true = ap (λ t. is_listing t.stage) (laws.kept (listing c n) w s.reached).state in
      ⊎_elim (λ p. absurd (true≢false (sym listed ∙ p.0))) (λ p. absurd (true≢false (ap is_err p.1))) closes.answers

  -- ---- what the entries up to one have given
  zones_more : (n : ℕ) → n < length c.zones.now → map (zone_of plain_kind) (take n c.zones.now) ++ (zone_of plain_kind (get_or c.zones.now n []) ∷ []) ≡ map (zone_of plain_kind) (take (n + 1) c.zones.now)
  zones_more n below = sym (ap (map (zone_of plain_kind)) (take_more c.zones.now n [] below) ∙ map-append (zone_of plain_kind) (take n c.zones.now) (get_or c.zones.now n [] ∷ []))

  pub zone_listed : (n : ℕ) → n < length c.zones.now → with_call plain_kind (log_before c (Zone n)) (call_for c (Zone n) (Ok tt)) ≡ listing c (n + 1)
  zone_listed n below = ap (λ listed. record { opening = Some (opening_of c); listed = listed; closed = false; taken = 0 }) (zones_more n below)

  pub list_ended : with_call plain_kind (log_before c ListEnd) (call_for c ListEnd (Ok tt)) ≡ proving c 0
  list_ended = ap (λ zones. record { opening = Some (opening_of c); listed = map (zone_of plain_kind) zones; closed = true; taken = 0 }) (take_all (length c.zones.now) c.zones.now (omega arith))

  -- ---- the end
  said_due : (items : List Item) (d : Item) → Some d ≡ next_due_of (proving_stage items) → StillDue d ≡ check_verdict items
  said_due [] d e = absurd (false≢true (sym (ap is_some e)))
  said_due (i ∷ items) d e = ap StillDue (ap (due_or i) e)

  said_sealed : (items : List Item) → None ≡ next_due_of (proving_stage items) → items ≡ []
  said_sealed [] e = refl
  said_sealed (i ∷ items) e = absurd (false≢true (ap is_some e))

  module _ (laws : CallLaws plain_kind net) (w : World PlainBound) (s : EntryStands net (proving c (length c.vouchers.now)) w) where
    abbrev ended : Log PlainBound
    ended = proving c (length c.vouchers.now)

    kept : Kept plain_kind net ended w
    kept = laws.kept ended w s.reached

    stage : w.state.stage ≡ proving_stage (still_due net ended)
    stage = ap (λ t. t.stage) kept.state

    pub ended_due : (d : Item) → Some d ≡ next_due_of w.state.stage → CallsEnded net c (StillDue d)
    ended_due d e = record { world = w; stands = s; said = said_due (still_due net ended) d (e ∙ ap next_due_of stage) }

    none_due : None ≡ next_due_of w.state.stage → still_due net ended ≡ []
    none_due e = said_sealed (still_due net ended) (e ∙ ap next_due_of stage)

    pub ended_sealed : None ≡ next_due_of w.state.stage → CallsEnded net c Sealed
    ended_sealed e = record { world = w; stands = s; said = ap check_verdict (sym (none_due e)) }

    pub seal_holds : None ≡ next_due_of w.state.stage → Safe plain_kind net (starts_at (initial_marking c)) (target_given c)
    seal_holds e = kept.truth (stage ∙ ap proving_stage (none_due e))
