-- Where every token stays and none is added: a page's own zone, and the one before a delay.
use Rattle.std.proofs.Common.{◌≡◌, ℕ, zero, suc, ◌+◌, ◌<◌, true, ltb, List, [], ◌∷◌, map, length, get_or, sym, refl, ap, ◌∙◌, subst, arith}
use Rattle.std.proofs.lemmas.Bool.{cond-true, lt-ltb, and_from}
use Rattle.std.proofs.lemmas.List.{append-nil}
use Rattle.bounds.specs.Kinds.{Kind}
use Rattle.nets.specs.Nets.{numbered}
use Rattle.zone_walks.specs.Walks.{lesser, Sized}
use Rattle.zone_walks.proofs.Closed.{Same}
use Rattle.zone_walks.proofs.Lessers.{lesser_is_left}
use Rattle.zone_walks.proofs.NormalForms.{same_sized, same_to}
use Rattle.zones.specs.Predecessors.{others, staying, places_at}
use Rattle.zones.specs.Zones.{Zone, points}
use Rattle.zone_cells.specs.Drafts.{largest_listed}
use Rattle.zone_closed_forms.specs.ClockRows.{Alike}
use Rattle.zone_closed_forms.specs.ClosedForms.{ClockRows, begun, by_clock, closed, kept_closed, kept_zone, spread, delayed_rows, delayed_zone}
use Rattle.zone_cells.specs.Drafts.{PageFormed}
use Rattle.zone_closed_forms.specs.Laws.{DelayForm}
use Rattle.zone_closed_forms.proofs.Alike.{closed_alike, framed_alike}
use Rattle.zone_closed_forms.proofs.Laid.{shortest_is_closed}
use Rattle.zone_closed_forms.proofs.Narrowed.{listed_good}
use Rattle.zone_closed_forms.proofs.Narrowing.{begun_exact}

-- ---- all tokens
all_count : (first n : ℕ) → length (others [] first n) ≡ n
all_count first zero = refl
all_count first (suc n) = ap suc (all_count (suc first) n)

all_at : (first n i : ℕ) → i < n → get_or (others [] first n) i 0 ≡ first + i
all_at first zero i l = absurd (omega arith)
all_at first (suc n) zero l = omega arith
all_at first (suc n) (suc i) l = all_at (suc first) n i (omega arith) ∙ omega arith

all_later : (f : ℕ → ℕ) (first n : ℕ) → map f (others [] (suc first) n) ≡ map (λ i. f (suc i)) (others [] first n)
all_later f first zero = refl
all_later f first (suc n) = ap (λ l. f (suc first) ∷ l) (all_later f (suc first) n)

all_items : (xs : List ℕ) → map (λ i. get_or xs i 0) (others [] 0 (length xs)) ≡ xs
all_items [] = refl
all_items (x ∷ xs) = ap (λ l. x ∷ l) (all_later (λ i. get_or (x ∷ xs) i 0) 0 (length xs) ∙ all_items xs)

all_places : {B : Type 0} (z : Zone B) → places_at (staying [] z) z ≡ z.places
all_places z = all_later (λ i. numbered z.places i 0) 0 (length z.places) ∙ all_items z.places

module _ {B : Type 0} (kind : Kind B) (z : Zone B) where
  abbrev kept : List ℕ
  kept = 0 ∷ staying [] z

  kept_at : (j : ℕ) → j < points z → get_or (0 ∷ staying [] z) j 0 ≡ j
  kept_at zero l = refl
  kept_at (suc j) l = all_at 1 (length z.places) j (omega arith) ∙ omega arith

  kept_test : (j : ℕ) → j < points z → ltb j (length (0 ∷ staying [] z)) ≡ true
  kept_test j l = ap (ltb j) (ap suc (all_count 1 (length z.places))) ∙ lt-ltb j (points z) l

  -- where all stay, rows of the page's points are the zone's own
  pub spread_alike : (rows : ClockRows B) → Alike (points z) rows (spread kind (0 ∷ staying [] z) [] rows)
  spread_alike rows =
      record {
        up = λ j l. sym (cond-true _ _ _ (kept_test j l) ∙ ap rows.up (kept_at j l));
        low = λ k l. sym (cond-true _ _ _ (kept_test k l) ∙ ap rows.low (kept_at k l));
      }

  module _ (own : ClockRows B) where
    all_kept : Same (points z) (kept_closed kind z.bound (0 ∷ staying [] z) own) (closed kind z.bound own)
    all_kept j k p q =
        framed_alike kind own own j k _ _ refl refl
        (cond-true _ _ _ (and_from _ _ (kept_test j p) (kept_test k q))
        ∙ ap (λ b. lesser kind b (by_clock kind own j k)) (ap (λ i. z.bound i (get_or kept k 0)) (kept_at j p) ∙ ap (z.bound j) (kept_at k q)))

    pub kept_places : (kept_zone kind z (staying [] z) [] own).places ≡ z.places
    kept_places = append-nil (places_at (staying [] z) z) ∙ all_places z

    kept_as : (rows : ClockRows B) → Alike (points z) rows own → Same (points z) (closed kind z.bound rows) (kept_zone kind z (staying [] z) [] own).bound
    kept_as rows h j k p q = closed_alike kind (points z) z.bound rows own h j k p q ∙ sym (all_kept j k p q)

    pub kept_delayed : Alike (points z) (delayed_rows kind z) own → DelayForm kind z (delayed_zone kind z) → DelayForm kind z (kept_zone kind z (staying [] z) [] own)
    kept_delayed h d =
        let same = kept_as (delayed_rows kind z) h in
        let is = d.is in
        record {
          is = record { places = kept_places; bounds = same_to kind (points z) _ _ _ same is.bounds };
          small = subst (λ ps. Sized kind (suc (length ps)) largest_listed (kept_zone kind z (staying [] z) [] own).bound) (sym kept_places) (same_sized kind (points z) largest_listed _ _ same d.small);
        }

    pub kept_whole : PageFormed kind z → Alike (points z) (begun z.bound) own → Same (points z) (kept_zone kind z (staying [] z) [] own).bound z.bound
    kept_whole h alike j k p q =
        let g = listed_good kind z h in
        let e = (begun_exact kind (points z) (omega arith) z.bound g).laid in
        sym (kept_as (begun z.bound) alike j k p q)
        ∙ sym (shortest_is_closed kind (points z) (omega arith) z.bound g (begun z.bound) e j k p q)
        ∙ lesser_is_left kind (z.bound j k) (by_clock kind (begun z.bound) j k) (g.closed.settled 0 (omega arith) j k p q)
