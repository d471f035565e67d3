-- Both predecessors in the cells of a draft, step by step.
use Rattle.std.proofs.Common.{◌≡◌, ℕ, zero, suc, ◌+◌, ◌^◌, ◌<◌, ◌≤◌, true, false, ◌⊎◌, List, [], ◌∷◌, length, get_or, sym, refl, ap, ◌∙◌, subst, inl, inr, ⊎_elim, arith}
use Rattle.std.proofs.lemmas.Bool.{cases_Bool}
use Rattle.bounds.specs.Kinds.{Kind}
use Rattle.nets.specs.Nets.{Transition, TransitionLimits, Every}
use Rattle.zone_walks.specs.NormalForms.{largest_entry}
use Rattle.zone_walks.specs.Walks.{Negative, NormalForm, Settled, Sized, counted}
use Rattle.zone_walks.proofs.Closed.{Same}
use Rattle.zone_walks.proofs.NormalForms.{same_back, same_from, same_negative, same_sized, same_still, same_settled}
use Rattle.zones.specs.Predecessors.{among, matches, staying, picked, narrowed_by, DelayPredecessor, FiringPredecessor, Void}
use Rattle.zones.specs.Zones.{SizedZone}
use Rattle.zones.proofs.Digits.{one_each}
use Rattle.zone_cells.specs.Cells.{in_draft, times, matched_cells, picked_cells, input_cells, added_cells, delayed_cells, arc_at, column_least}
use Rattle.zone_cells.specs.Drafts.{draft_zone, Workable, largest_listed, largest_predecessor}
use Rattle.zone_cells.specs.Sizes.{draft_cells}
use Rattle.zone_cells.specs.Settling.{Ready, Consistent}
use Rattle.zone_cells.specs.Sifted.{sifted}
use Rattle.zone_cells.proofs.Grid.{length_matched, length-picked, length-added}
use Rattle.zone_cells.proofs.Operations.{Rising, matched_is, picked_is, kept_rises, kept_few, added_old, added_row, added_column, added_self, delayed_row, delayed_first, delayed_least, least_zero, least_below, least_reached}
use Rattle.zone_cells.proofs.Sifted.{sifted-others, sifted_among, sifted_inside, sifted_few}
use Rattle.zone_cells.proofs.Steps.{Good, normal_good, DelayedTo, delay_good, delay_normal, matches_below, narrow_still, narrow_sized, narrow_same, narrow_settled, Added, Grown, grown_added, fired_back, firing_picked, firing_predecessor, firing_good}

every_below : (n : ℕ) (xs : List ℕ) (i : ℕ) → 0 < n → Every (λ d. d < n) xs → get_or xs i 0 < n
every_below n [] i some h = some
every_below n (x ∷ xs) zero some h = h.0
every_below n (x ∷ xs) (suc i) some h = every_below n xs i some h.1

module _ {B : Type 0} (kind : Kind B) (places : List ℕ) (cells : List B) (work : Workable kind places cells) where
  abbrev n : ℕ
  n = suc (length places)

  pub work_good : Good kind (suc (length places)) largest_listed (in_draft kind cells)
  work_good = normal_good kind n largest_listed (in_draft kind cells) (omega (arith, work.formed.few)) (omega arith) (omega arith) work.formed.normal.still work.formed.normal.bounds work.formed.small

  -- ---- a delay
  abbrev after : List B
  after = delayed_cells kind n cells

  few : n ≤ 13
  few = omega (arith, work.formed.few)

  least_is : (i : ℕ) → 1 ≤ i → i < n → in_draft kind after 0 i ≡ column_least kind n i cells
  least_is i some l = delayed_least kind n cells work.full few i some l

  delayed_to : DelayedTo kind n (in_draft kind cells) (in_draft kind after)
  delayed_to =
      record {
        kept = λ j i some lj li. delayed_row kind n cells few j i some (omega (arith, li, few));
        origin = delayed_first kind n cells few 0 ∙ work.formed.normal.still 0 (omega arith);
        below_zero = λ i some l. ap (λ b. kind.at_most b kind.zero) (least_is i some l) ∙ least_zero kind n i cells;
        below = λ i j some l first inside. ap (λ b. kind.at_most b (in_draft kind cells j i)) (least_is i some l) ∙ least_below kind n i cells j first inside;
        least = λ i some l.
            ⊎_elim
            (λ e. inl (least_is i some l ∙ e))
            (λ r. inr (record { token = r.0; some = r.1; inside = r.2; is = least_is i some l ∙ r.3 }))
            (least_reached kind n i cells);
      }

  pub delay_before : DelayPredecessor kind (draft_zone kind places cells) (draft_zone kind places (delayed_cells kind (suc (length places)) cells))
  delay_before =
      record { places = refl; bounds = delay_normal kind n largest_listed (in_draft kind cells) (in_draft kind after) few (omega arith) (omega arith) work_good delayed_to }

  pub delay_small : SizedZone kind largest_listed (draft_zone kind places (delayed_cells kind (suc (length places)) cells))
  delay_small = (delay_good kind n largest_listed (in_draft kind cells) (in_draft kind after) few (omega arith) (omega arith) work_good delayed_to).sized

  -- ---- a firing
  module _ (t : Transition B) (net_places : ℕ) (limits : TransitionLimits kind net_places t) (ms : List ℕ) (matched : matches places t.outputs ms ≡ true) where
    abbrev narrow_cells : List B
    narrow_cells = matched_cells kind t.outputs ms cells

    narrow_is : Same n (in_draft kind narrow_cells) (narrowed_by kind t.outputs ms (in_draft kind cells))
    narrow_is j i lj li =
        matched_is kind t.outputs ms cells work.full (one_each places t.outputs ms matched) (λ a l. omega (arith, every_below (suc (length places)) ms a (omega arith) (matches_below places t.outputs ms matched), few)) j i (omega (arith, lj, few)) (omega (arith, li, few))

    narrow_counted : Same n (in_draft kind narrow_cells) (counted kind (narrowed_by kind t.outputs ms (in_draft kind cells)))
    narrow_counted j i lj li = narrow_is j i lj li ∙ sym (narrow_same kind n largest_listed t.outputs ms (in_draft kind cells) (omega arith) work_good j i lj li)

    narrowed_back : Same n (narrowed_by kind t.outputs ms (in_draft kind cells)) (in_draft kind narrow_cells)
    narrowed_back = same_back kind n (in_draft kind narrow_cells) (narrowed_by kind t.outputs ms (in_draft kind cells)) narrow_is

    settled_or_among : (v : ℕ) → v < n → (among v (0 ∷ sifted true ms 1 (length places)) ≡ true) ⊎ Settled kind n (in_draft kind narrow_cells) v
    settled_or_among zero l = inl refl
    settled_or_among (suc v) l =
        ⊎_elim
        (λ h. inl (sifted_among ms (length places) (suc v) (omega arith) l h))
        (λ h. inr (same_settled kind n (narrowed_by kind t.outputs ms (in_draft kind cells)) (in_draft kind narrow_cells) (suc v) l narrowed_back (narrow_settled kind n largest_listed t.outputs ms (in_draft kind cells) (suc v) work_good l (omega arith) h)))
        (cases_Bool (among (suc v) ms))

    narrow_small : Sized kind n largest_entry (in_draft kind narrow_cells)
    narrow_small j i lj li =
        let sized = narrow_sized kind n largest_listed net_places t.outputs ms (in_draft kind cells) limits.outputs (omega arith) work.formed.small in
        omega (arith, same_sized kind n largest_listed (narrowed_by kind t.outputs ms (in_draft kind cells)) (in_draft kind narrow_cells) narrowed_back sized j i lj li)

    pub firing_ready : Ready kind (suc (length places)) (0 ∷ sifted true ms 1 (length places)) (matched_cells kind t.outputs ms cells)
    firing_ready =
        record {
          full = length_matched kind t.outputs ms cells ∙ work.full;
          few = few;
          rounds = omega (arith, sifted_few true ms 1 (length places), work.formed.few);
          inside = sifted_inside ms (length places);
          still = same_still kind n (narrowed_by kind t.outputs ms (in_draft kind cells)) (in_draft kind narrow_cells) narrowed_back (narrow_still kind n t.outputs ms (in_draft kind cells) work.formed.normal.still);
          sized = narrow_small;
          settled = settled_or_among;
        }

    pub firing_void : Negative kind (suc (length places)) (in_draft kind (matched_cells kind t.outputs ms cells)) → Void kind t ms (draft_zone kind places cells)
    firing_void negative = same_negative kind n (in_draft kind narrow_cells) (counted kind (narrowed_by kind t.outputs ms (in_draft kind cells))) narrow_counted negative

    module _ (closed : List B) (consistent : Consistent kind (suc (length places)) (in_draft kind (matched_cells kind t.outputs ms cells)) (in_draft kind closed)) where
      abbrev stay : List ℕ
      stay = staying ms (draft_zone kind places cells)

      abbrev rows : ℕ
      rows = suc (length (staying ms (draft_zone kind places cells)))

      narrows : NormalForm kind n (counted kind (narrowed_by kind t.outputs ms (in_draft kind cells))) (in_draft kind closed)
      narrows = same_from kind n (in_draft kind narrow_cells) (counted kind (narrowed_by kind t.outputs ms (in_draft kind cells))) (in_draft kind closed) narrow_counted consistent.normal

      possible : Void kind t ms (draft_zone kind places cells) → ⊥
      possible v = consistent.none (same_negative kind n (counted kind (narrowed_by kind t.outputs ms (in_draft kind cells))) (in_draft kind narrow_cells) (same_back kind n (in_draft kind narrow_cells) (counted kind (narrowed_by kind t.outputs ms (in_draft kind cells))) narrow_counted) v)

      rows_few : rows ≤ 9
      rows_few = omega (arith, kept_few ms (length places), work.formed.few)

      -- any cells that hold the bounds between the points that stay
      module _ (off : List B) (whole : length off ≡ draft_cells) (first_stage : Same (suc (length (staying ms (draft_zone kind places cells)))) (in_draft kind off) (picked (0 ∷ staying ms (draft_zone kind places cells)) (in_draft kind closed))) where
        abbrev stage : ℕ → List B
        stage k = times k (λ a c. added_cells kind (arc_at kind t.inputs a).range (rows + a) c) off

        stage_full : (k : ℕ) → length (stage k) ≡ draft_cells
        stage_full zero = whole
        stage_full (suc k) = length-added kind (arc_at kind t.inputs k).range (rows + k) (stage k) ∙ stage_full k

        grown : Grown kind rows t.inputs (λ k. in_draft kind (stage k))
        grown k l =
            let range = (arc_at kind t.inputs k).range in
            let m : rows + k < 13 = omega (arith, rows_few, l, limits.few_inputs) in
            let some : 1 ≤ rows + k = omega arith in
            record {
              old = λ a b la lb. added_old kind range (rows + k) (stage k) m a b la lb;
              row = λ b lb. added_row kind range (rows + k) (stage k) (stage_full k) some m b lb;
              column = λ a la. added_column kind range (rows + k) (stage k) (stage_full k) some m a la;
              still = added_self kind range (rows + k) (stage k) (stage_full k) m;
            }

        added : Added kind rows t.inputs (length t.inputs) (picked (0 ∷ stay) (in_draft kind closed)) (in_draft kind (stage (length t.inputs)))
        added =
            grown_added kind rows (2 ^ 26) net_places t.inputs (picked (0 ∷ stay) (in_draft kind closed)) (omega arith) (omega arith) (omega arith) limits.inputs (firing_picked kind t ms (draft_zone kind places cells) net_places work.formed.few work_good limits matched (in_draft kind closed) narrows possible) (λ k. in_draft kind (stage k)) first_stage grown

        -- what stays, and the input arcs' tokens behind it
        pub added_before : FiringPredecessor kind t ms (draft_zone kind places cells) (fired_back t ms (draft_zone kind places cells) (in_draft kind (input_cells kind t.inputs (suc (length (staying ms (draft_zone kind places cells)))) off)))
        added_before = firing_predecessor kind t ms (draft_zone kind places cells) net_places work.formed.few work_good limits matched (in_draft kind closed) narrows possible (in_draft kind (stage (length t.inputs))) added

        pub added_small : SizedZone kind largest_predecessor (fired_back t ms (draft_zone kind places cells) (in_draft kind (input_cells kind t.inputs (suc (length (staying ms (draft_zone kind places cells)))) off)))
        added_small = (firing_good kind t ms (draft_zone kind places cells) net_places work.formed.few work_good limits matched (in_draft kind closed) narrows possible (in_draft kind (stage (length t.inputs))) added).sized

      -- the cells in which the rows and columns of the points that stay have closed up
      module _ (whole : length closed ≡ draft_cells) (count : ℕ) (kept : List ℕ) (listed : kept ≡ 0 ∷ sifted false ms 1 (length places)) (all : count ≡ length kept) where
        count_is : count ≡ rows
        count_is = all ∙ ap length listed ∙ ap (λ xs. suc (length xs)) (sifted-others ms 1 (length places))

        kept_at : (j : ℕ) → j < rows → get_or kept j 0 ≡ get_or (0 ∷ stay) j 0
        kept_at j l = ap (λ xs. get_or xs j 0) listed ∙ ap (λ xs. get_or (0 ∷ xs) j 0) (sifted-others ms 1 (length places))

        rising : Rising kept rows
        rising =
            let r = kept_rises ms (length places) (omega (arith, work.formed.few)) in
            record {
              from = λ j l. omega (arith, r.from j l, kept_at j l);
              inside = λ j l. omega (arith, r.inside j l, kept_at j l);
              rises = λ i j less l. let li : i < rows = omega (arith, less, l) in omega (arith, r.rises i j less l, kept_at j l, kept_at i li);
            }

        closed_up : Same rows (in_draft kind (picked_cells kind kept rows closed)) (picked (0 ∷ stay) (in_draft kind closed))
        closed_up j i lj li =
            picked_is kind kept rows closed whole (omega (arith, rows_few)) rising j i lj li
            ∙ ap (λ p. in_draft kind closed p (get_or kept i 0)) (kept_at j lj)
            ∙ ap (λ p. in_draft kind closed (get_or (0 ∷ stay) j 0) p) (kept_at i li)

        full : length (picked_cells kind kept rows closed) ≡ draft_cells
        full = length-picked kind kept rows closed ∙ whole

        pub firing_before : FiringPredecessor kind t ms (draft_zone kind places cells) (fired_back t ms (draft_zone kind places cells) (in_draft kind (input_cells kind t.inputs count (picked_cells kind kept count closed))))
        firing_before =
            subst (λ m. FiringPredecessor kind t ms (draft_zone kind places cells) (fired_back t ms (draft_zone kind places cells) (in_draft kind (input_cells kind t.inputs m (picked_cells kind kept m closed))))) (sym count_is) (added_before (picked_cells kind kept rows closed) full closed_up)

        pub firing_small : SizedZone kind largest_predecessor (fired_back t ms (draft_zone kind places cells) (in_draft kind (input_cells kind t.inputs count (picked_cells kind kept count closed))))
        firing_small =
            subst (λ m. SizedZone kind largest_predecessor (fired_back t ms (draft_zone kind places cells) (in_draft kind (input_cells kind t.inputs m (picked_cells kind kept m closed))))) (sym count_is) (added_small (picked_cells kind kept rows closed) full closed_up)
