-- The steps of both predecessors put together.
use Rattle.std.proofs.Common.{◌≡◌, ℕ, suc, ◌+◌, ◌-◌, ◌<◌, ◌≤◌, Bool, true, false, cond, eqb, List, ◌∷◌, ◌++◌, map, length, get_or, take, drop, Some, None, sym, refl, ap, ◌∙◌, subst, subst₂, ap₂, arith}
use Rattle.bounds.specs.Kinds.{Kind}
use Rattle.zone_cells.specs.Cells.{arc_at, in_draft, matched_cells, narrowed_cells, times, picked_cells, input_cells, delayed_cells}
use Rattle.zone_cells.specs.Drafts.{draft_zone, Workable}
use Rattle.zone_cells.specs.Settling.{SettlingAnswered, Settles}
use Rattle.zone_cells.specs.Sifted.{sifted}
use Rattle.zone_cells.proofs.Composed.{delay_before, delay_small, firing_ready, firing_void, firing_before, firing_small}
use Rattle.zone_cells.proofs.Grid.{length_matched, length-picked, length_inputs, length_delayed}
use Rattle.zone_cells.proofs.Sifted.{sifted-others, sifted_few}
use Rattle.zone_matchings.proofs.Steps.{numbered_from}
use Rattle.zone_drafts.proofs.Steps.{one_numbered, last_numbered}
use Rattle.nets.specs.Nets.{Arc, Transition, TransitionLimits, no_arc, numbered}
use Rattle.zones.specs.Predecessors.{matches}
use Rattle.std.proofs.lemmas.List.{length-map, take_rest}
use Rattle.zone_drafts.specs.Backwards.{DelayedBack, NarrowedAnswer, Narrowed, Replaced, Predecessor, FiredBack}
use Rattle.arrayvec.specs.ArrayVec.{ArrayVec}

module _ {B : Type 0} (kind : Kind B) where
  pub delayed_back : (places : List ℕ) (before after : List B) → after ≡ delayed_cells kind (length places + 1) before → DelayedBack kind places before after
  delayed_back places before after is =
      let e : length places + 1 ≡ suc (length places) = omega arith in
      let same = is ∙ ap (λ m. delayed_cells kind m before) e in
      subst (DelayedBack kind places before) (sym same) (record { kept = length_delayed kind (suc (length places)) before; is = delay_before kind places before; small = delay_small kind places before })

  -- the output arcs narrow their tokens one after the other
  module _ (arcs : List (Arc B)) (ms : List ℕ) (before : List B) where
    abbrev pub after_arcs : ℕ → List B
    after_arcs n = times n (λ a c. cond (eqb (get_or ms a 0) 0) c (narrowed_cells kind (get_or ms a 0) (arc_at kind arcs a).range c)) before

    pub one_narrows : (arc : ℕ) (cells next : List B) → 0 < arc → cells ≡ after_arcs (arc - 1) → next ≡ cond (eqb (get_or ms (arc - 1) 0) 0) cells (narrowed_cells kind (get_or ms (arc - 1) 0) (numbered arcs arc (no_arc kind)).range cells) → next ≡ after_arcs (arc + 1 - 1)
    one_narrows arc cells next some so_far is =
        let token = get_or ms (arc - 1) 0 in
        one_numbered arc _ before cells next some so_far (is ∙ ap (λ (a : Arc B). cond (eqb token 0) cells (narrowed_cells kind token a.range cells)) (numbered_from arcs arc _ some))

    pub all_narrowed : (arc count : ℕ) (cells : List B) → cells ≡ after_arcs (arc - 1) → count ≡ length arcs → count < arc → (1 ≤ count → arc ≤ count) → (count ≡ 0 → arc ≡ 1) → cells ≡ matched_cells kind arcs ms before
    all_narrowed arc count cells so_far all past end none = last_numbered count arc _ before cells so_far past end none ∙ ap after_arcs all

  module _ (t : Transition B) (net_places : ℕ) (limits : TransitionLimits kind net_places t) (ms : List ℕ) where
    narrowed_answer : (places : List ℕ) (before after : List B) (work : Workable kind places before) (matched : matches places t.outputs ms ≡ true) (answer : Bool) → SettlingAnswered kind (suc (length places)) (in_draft kind (matched_cells kind t.outputs ms before)) (in_draft kind after) answer → NarrowedAnswer kind t ms places before after answer
    narrowed_answer places before after work matched true h = h
    narrowed_answer places before after work matched false h = firing_void kind places before work t net_places limits ms matched h

    pub narrowed_all : (places : List ℕ) (before narrow after : List B) (pivots : List ℕ) (answer : Bool) → narrow ≡ matched_cells kind t.outputs ms before → pivots ≡ 0 ∷ sifted true ms 1 (length places) → Settles kind (length places + 1) pivots narrow after answer → Narrowed kind t ms places before after answer
    narrowed_all places before narrow after pivots answer is which settles =
        record {
          kept = settles.kept ∙ ap length is ∙ length_matched kind t.outputs ms before;
          answered = λ work matched.
              let e : length places + 1 ≡ suc (length places) = omega arith in
              let s : Settles kind (suc (length places)) (0 ∷ sifted true ms 1 (length places)) (matched_cells kind t.outputs ms before) after answer =
              subst (λ c. Settles kind (suc (length places)) (0 ∷ sifted true ms 1 (length places)) c after answer) is (subst (λ ps. Settles kind (suc (length places)) ps narrow after answer) which (subst (λ m. Settles kind m pivots narrow after answer) e settles)) in
              narrowed_answer places before after work matched answer (s.answered (firing_ready kind places before work t net_places limits ms matched));
        }

    pub replaced_all : (places : List ℕ) (closed picked after : List B) (count : ℕ) (kept first answer : List ℕ) → kept ≡ 0 ∷ sifted false ms 1 (length places) → count ≡ length kept → picked ≡ picked_cells kind kept count closed → after ≡ input_cells kind t.inputs (length first + 1) picked → first ≡ map (λ i. numbered places i 0) (sifted false ms 1 (length places)) → answer ≡ first ++ map (λ a. a.place) t.inputs → Replaced kind t ms places closed after answer
    replaced_all places closed picked after count kept first answer listed all off is staying behind =
        let f : ℕ → ℕ = λ i. numbered places i 0 in
        let counted : length first + 1 ≡ count = omega (arith, all, ap length listed, ap length staying, length-map (sifted false ms 1 (length places)) f) in
        let same = is ∙ ap₂ (input_cells kind t.inputs) counted off in
        let tokens = behind ∙ ap (λ xs. xs ++ map (λ a. a.place) t.inputs) (staying ∙ ap (map (λ i. numbered places i 0)) (sifted-others ms 1 (length places))) in
        record {
          kept = ap length same ∙ length_inputs kind t.inputs count (picked_cells kind kept count closed) ∙ length-picked kind kept count closed;
          answered = λ before work matched whole consistent.
              subst₂ (λ c ps. Predecessor kind t ms (draft_zone kind places before) c ps) (sym same) (sym tokens) (record {
                is = firing_before kind places before work t net_places limits ms matched closed consistent whole count kept listed all;
                small = firing_small kind places before work t net_places limits ms matched closed consistent whole count kept listed all;
              });
        }

  -- the answers of a firing: it is void, or its two halves are the predecessor
  module _ (t : Transition B) (ms : List ℕ) where
    pub fired_void : (places : List ℕ) (before after : List B) → Narrowed kind t ms places before after false → FiredBack kind t ms places before after None
    fired_void places before after narrowed = record { kept = narrowed.kept; answered = narrowed.answered }

    pub fired_some : (places : List ℕ) (before closed after : List B) (tokens : ArrayVec ℕ) → Narrowed kind t ms places before closed true → Replaced kind t ms places closed after tokens.items → FiredBack kind t ms places before after (Some tokens)
    fired_some places before closed after tokens narrowed replaced =
        record {
          kept = replaced.kept ∙ narrowed.kept;
          answered = λ work matched. replaced.answered before work matched (narrowed.kept ∙ work.full) (narrowed.answered work matched);
        }

    pub fired_not : (places : List ℕ) (before : List B) → 8 < length places → FiredBack kind t ms places before before None
    fired_not places before many = record { kept = refl; answered = λ work matched. absurd (omega (arith, many, work.formed.few)) }

-- the points behind the clock, each under f
module _ (f : ℕ → ℕ) (ms points part first : List ℕ) (n : ℕ) (listed : points ≡ 0 ∷ sifted false ms 1 n) (same : part ≡ points) (is : first ≡ map f (take (length part - 1) (drop 1 part))) where
  pub behind_clock : first ≡ map f (sifted false ms 1 n)
  behind_clock = is ∙ ap (map f) (take_rest part 1 ∙ ap (drop 1) (same ∙ listed))

  pub few_behind : length first ≤ n
  few_behind = omega (arith, ap length behind_clock, length-map (sifted false ms 1 n) f, sifted_few false ms 1 n)
