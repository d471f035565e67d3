-- Rows that stand in the first of some cells, one behind the other.
use Rattle.std.proofs.Common.{◌≡◌, ℕ, ◌+◌, ◌<◌, ◌≤◌, eqb, List, [], ◌++◌, drop, map, length, get_or, Some, None, Option, sym, ap, ◌∙◌, arith, length-append}
use lib.ListN.{length-map}
use lib.Seq.{drop-append-add}
use Rattle.std.proofs.Math.ListN.{get_or-append}
use Rattle.std.proofs.lemmas.Bool.{cond_both}
use Rattle.std.proofs.lemmas.List.{get_or-append-add}
use Rattle.bounds.specs.Kinds.{Kind}
use Rattle.nets.specs.Nets.{Arc, Limits, Net, Transition, numbered, transition_of}
use Rattle.zone_walks.specs.Walks.{Matrix}
use Rattle.zones.proofs.Arcs.{transition_limits}
use Rattle.zones.specs.Predecessors.{places_at, staying}
use Rattle.zones.specs.Zones.{Zone, points}
use Rattle.zone_cells.proofs.Steps.{staying_few}
use Rattle.zone_closed_forms.specs.ClosedForms.{ClockRows, begun, delayed_rows, narrowed_from}
use Rattle.zone_closed_forms.proofs.Alike.{kept_closed_alike}
use Rattle.docket_dues.specs.Answered.{digits}
use Rattle.docket_dues.specs.declared.item.Item.{Item}
use Rattle.docket_vouching.specs.Asked.{WorkedOut, fired_from, rows_cells, rows_within, spread_zone, zone_asked}
use Rattle.docket_vouching.specs.Rows.{rows_in}
use Rattle.docket_vouching.specs.declared.work.Parts.{Parts}

-- at most thirteen points
abbrev pub FewOr : {B : Type 0} → Option (Zone B) → Type 0
FewOr None = Unit {0}
FewOr (Some p) = points p ≤ 13

module _ {B : Type 0} (kind : Kind B) (z : Zone B) (few : length z.places ≤ 8) where
  spread_few : (matching : List ℕ) (arcs : List (Arc B)) (rows : ClockRows B) → length arcs ≤ 4 → points (spread_zone kind z (staying matching z) arcs rows) ≤ 13
  spread_few matching arcs rows le =
      omega (arith, few, le, staying_few matching z, length-append (places_at (staying matching z) z) (map (λ a. a.place) arcs), length-map (staying matching z) (λ i. numbered z.places i 0), length-map arcs (λ a. a.place))

  fired_few : (t : Transition B) (matching : List ℕ) (o : Option (ClockRows B)) → length t.inputs ≤ 4 → FewOr (fired_from kind t matching z o)
  fired_few t matching None le = tt
  fired_few t matching (Some rows) le = spread_few matching t.inputs rows le

  pub asked_few : (net : Net B) (d : Item) → Limits kind net → FewOr (zone_asked kind net z d)
  asked_few net d limits =
      let t : Transition B = transition_of net d.transition in
      cond_both (eqb d.zone 0) _ _ FewOr (λ _. spread_few [] [] (begun z.bound) (omega arith))
      (λ _. cond_both (eqb d.transition 0) _ _ FewOr (λ _. spread_few [] [] (delayed_rows kind z) (omega arith))
      (λ _. fired_few t (digits net d.transition d.matching) (narrowed_from kind t.outputs (digits net d.transition d.matching) z.bound) (transition_limits kind net d.transition limits).few_inputs))

module _ {B : Type 0} (kind : Kind B) (x : Matrix B) (up low rest : List B) (some : length up ≡ 13) (others : length low ≡ 13) where
  up_at : (j : ℕ) → j < 13 → (rows_within kind (up ++ (low ++ rest))).up j ≡ (rows_in kind up low).up j
  up_at j l = get_or-append up (low ++ rest) kind.no_limit j (omega (arith, some, l))

  low_at : (k : ℕ) → k < 13 → (rows_within kind (up ++ (low ++ rest))).low k ≡ (rows_in kind up low).low k
  low_at k l =
      ap (λ n. get_or (up ++ (low ++ rest)) (n + k) kind.no_limit) (sym some)
      ∙ get_or-append-add up (low ++ rest) k kind.no_limit
      ∙ get_or-append low rest kind.no_limit k (omega (arith, others, l))

  pub worked_at : (o : Option (Zone B)) (answer : Option Parts) → FewOr o → WorkedOut kind x (rows_in kind up low) o answer → WorkedOut kind x (rows_within kind (up ++ (low ++ rest))) o answer
  worked_at None None few h = h
  worked_at None (Some parts) few h = h
  worked_at (Some asked) None few h = h
  worked_at (Some asked) (Some parts) few h =
      record {
        places = h.places;
        bounds = λ j i p q.
            kept_closed_alike kind x parts.kept.items (rows_within kind (up ++ (low ++ rest))) (rows_in kind up low) j i (up_at j (omega (arith, few, p))) (low_at i (omega (arith, few, q)))
            ∙ h.bounds j i p q;
      }

-- four rows and what is left
pub length_four : {X : Type 0} (a b c d e : List X) (n : ℕ) → length a + (length b + (length c + (length d + length e))) ≡ n → length (a ++ (b ++ (c ++ (d ++ e)))) ≡ n
length_four a b c d e n is = omega (arith, is, length-append a (b ++ (c ++ (d ++ e))), length-append b (c ++ (d ++ e)), length-append c (d ++ e), length-append d e)

drop_front : {X : Type 0} (a b : List X) (n k : ℕ) → length a ≡ n → drop (n + k) (a ++ b) ≡ drop k b
drop_front a b n k is = ap (λ m. drop (m + k) (a ++ b)) (sym is) ∙ drop-append-add a b k

drop_four : {X : Type 0} (a b c d e : List X) → length a ≡ 13 → length b ≡ 13 → length c ≡ 9 → length d ≡ 9 → drop rows_cells (a ++ (b ++ (c ++ (d ++ e)))) ≡ e
drop_four a b c d e p q r s =
    drop_front a (b ++ (c ++ (d ++ e))) 13 31 p ∙ drop_front b (c ++ (d ++ e)) 13 18 q ∙ drop_front c (d ++ e) 9 9 r ∙ drop_front d e 9 0 s

-- cells that were split into rows, and what is behind those
pub split_four : {X : Type 0} (cells a b c d e rest more last : List X) → length a ≡ 13 → length b ≡ 13 → length c ≡ 9 → length d ≡ 9 → cells ≡ a ++ rest → rest ≡ b ++ more → more ≡ c ++ last → last ≡ d ++ e → drop rows_cells cells ≡ e
split_four cells a b c d e rest more last p q r s by then after end =
    ap (drop rows_cells) (by ∙ ap (λ x. a ++ x) (then ∙ ap (λ x. b ++ x) (after ∙ ap (λ x. c ++ x) end))) ∙ drop_four a b c d e p q r s

-- the rows may be written
pub same_behind : {X : Type 0} (cells a b c d e : List X) → length a ≡ 13 → length b ≡ 13 → length c ≡ 9 → length d ≡ 9 → drop rows_cells cells ≡ e → drop rows_cells (a ++ (b ++ (c ++ (d ++ e)))) ≡ drop rows_cells cells
same_behind cells a b c d e p q r s is = drop_four a b c d e p q r s ∙ sym is
