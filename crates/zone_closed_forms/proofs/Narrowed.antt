-- The rows of a listed zone that is narrowed, as a normal form or none.
use Rattle.std.proofs.Common.{ℕ, ◌^◌, ◌<◌, List, Some, None, Option, refl, arith}
use Rattle.bounds.specs.Kinds.{Kind}
use Rattle.nets.specs.Nets.{Arc, ArcLimits, Every}
use Rattle.zone_walks.specs.Walks.{Matrix, counted, Negative, Sized, Still}
use Rattle.zone_walks.specs.NormalForms.{largest_entry}
use Rattle.zone_walks.proofs.Closed.{Same}
use Rattle.zone_walks.proofs.NormalForms.{same_back, same_from, same_to, same_negative}
use Rattle.zones.specs.Predecessors.{narrowed_by}
use Rattle.zones.specs.Zones.{Zone, points}
use Rattle.zone_cells.specs.Drafts.{largest_listed}
use Rattle.zone_cells.proofs.Steps.{Good, normal_good, narrow_same, narrow_sized, narrow_still}
use Rattle.zone_closed_forms.specs.ClosedForms.{ClockRows, closed, narrowed_from, begun}
use Rattle.zone_cells.specs.Drafts.{PageFormed}
use Rattle.zone_closed_forms.specs.Laws.{NarrowedFormOr}
use Rattle.zone_closed_forms.proofs.Greatest.{ClosedBelow, Consistent, no_closed, greatest_normal}
use Rattle.zone_closed_forms.proofs.Laid.{shortest, shortest_closed, shortest_sized, shortest_is_closed}
use Rattle.zone_closed_forms.proofs.Narrowing.{Exact, ExactOr, begun_exact, all_exact, exact_greatest}

module _ {B : Type 0} (kind : Kind B) (z : Zone B) (h : PageFormed kind z) where
  pub listed_good : Good kind (points z) (2 ^ 22) z.bound
  listed_good = normal_good kind (points z) largest_listed z.bound (omega (arith, h.few)) (omega arith) (omega arith) h.normal.still h.normal.bounds h.small

  module _ (places : ℕ) (arcs : List (Arc B)) (matching : List ℕ) (limits : Every (ArcLimits kind places) arcs) (inside : Every (λ d. d < points z) matching) where
    abbrev narrow : Matrix B
    narrow = narrowed_by kind arcs matching z.bound

    same : Same (points z) (counted kind (narrowed_by kind arcs matching z.bound)) (narrowed_by kind arcs matching z.bound)
    same = narrow_same kind (points z) (2 ^ 22) arcs matching z.bound (omega arith) listed_good

    still : Still kind (points z) (narrowed_by kind arcs matching z.bound)
    still = narrow_still kind (points z) arcs matching z.bound h.normal.still

    sized : Sized kind (points z) largest_entry (narrowed_by kind arcs matching z.bound)
    sized j i a b = omega (arith, narrow_sized kind (points z) largest_listed places arcs matching z.bound limits (omega arith) h.small j i a b)

    back : Same (points z) (narrowed_by kind arcs matching z.bound) (counted kind (narrowed_by kind arcs matching z.bound))
    back = same_back kind (points z) (counted kind narrow) narrow same

    -- the rows as the proofs need them
    pub exact_or : ExactOr kind (points z) z.bound (narrowed_by kind arcs matching z.bound) (narrowed_from kind arcs matching z.bound)
    exact_or = all_exact kind (points z) (omega arith) z.bound listed_good places arcs matching z.bound (begun z.bound) limits inside (begun_exact kind (points z) (omega arith) z.bound listed_good)

    pub exact_consistent : (rows : ClockRows B) → Exact kind (points z) z.bound (narrowed_by kind arcs matching z.bound) rows → Consistent kind (points z) (counted kind (narrowed_by kind arcs matching z.bound)) (shortest kind z.bound rows)
    exact_consistent rows e =
        let closed_below : ClosedBelow kind (points z) narrow (shortest kind z.bound rows) = record {
          closed = shortest_closed kind (points z) (omega arith) z.bound listed_good rows e.laid;
          below = e.below;
          sized = λ j i a b. omega (arith, shortest_sized kind (points z) (omega arith) z.bound listed_good rows e.laid j i a b);
        } in
        let c = greatest_normal kind (points z) (omega (arith, h.few)) narrow sized still (shortest kind z.bound rows) closed_below (exact_greatest kind (points z) (omega arith) z.bound listed_good narrow rows e) in
        record {
          normal = same_from kind (points z) narrow (counted kind narrow) (shortest kind z.bound rows) back c.normal;
          none = λ m. c.none (same_negative kind (points z) (counted kind narrow) narrow same m);
        }

    pub exact_negative : ((y : Matrix B) → ClosedBelow kind (points z) (narrowed_by kind arcs matching z.bound) y → ⊥) → Negative kind (points z) (counted kind (narrowed_by kind arcs matching z.bound))
    exact_negative none = same_negative kind (points z) narrow (counted kind narrow) back (no_closed kind (points z) (omega (arith, h.few)) narrow sized still none)

    form_or : (o : Option (ClockRows B)) → ExactOr kind (points z) z.bound (narrowed_by kind arcs matching z.bound) o → NarrowedFormOr kind arcs matching z o
    form_or None e = exact_negative e
    form_or (Some rows) e =
        let c = exact_consistent rows e in
        record {
          consistent = c.none;
          normal = record {
            places = refl;
            bounds = same_to kind (points z) (counted kind narrow) (shortest kind z.bound rows) (closed kind z.bound rows) (shortest_is_closed kind (points z) (omega arith) z.bound listed_good rows e.laid) c.normal;
          };
        }

    pub narrowed_form : NarrowedFormOr kind arcs matching z (narrowed_from kind arcs matching z.bound)
    narrowed_form = form_or (narrowed_from kind arcs matching z.bound) exact_or
