-- What each step back from a page's zone makes of the draft that it was loaded into.
use Rattle.std.proofs.Common.{◌≡◌, ℕ, zero, suc, ◌≤◌, true, cond, List, [], length, Option, Some, None, sym, refl, ap, ◌∙◌, subst, arith}
use Rattle.std.proofs.lemmas.Bool.{and_parts, le-leb}
use Rattle.std.proofs.lemmas.List.{get_or-map, length-map}
use Rattle.arrayvec.specs.ArrayVec.{ArrayVec}
use Rattle.bounds.specs.Kinds.{Kind}
use Rattle.zone_pages.specs.Books.{page_points}
use Rattle.zone_cells.specs.Cells.{in_draft, in_page}
use Rattle.zone_cells.specs.Sizes.{draft_cells}
use Rattle.zone_cells.specs.Drafts.{Workable, draft_zone, largest_listed}
use Rattle.zone_cells.proofs.Grid.{length-written}
use Rattle.zone_cells.proofs.Loading.{written_is}
use Rattle.nets.specs.Nets.{Net, arcs_of, transition_of}
use Rattle.nets.specs.declared.side.Side.TheVariants.{Output}
use Rattle.zone_drafts.specs.Backwards.{DelayedBack, FiredBack, FiringAnswer}
use Rattle.zones.specs.Predecessors.{DelayPredecessor, is_matching, matches}
use Rattle.zones.specs.Zones.{Zone}
use Rattle.docket_dues.specs.Answered.{SameZone, digits, zone_named}
use Rattle.docket_dues.specs.Dues.{item}
use Rattle.docket_dues.proofs.Same.{delay_same, firing_same, normal_same, sized_same, void_same}
use Rattle.docket_items.specs.Made.{PageHolds, ItemAnswer, ZoneMade, copied, loaded}

module _ {B : Type 0} (kind : Kind B) (page_places : List ℕ) (page before draft : List B) (is : draft ≡ loaded kind page_places page before) where
  kept : length draft ≡ length before
  kept = ap length is ∙ length-written (in_page kind page) (page_points page_places) before

  module _ (z : Zone B) (full : length before ≡ draft_cells) (holds : PageHolds kind z page_places page) where
    few : length page_places ≤ 8
    few = let same = ap length holds.same.places in omega (arith, same, holds.formed.few)

    same : SameZone z (draft_zone kind page_places draft)
    same =
        let long = ap length holds.same.places in
        let points : page_points page_places ≡ suc (length page_places) = ap (λ b. cond b (suc (length page_places)) 0) (le-leb (length page_places) 8 few) in
        record {
          places = holds.same.places;
          bounds = λ j i p q.
              ap (λ cells. in_draft kind cells j i) is
              ∙ written_is kind (in_page kind page) (page_points page_places) before full (omega (arith, points, few)) j i (omega (arith, p, long, points)) (omega (arith, q, long, points))
              ∙ holds.same.bounds j i p q;
        }

    workable : Workable kind page_places draft
    workable =
        record {
          full = kept ∙ full;
          formed = record {
            few = few;
            normal = normal_same kind z (draft_zone kind page_places draft) same holds.formed.normal;
            small = sized_same kind z (draft_zone kind page_places draft) same largest_listed holds.formed.small;
          };
        }

  module _ (net : Net B) where
    -- eight tokens have room
    as_many : (tokens : ArrayVec ℕ) → tokens ≡ copied page_places → length page_places ≤ 8 → page_places ≡ tokens.items
    as_many tokens all few = sym (ap (λ ts. ts.items) all ∙ ap (λ b. cond b page_places []) (le-leb (length page_places) 12 (omega (arith, few))))

    pub target_made : (zone t n : ℕ) (tokens : ArrayVec ℕ) → zone ≡ 0 → tokens ≡ copied page_places → ZoneMade kind net page_places page (item zone t n) before draft (Some tokens)
    target_made zero t n tokens target all =
        record {
          kept = kept;
          step = (ap Some all, is);
          answered = λ target listed full due holds.
              subst (λ places. SameZone target (draft_zone kind places draft)) (as_many tokens all (few target full holds)) (same target full holds);
        }
    target_made (suc zone) t n tokens target all = absurd (omega (arith, target))

    pub delay_made : (zone t n : ℕ) (after : List B) (tokens : ArrayVec ℕ) → (zone ≡ 0 → ⊥) → t ≡ 0 → DelayedBack kind page_places draft after → tokens ≡ copied page_places → ZoneMade kind net page_places page (item zone t n) before after (Some tokens)
    delay_made zero t n after tokens listed_zone delay back all = absurd (listed_zone refl)
    delay_made (suc zone) (suc t) n after tokens listed_zone delay back all = absurd (omega (arith, delay))
    delay_made (suc zone) zero n after tokens listed_zone delay back all =
        record {
          kept = back.kept ∙ kept;
          step = (ap Some all, subst (λ d. DelayedBack kind page_places d after) is back);
          answered = λ target listed full due holds.
              let z = zone_named target listed (suc zone) in
              delay_same kind z (draft_zone kind page_places draft) (same z full holds) (draft_zone kind tokens.items after)
              (subst (λ places. DelayPredecessor kind (draft_zone kind page_places draft) (draft_zone kind places after)) (as_many tokens all (few z full holds)) (back.is (workable z full holds)));
        }

    fired : (target : Zone B) (listed : List (Zone B)) (zone t n : ℕ) (after : List B) (answer : Option (ArrayVec ℕ)) → SameZone (zone_named target listed (suc zone)) (draft_zone kind page_places draft) → FiringAnswer kind (transition_of net (suc t)) (digits net (suc t) n) (draft_zone kind page_places draft) after answer → ItemAnswer kind net target listed (item (suc zone) (suc t) n) after answer
    fired target listed zone t n after None same void =
        void_same kind (zone_named target listed (suc zone)) (draft_zone kind page_places draft) same (transition_of net (suc t)) (digits net (suc t) n) void
    fired target listed zone t n after (Some tokens) same made =
        firing_same kind (zone_named target listed (suc zone)) (draft_zone kind page_places draft) same (transition_of net (suc t)) (digits net (suc t) n) (draft_zone kind tokens.items after) made.is

    pub firing_made : (zone t n : ℕ) (after : List B) (answer : Option (ArrayVec ℕ)) → (zone ≡ 0 → ⊥) → (t ≡ 0 → ⊥) → FiredBack kind (transition_of net t) (digits net t n) page_places draft after answer → ZoneMade kind net page_places page (item zone t n) before after answer
    firing_made zero t n after answer listed_zone firing back = absurd (listed_zone refl)
    firing_made (suc zone) zero n after answer listed_zone firing back = absurd (firing refl)
    firing_made (suc zone) (suc t) n after answer listed_zone firing back =
        record {
          kept = back.kept ∙ kept;
          step = subst (λ d. FiredBack kind (transition_of net (suc t)) (digits net (suc t) n) page_places d after answer) is back;
          answered = λ target listed full due holds.
              let z = zone_named target listed (suc zone) in
              let listed_places = get_or-map (λ y. y.places) listed zone target [] (omega (arith, due.listed_zone, length-map listed (λ y. y.places))) in
              let arcs = arcs_of net (suc t) Output in
              let here : is_matching page_places arcs n ≡ true = subst (λ places. is_matching places arcs n ≡ true) (listed_places ∙ sym holds.same.places) due.matches in
              let says = (and_parts (matches page_places arcs (digits net (suc t) n)) _ here).0 in
              fired target listed zone t n after answer (same z full holds) (back.answered (workable z full holds) says);
        }
