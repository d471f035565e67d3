-- The delay predecessor of a listed zone in closed form.
use Rattle.std.proofs.Common.{◌≡◌, ℕ, zero, suc, ◌^◌, ◌<◌, ◌≤◌, true, eqb, ◌⊎◌, length, sym, refl, ap, ◌∙◌, subst, inl, inr, ⊎_elim, arith}
use Rattle.std.proofs.lemmas.Bool.{cases_eq, cond-false, cond_both, eqb-true, ne_eqb}
use Rattle.bounds.specs.Kinds.{Kind}
use Rattle.zone_walks.specs.Walks.{Matrix}
use Rattle.zone_walks.proofs.Lessers.{at_most_same, lesser_cases, lesser_left, lesser_right, lesser_greatest, lesser_size, lesser_is_left}
use Rattle.zone_walks.proofs.Sums.{monotone_right}
use Rattle.zones.specs.Zones.{Zone, points}
use Rattle.zone_cells.specs.Drafts.{largest_listed}
use Rattle.zone_cells.proofs.Steps.{Good, FromToken, DelayedTo, delay_good, delay_normal}
use Rattle.zone_closed_forms.specs.ClosedForms.{by_clock, closed, least_below, delayed_rows, delayed_zone}
use Rattle.zone_cells.specs.Drafts.{PageFormed}
use Rattle.zone_closed_forms.specs.Laws.{DelayForm}
use Rattle.zone_closed_forms.proofs.Shorter.{Under}
use Rattle.zone_closed_forms.proofs.Narrowed.{listed_good}

module _ {B : Type 0} (kind : Kind B) where
  -- ---- the least of zero and some tokens' bounds
  module _ (x : Matrix B) (k : ℕ) where
    least_zero : (m : ℕ) → kind.at_most (least_below kind x m k) kind.zero ≡ true
    least_zero zero = at_most_same kind kind.zero
    least_zero (suc m) = kind.transitive _ (least_below kind x m k) _ (lesser_right kind (x (suc m) k) (least_below kind x m k)) (least_zero m)

    least_token : (m j : ℕ) → 1 ≤ j → j ≤ m → kind.at_most (least_below kind x m k) (x j k) ≡ true
    least_token zero j some le = absurd (omega arith)
    least_token (suc m) j some le =
        ⊎_elim
        (λ e. subst (λ v. Under kind (least_below kind x (suc m) k) (x v k)) (sym e) (lesser_left kind (x (suc m) k) (least_below kind x m k)))
        (λ ne. kind.transitive _ (least_below kind x m k) _ (lesser_right kind (x (suc m) k) (least_below kind x m k)) (least_token m j some (omega arith)))
        (cases_eq j (suc m))

    least_greatest : (c : B) (m : ℕ) → kind.at_most c kind.zero ≡ true → ((j : ℕ) → 1 ≤ j → j ≤ m → kind.at_most c (x j k) ≡ true) → kind.at_most c (least_below kind x m k) ≡ true
    least_greatest c zero none tokens = none
    least_greatest c (suc m) none tokens =
        lesser_greatest kind (x (suc m) k) (least_below kind x m k) c (tokens (suc m) (omega arith) (omega arith)) (least_greatest c m none (λ j some le. tokens j some (omega arith)))

    least_is : (n m : ℕ) → m < n → (least_below kind x m k ≡ kind.zero) ⊎ FromToken n x k (least_below kind x m k)
    least_is n zero l = inl refl
    least_is n (suc m) l =
        ⊎_elim
        (λ e. inr (record { token = suc m; some = omega arith; inside = l; is = e }))
        (λ e. subst (λ b. (b ≡ kind.zero) ⊎ FromToken n x k b) (sym e) (least_is n m (omega arith)))
        (lesser_cases kind (x (suc m) k) (least_below kind x m k))

    least_sized : (s n m : ℕ) → m < n → ((j : ℕ) → j < n → kind.size (x j k) ≤ s) → kind.size (least_below kind x m k) ≤ s
    least_sized s n zero l sized = omega (arith, kind.zero_size)
    least_sized s n (suc m) l sized = lesser_size kind (x (suc m) k) (least_below kind x m k) s (sized (suc m) l) (least_sized s n m (omega arith) sized)

  module _ (z : Zone B) (h : PageFormed kind z) where
    abbrev x : Matrix B
    x = z.bound

    abbrev tokens : ℕ
    tokens = length z.places

    abbrev y : Matrix B
    y = closed kind z.bound (delayed_rows kind z)

    good : Good kind (points z) (2 ^ 22) z.bound
    good = listed_good kind z h

    -- the clock's bounds only rise
    first_rises : (k : ℕ) → k < points z → kind.at_most (x 0 k) (least_below kind x tokens k) ≡ true
    first_rises k l =
        least_greatest x k (x 0 k) tokens (good.clock k l)
        (λ j some le.
        let here : j < points z = omega arith in
        let up : Under kind (kind.sum (x 0 j) (x j k)) (kind.sum kind.zero (x j k)) = kind.monotone (x 0 j) kind.zero (x j k) (omega (arith, good.sized 0 j (omega arith) here, good.sized j k here l)) (omega (arith, kind.zero_size, good.sized j k here l)) (good.clock j here) in
        subst (Under kind (x 0 k)) (kind.neutral (x j k) (omega (arith, good.sized j k here l)))
        (kind.transitive _ (kind.sum (x 0 j) (x j k)) _ (good.closed.settled j here 0 k (omega arith) l) up))

    -- so no way through the clock is less
    straight_less : (j k : ℕ) → j < points z → k < points z → kind.at_most (x j k) (by_clock kind (delayed_rows kind z) j k) ≡ true
    straight_less j k p q =
        kind.transitive _ (kind.sum (x j 0) (x 0 k)) _ (good.closed.settled 0 (omega arith) j k p q)
        (monotone_right kind (x 0 k) (least_below kind x tokens k) (x j 0)
        (omega (arith, good.sized j 0 p (omega arith), good.sized 0 k (omega arith) q))
        (omega (arith, good.sized j 0 p (omega arith), least_sized x k (2 ^ 22) (points z) tokens (omega arith) (λ i l. good.sized i k l q)))
        (first_rises k q))

    kept : (j k : ℕ) → 1 ≤ j → j < points z → k < points z → y j k ≡ x j k
    kept j k some p q =
        cond_both (eqb j k) _ _ (λ c. c ≡ x j k) (λ e. sym (good.closed.still j p) ∙ ap (x j) (eqb-true j k e))
        (λ _. cond_both (eqb j 0) _ _ (λ c. c ≡ x j k) (λ e. absurd (omega (arith, eqb-true j 0 e)))
        (λ _. cond_both (eqb k 0) _ _ (λ c. c ≡ x j k) (λ e. ap (x j) (sym (eqb-true k 0 e)))
        (λ _. lesser_is_left kind (x j k) _ (straight_less j k p q))))

    first : (k : ℕ) → 1 ≤ k → y 0 k ≡ least_below kind x tokens k
    first k some = cond-false (eqb 0 k) kind.zero (least_below kind x tokens k) (ne_eqb 0 k (λ e. omega arith))

    delayed_to : DelayedTo kind (points z) z.bound (closed kind z.bound (delayed_rows kind z))
    delayed_to =
        record {
          kept = kept;
          origin = refl;
          below_zero = λ k some l. subst (λ b. Under kind b kind.zero) (sym (first k some)) (least_zero x k tokens);
          below = λ k j some l token inside. subst (λ b. Under kind b (x j k)) (sym (first k some)) (least_token x k tokens j token (omega arith));
          least = λ k some l. subst (λ b. (b ≡ kind.zero) ⊎ FromToken (points z) x k b) (sym (first k some)) (least_is x k (points z) tokens (omega arith));
        }

    pub delayed_form : DelayForm kind z (delayed_zone kind z)
    delayed_form =
        record {
          is = record { places = refl; bounds = delay_normal kind (points z) largest_listed z.bound y (omega (arith, h.few)) (omega arith) (omega arith) good delayed_to };
          small = (delay_good kind (points z) largest_listed z.bound y (omega (arith, h.few)) (omega arith) (omega arith) good delayed_to).sized;
        }
