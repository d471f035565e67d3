-- The normal form of some bounds is the greatest closed matrix below them; where none is below them some walk is negative.
use Rattle.std.proofs.Common.{◌≡◌, ℕ, zero, suc, ◌^◌, ◌<◌, ◌≤◌, true, false, ◌⊎◌, List, sym, ap, ◌∙◌, subst, inl, inr, ⊎_elim, arith}
use Rattle.std.proofs.lemmas.Bool.{cases_Bool, cases_eq, true≢false}
use Rattle.bounds.specs.Kinds.{Kind}
use Rattle.zone_walks.specs.Walks.{Matrix, walk_sum, Walk, Negative, NormalForm, Sized, Still}
use Rattle.zone_walks.specs.NormalForms.{most_points, largest_entry, Formed}
use Rattle.zone_walks.proofs.Closed.{Closed, Below, Same}
use Rattle.zone_walks.proofs.NormalForms.{same_to, normal_sized, normal_below, normal_closed, closed_least}
use Rattle.zone_walks.proofs.Rounds.{form_exists}

-- y is closed and below w, and its bounds may be added
pub record ClosedBelow {B : Type 0} (kind : Kind B) (n : ℕ) (w y : Matrix B) : Type 0 where
  pub closed : Closed kind n y
  pub below : Below kind n y w
  pub sized : Sized kind n (2 ^ 30) y

-- y is the normal form, and there is no negative walk
pub record Consistent {B : Type 0} (kind : Kind B) (n : ℕ) (w y : Matrix B) : Type 0 where
  pub normal : NormalForm kind n w y
  pub none : Negative kind n w → ⊥

module _ {B : Type 0} (kind : Kind B) (n : ℕ) (few : n ≤ most_points) (w : Matrix B) (sized : Sized kind n largest_entry w) (still : Still kind n w) where
  -- a closed matrix is below the sum of every walk
  below_walks : (y : Matrix B) → ClosedBelow kind n w y → (j i : ℕ) (legs : List ℕ) → j < n → Walk n n j i legs → kind.at_most (y j i) (walk_sum kind w j legs) ≡ true
  below_walks y c j i legs h walk =
      subst (λ v. kind.at_most (y j v) (walk_sum kind w j legs) ≡ true) walk.ends
      (closed_least kind n largest_entry (2 ^ 30) w y sized c.sized (omega (arith, few)) (omega arith) (omega arith) c.closed c.below j legs h walk.inside walk.few)

  none_negative : (y : Matrix B) → ClosedBelow kind n w y → Negative kind n w → ⊥
  none_negative y c m =
      let up : kind.at_most kind.zero (walk_sum kind w m.at m.legs) ≡ true = subst (λ b. kind.at_most b (walk_sum kind w m.at m.legs) ≡ true) (c.closed.still m.at m.point) (below_walks y c m.at m.at m.legs m.point m.closed) in
      true≢false (sym up ∙ m.below)

  -- ---- whether a walk is negative shows at the diagonal of the normal form
  module _ (y : Matrix B) (h : NormalForm kind n w y) where
    abbrev Above : ℕ → Type 0
    Above k = (j : ℕ) → j < k → kind.at_most kind.zero (y j j) ≡ true

    above_more : (k : ℕ) → Above k → kind.at_most kind.zero (y k k) ≡ true → Above (suc k)
    above_more k above here j l =
        ⊎_elim (λ e. subst (λ v. kind.at_most kind.zero (y v v) ≡ true) (sym e) here) (λ ne. above j (omega arith)) (cases_eq j k)

    at_point : (k : ℕ) → k < n → kind.at_most kind.zero (y k k) ≡ false → Negative kind n w
    at_point k l below =
        let r = h.reached k k l l in
        record { at = k; point = l; legs = r.legs; closed = r.walk; below = ap (kind.at_most kind.zero) (sym r.sum) ∙ below }

    above_or : (k : ℕ) → k ≤ n → Negative kind n w ⊎ Above k
    above_or zero le = inr (λ j l. absurd (omega arith))
    above_or (suc k) le =
        ⊎_elim inl
        (λ above. ⊎_elim (λ e. inr (above_more k above e)) (λ e. inl (at_point k le e)) (cases_Bool (kind.at_most kind.zero (y k k))))
        (above_or k (omega arith))

    above_none : Above n → Negative kind n w → ⊥
    above_none above m =
        let up : kind.at_most kind.zero (walk_sum kind w m.at m.legs) ≡ true = kind.transitive kind.zero (y m.at m.at) _ (above m.at m.point) (h.least m.at m.at m.legs m.point m.point m.closed) in
        true≢false (sym up ∙ m.below)

    form_below : (Negative kind n w → ⊥) → ClosedBelow kind n w y
    form_below none =
        let big = normal_sized kind n largest_entry w y sized h in
        record {
          closed = normal_closed kind n largest_entry w y few (omega arith) sized h none;
          below = normal_below kind n largest_entry w y (omega arith) sized h;
          sized = λ j i a b. omega (arith, big j i a b, few);
        }

  pub negative_or : Negative kind n w ⊎ ((y : Matrix B) × ClosedBelow kind n w y × NormalForm kind n w y)
  negative_or =
      ⊎_elim inl
      (λ (f : Formed kind n w). ⊎_elim inl (λ above. inr (f.form, form_below f.form f.normal (above_none f.form f.normal above), f.normal)) (above_or f.form f.normal n (omega arith)))
      (form_exists kind n w few sized still)

  pub no_closed : ((y : Matrix B) → ClosedBelow kind n w y → ⊥) → Negative kind n w
  no_closed none = ⊎_elim (λ m. m) (λ f. absurd (none f.0 f.1)) negative_or

  -- no closed matrix below w is anywhere above m
  pub greatest_normal : (m : Matrix B) → ClosedBelow kind n w m → ((y : Matrix B) → ClosedBelow kind n w y → Below kind n y m) → Consistent kind n w m
  greatest_normal m c greatest =
      record {
        normal = ⊎_elim (λ e. absurd (none_negative m c e)) (λ f. same_to kind n w f.0 m (same f.0 f.1 f.2) f.2) negative_or;
        none = none_negative m c;
      }
    where
      same : (y : Matrix B) → ClosedBelow kind n w y → NormalForm kind n w y → Same n y m
      same y d h j i a b =
          let r = h.reached j i a b in
          kind.antisymmetric (y j i) (m j i) (greatest y d j i a b)
          (subst (λ v. kind.at_most (m j i) v ≡ true) (sym r.sum) (below_walks m c j i r.legs a r.walk))
