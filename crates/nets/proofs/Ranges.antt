-- When the range between two ends keeps the limits of a net.
use Rattle.std.proofs.Common.{◌≡◌, ℕ, ◌≤◌, Bool, true, false, ◌&&◌, ◌||◌, leb, ℤ, pos, ◌+ℤ◌, neg_ℤ, nat_abs, sym, refl, ap, ap₂, ◌∙◌, inl, inr, arith}
use borrow.Author.Differences.{ints}
use lib.Signed.{le_z}
use Rattle.std.proofs.Math.Bool.{and-true}
use Rattle.std.proofs.lemmas.Bool.{false≢true, not-false, le-leb, and_parts, cond-true}
use Rattle.bounds.specs.Kinds.{Kind, Named, largest_size, place}
use Rattle.bounds.specs.MarkedKind.{marked_kind}
use Rattle.bounds.specs.Ranges.{below_zero}
use Rattle.bounds.specs.declared.range.Range.{Range}
use Rattle.nets.specs.Nets.{largest_end, Ended, RangeLimits}

-- fewer marks only raise a sum
raised : (d : ℤ) (s t m : Bool) → le_z (place (pos 0) false) (place d (s || t)) ≡ true → le_z (place (pos 0) false) (place d ((s && m) || (t && m))) ≡ true
raised d true true true h = h
raised d true true false h = sym (omega (arith, ints))
raised d true false true h = h
raised d true false false h = sym (omega (arith, ints))
raised d false true true h = h
raised d false true false h = sym (omega (arith, ints))
raised d false false m h = h

either_mark : (s t m : Bool) → ((s && m) || (t && m)) ≡ true → m ≡ true
either_mark s t true e = refl
either_mark true true false e = e
either_mark true false false e = e
either_mark false true false e = e
either_mark false false false e = e

-- the difference of two ends, from l to u
abbrev pub difference : ℕ → ℕ → ℤ
difference l u = pos u +ℤ neg_ℤ (pos l)

pub small_difference : (l u : ℕ) → l ≤ largest_end → u ≤ largest_end → nat_abs (difference l u) ≤ largest_size
small_difference l u low_small high_small = omega (arith, ints)

-- the range from l to u, with the marks that the kind takes
abbrev pub range_of : {B : Type 0} → Kind B → ℕ → Bool → ℕ → Bool → Range B
range_of kind l s u t =
    record { upper = kind.number (pos u) (t && kind.marks); lower = kind.number (neg_ℤ (pos l)) (s && kind.marks) }

module _ {B : Type 0} (kind : Kind B) where
  takes : (s : Bool) → (s && kind.marks) ≡ true → kind.marks ≡ true
  takes s e = (and_parts s kind.marks e).1

  named : (c : ℤ) (s : Bool) → nat_abs c ≤ largest_size → Named kind.marks c (s && kind.marks)
  named c s small = record { small = small; takes = takes s }

  -- how the sum of two ends, with the marks that the kind takes, lies to zero
  pub ends_order : (l : ℕ) (s : Bool) → l ≤ largest_end → (u : ℕ) (t : Bool) → u ≤ largest_end → kind.at_most kind.zero (kind.sum (kind.number (pos u) (t && kind.marks)) (kind.number (neg_ℤ (pos l)) (s && kind.marks))) ≡ le_z (place (pos 0) false) (place (difference l u) ((t && kind.marks) || (s && kind.marks)))
  ends_order l s low_small u t high_small =
      let m = kind.marks in
      let d = difference l u in
      let mark = (t && m) || (s && m) in
      let within = small_difference l u low_small high_small in
      let sum = kind.numbers_sum (pos u) (neg_ℤ (pos l)) (t && m) (s && m) (named (pos u) t (omega (arith, ints))) (named (neg_ℤ (pos l)) s (omega (arith, ints))) in
      let kept = cond-true (leb (nat_abs d) largest_size) (kind.number d mark) kind.no_limit (le-leb (nat_abs d) largest_size within) in
      let from : Named m (pos 0) false = record { small = omega (arith, ints); takes = λ e. absurd (false≢true e) } in
      let order = kind.numbers_order (pos 0) d false mark from (record { small = within; takes = either_mark t s m }) in
      ap (kind.at_most kind.zero) (sum ∙ kept) ∙ ap (λ z. kind.at_most z (kind.number d mark)) (sym kind.number_zero) ∙ order

module _ {B : Type 0} (kind : Kind B) where
  module _ (l : ℕ) (s : Bool) (low_small : l ≤ largest_end) where
    low_end : Ended kind (λ n. neg_ℤ (pos n)) (kind.number (neg_ℤ (pos l)) (s && kind.marks))
    low_end = record { end = l; strict = s && kind.marks; small = low_small; takes = takes kind s; is = refl }

    -- without limit above
    pub open_range : RangeLimits kind (record { upper = kind.no_limit; lower = kind.number (neg_ℤ (pos l)) (s && kind.marks) })
    open_range =
        record {
          lower = low_end;
          upper = inl refl;
          sum = ap (kind.at_most kind.zero) (kind.absorbs (kind.number (neg_ℤ (pos l)) (s && kind.marks))) ∙ kind.top kind.zero;
        }

    -- up to u, where the marked ends do not sum below zero
    pub closed_range : (u : ℕ) (t : Bool) → u ≤ largest_end → le_z (place (pos 0) false) (place (difference l u) (t || s)) ≡ true → RangeLimits kind (range_of kind l s u t)
    closed_range u t high_small h =
        record {
          lower = low_end;
          upper = inr (record { end = u; strict = t && kind.marks; small = high_small; takes = takes kind t; is = refl });
          sum = ends_order kind l s low_small u t high_small ∙ raised (difference l u) t s kind.marks h;
        }

    -- the same, told by marked bounds
    pub some_range : (u : ℕ) (t : Bool) → u ≤ largest_end → below_zero marked_kind (range_of marked_kind l s u t) ≡ false → RangeLimits kind (range_of kind l s u t)
    some_range u t high_small h =
        let marked = sym (ends_order marked_kind l s low_small u t high_small) ∙ not-false _ h in
        closed_range u t high_small (ap₂ (λ a b. le_z (place (pos 0) false) (place (difference l u) (a || b))) (sym (and-true t)) (sym (and-true s)) ∙ marked)
