-- Sums of small bounds in order: a way made longer at one end, or by a round trip in its middle.
use Rattle.std.proofs.Common.{◌≡◌, ◌^◌, ◌≤◌, true, sym, subst, arith}
use Rattle.bounds.specs.Kinds.{Kind}
use Rattle.zone_walks.proofs.Sums.{monotone_right}

module _ {B : Type 0} (kind : Kind B) where
  abbrev pub Under : B → B → Type 0
  Under a b = kind.at_most a b ≡ true

  abbrev pub Small : B → Type 0
  Small a = kind.size a ≤ 2 ^ 30

  -- c is no longer than a and b, so c and d are no longer than a, and b and d
  pub longer_after : (a b c d : B) → Small a → Small b → Small c → Small d → Under c (kind.sum a b) → Under (kind.sum c d) (kind.sum a (kind.sum b d))
  longer_after a b c d sa sb sc sd le =
      subst (Under (kind.sum c d)) (kind.associative a b d (omega arith))
      (kind.monotone c (kind.sum a b) d (omega arith) (omega (arith, kind.sum_size a b)) le)

  pub longer_before : (d a b c : B) → Small d → Small a → Small b → Small c → Under c (kind.sum a b) → Under (kind.sum d c) (kind.sum (kind.sum d a) b)
  longer_before d a b c sd sa sb sc le =
      subst (Under (kind.sum d c)) (sym (kind.associative d a b (omega arith)))
      (monotone_right kind c (kind.sum a b) d (omega arith) (omega (arith, kind.sum_size a b)) le)

  -- there and back in between
  pub longer_between : (p a b q : B) → Small p → Small a → Small b → Small q → Under kind.zero (kind.sum a b) → Under (kind.sum p q) (kind.sum (kind.sum p a) (kind.sum b q))
  longer_between p a b q sp sa sb sq le =
      let rest : Under (kind.sum kind.zero q) (kind.sum a (kind.sum b q)) = longer_after a b kind.zero q sa sb (omega (arith, kind.zero_size)) sq le in
      let more : Under q (kind.sum a (kind.sum b q)) = subst (λ c. Under c (kind.sum a (kind.sum b q))) (kind.neutral q (omega arith)) rest in
      subst (Under (kind.sum p q)) (sym (kind.associative p a (kind.sum b q) (omega (arith, kind.sum_size b q))))
      (monotone_right kind q (kind.sum a (kind.sum b q)) p (omega arith) (omega (arith, kind.sum_size b q, kind.sum_size a (kind.sum b q))) more)
