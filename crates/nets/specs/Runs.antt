-- Delays, firings and runs on grid k.
--     delay     one amount, zero or more, is added to every age
--     firing    one token for each input arc is removed, and one for each output arc added; the
--               others stay
--     run       delays and firings one after the other, or none at all
use Rattle.std.specs.Prelude.{ℕ, ◌≤◌, List, ◌++◌, length}
use Rattle.bounds.specs.Kinds.{Kind}
use Rattle.nets.specs.Markings.{Token, Marking, Permuted, aged, refined, FitsAll}
use Rattle.nets.specs.Nets.{Net, Transition, no_transition, transition_of}

abbrev pub Delayed : ℕ → Marking → Marking → Type 0
Delayed d from to = Permuted (aged d from) to

-- the removed tokens are distinct, since they and the rest make up the marking
pub record Fired {B : Type 0} (kind : Kind B) (k : ℕ) (t : Transition B) (from to : Marking) : Type 0 where
  pub removed : List Token
  pub added : List Token
  pub rest : Marking
  pub before : Permuted from (removed ++ rest)
  pub after : Permuted to (added ++ rest)
  pub takes : FitsAll kind k t.inputs removed
  pub puts : FitsAll kind k t.outputs added

pub data Run {B : Type 0} (kind : Kind B) (k : ℕ) (net : Net B) : Marking → Marking → Type 0 where
  stay : {m n : Marking} → Permuted m n → Run kind k net m n
  delay : {m n o : Marking} (d : ℕ) → Delayed d m n → Run kind k net n o → Run kind k net m o
  fire : {m n o : Marking} (t : ℕ) → 1 ≤ t → t ≤ length net.transitions →
      Fired kind k (transition_of net t) m n → Run kind k net n o → Run kind k net m o

-- what any account of runs must keep
pub record RunLaws {B : Type 0} (kind : Kind B) (net : Net B) : Type 0 where
  -- the empty run
  pub empty : (k : ℕ) (m : Marking) → Run kind k net m m
  -- a run after a run is a run
  pub compose : (k : ℕ) (m n o : Marking) → Run kind k net m n → Run kind k net n o →
      Run kind k net m o
  -- a firing of a transition without arcs changes nothing
  pub idle : (k : ℕ) (m n : Marking) → Fired kind k no_transition m n → Permuted m n
  -- a run on grid 1, with its ages and delays times k, is a run on grid k
  pub grids : (k : ℕ) (m n : Marking) → 1 ≤ k → Run kind 1 net m n →
      Run kind k net (refined k m) (refined k n)
