-- A world by its parts, and one that a call left as it was.
use Rattle.std.proofs.Common.{◌≡◌, ℕ, List, sym, ap, ◌∙◌, subst}
use Rattle.bounds.specs.Kinds.{Kind}
use Rattle.nets.specs.Nets.{Net}
use Rattle.docket_rules.specs.Logs.{Log}
use Rattle.docket_rules.specs.Worlds.{State, World, with_book}
use Rattle.docket_rules.proofs.Agrees.{Agrees}

-- a world is its parts
pub world_is : {B : Type 0} (w : World B) {s : State} {cells : List B} {places : List ℕ} → w.state ≡ s → w.cells ≡ cells → w.places ≡ places → w ≡ with_book s cells places
world_is w {s} {cells} e f g = ap (λ x. with_book x w.cells w.places) e ∙ ap (λ x. with_book s x w.places) f ∙ ap (λ x. with_book s cells x) g

-- the same world agrees with the same log
pub unmoved : {B : Type 0} (kind : Kind B) (net : Net B) (log : Log B) (w u : World B) → u ≡ w → Agrees kind net log w → Agrees kind net log u
unmoved kind net log w u same agrees = subst (Agrees kind net log) (sym same) agrees
