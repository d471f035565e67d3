-- Calls of which each answers in one way alone come to one line alone.
use Rattle.std.proofs.Common.{◌≡◌, ℕ, List, [], ◌∷◌, Ok, Err, sym, ◌∙◌, subst}
use Rattle.bounds.specs.Kinds.{Kind}
use Rattle.nets.specs.Nets.{Every, Net}
use Rattle.file_rules.specs.Asks.{Ask, Read, Refuse, Make}
use Rattle.file_rules.specs.Reports.{Ends, Goes, Runs}
use Rattle.file_rules.specs.declared.line.Line.{Line}
use Rattle.docket_rules.specs.Logs.{Log, with_call}
use Rattle.docket_rules.specs.Reached.{CallLaws, ReachedByCalls, Sharp}
use Rattle.docket_rules.specs.Tables.{Answer}
use Rattle.docket_rules.specs.Worlds.{State, World}
use Rattle.docket_rules.specs.declared.stage.Stage.{Stage}
use Rattle.docket_rules.specs.declared.stage.Stage.TheVariants.{Blank, Listing, Proving, Sealed}

one_end : (s : State) (stage : Stage) (line other : Line) → Ends s stage line → Ends s stage other → line ≡ other
one_end s Blank line other h k = absurd h
one_end s Listing line other h k = absurd h
one_end s (Proving d) line other h k = h ∙ sym k
one_end s Sealed line other h k = h ∙ sym k

goes_one : (at : ℕ) (a : Answer) (line other : Line) (P Q : Type 0) → (P → Q → line ≡ other) → Goes at a line P → Goes at a other Q → line ≡ other
goes_one at (Ok u) line other P Q later h k = later h k
goes_one at (Err r) line other P Q later h k = h ∙ sym k

module _ {B : Type 0} (kind : Kind B) (net : Net B) where
  abbrev pub SharpAsk : Ask B → Type 0
  SharpAsk (Read said) = Unit {0}
  SharpAsk (Refuse at refusal) = Unit {0}
  SharpAsk (Make at call) = Sharp kind net call

  pub one_run : CallLaws kind net → (asks : List (Ask B)) → Every SharpAsk asks → (log : Log B) (w : World B) → ReachedByCalls kind net log w → (line other : Line) → Runs kind net w asks line → Runs kind net w asks other → line ≡ other
  one_run laws [] sharp log w reached line other h k = one_end w.state w.state.stage line other h k
  one_run laws (Read said ∷ later) sharp log w reached line other h k = one_run laws later sharp.1 log w reached line other h k
  one_run laws (Refuse at refusal ∷ later) sharp log w reached line other h k = h ∙ sym k
  one_run laws (Make at call ∷ later) sharp log w reached line other h k =
      let same = sharp.0 log w h.1 k.1 h.0 k.0 reached h.2 k.2 in
      let answered = subst (λ x. Goes at x other (Runs kind net k.1 later other)) (sym same.0) k.3 in
      let goes = subst (λ x. Goes at h.0 other (Runs kind net x later other)) (sym same.1) answered in
      let next = laws.more log w h.1 (call h.0) reached h.2 in
      goes_one at h.0 line other (Runs kind net h.1 later line) (Runs kind net h.1 later other) (one_run laws later sharp.1 (with_call kind log (call h.0)) h.1 next line other) h.3 goes
