-- What a line that is no refusal says of the asks before it: each record was whole, and each call was taken.
use Rattle.std.proofs.Common.{◌≡◌, ℕ, zero, suc, ◌+◌, ◌*◌, ◌≤◌, Bool, true, false, cond, not, eqb, ltb, List, ◌∷◌, ◌++◌, length, take, drop, Ok, Err, refl, subst, arith, length-take, length-drop}
use Rattle.std.proofs.lemmas.Bool.{eqb-true, ltb-false}
use Rattle.bounds.specs.Kinds.{Kind}
use Rattle.docket_records.specs.DocketRecords.{token_of, token_spare}
use Rattle.docket_records.specs.Records.{read_as}
use Rattle.docket_records.specs.declared.fault.EntryRefusal.TheVariants.{WrongLength, NotZero}
use Rattle.nets.specs.Nets.{Net}
use Rattle.file_rules.specs.Asks.{Ask, Refuse, Make, Words, read_ask, tokens_asked, with_record}
use Rattle.file_rules.specs.Reports.{Goes, Runs}
use Rattle.file_rules.specs.declared.fault.FileFault.{FileFault}
use Rattle.file_rules.specs.declared.line.Line.{Line}
use Rattle.file_rules.specs.declared.line.Line.TheVariants.{Sealed, Due, Refused}
use Rattle.docket_rules.specs.Calls.{Call, Step}
use Rattle.docket_rules.specs.Tables.{Answer}
use Rattle.docket_rules.specs.Worlds.{World}

-- ---- lines
abbrev pub Passed : Line → Type 0
Passed (Sealed zones vouchers) = Unit {0}
Passed (Due item vouchers) = Unit {0}
Passed (Refused fault) = ⊥

pub not_refused : (line : Line) (fault : FileFault) → Passed line → line ≡ Refused fault → ⊥
not_refused line fault passed e = subst Passed e passed

module _ {B : Type 0} (kind : Kind B) (net : Net B) (line : Line) (passed : Passed line) where
  -- ---- records that are tested before any call
  pub read_on : {X : Type 0} (w : World B) (later : List (Ask B)) (size at : ℕ) (spare : List ℕ → Bool) (said : List ℕ → X) (told : X → Words B → List ℕ) (bytes : List ℕ) → Runs kind net w (read_ask at told (read_as size spare said bytes) ∷ later) line → (length bytes ≡ size) × Runs kind net w later line
  read_on w later size at spare said told bytes runs = by_test (eqb (length bytes) size) refl (spare bytes) runs
    where
      by_test : (t : Bool) → eqb (length bytes) size ≡ t → (s : Bool) → Runs kind net w (read_ask at told (cond (not t) (Err WrongLength) (cond s (Err NotZero) (Ok (said bytes)))) ∷ later) line → (length bytes ≡ size) × Runs kind net w later line
      by_test true e true refused = absurd (not_refused line _ passed refused)
      by_test true e false runs = (eqb-true (length bytes) size e, runs)
      by_test false e s refused = absurd (not_refused line _ passed refused)

  pub tokens_on : (w : World B) (later : List (Ask B)) (n number at : ℕ) (rest : List ℕ) → Runs kind net w (tokens_asked n number at rest ++ later) line → (3 * n ≤ length rest) × Runs kind net w later line
  tokens_on w later zero number at rest runs = (omega arith, runs)
  tokens_on w later (suc n) number at rest runs =
      let others : List (Ask B) = tokens_asked n (number + 1) (at + 1) (drop 3 rest) in
      let here = read_on w (others ++ later) 3 at token_spare token_of (λ token words. words.token number token) (take 3 rest) runs in
      let then = tokens_on w later n (number + 1) (at + 1) (drop 3 rest) here.1 in
      (omega (arith, here.0, length-take 3 rest, length-drop 3 rest, then.0), then.1)

  -- ---- calls
  -- the call was taken, and led to this world, where the later asks go on
  abbrev pub Took : World B → (Answer → Call B) → List (Ask B) → Type 0
  Took w call later = (v : World B) × Step kind net w (call (Ok tt)) v × Runs kind net v later line

  pub took : (w : World B) (later : List (Ask B)) (at : ℕ) (call : Answer → Call B) → Runs kind net w (Make at call ∷ later) line → Took w call later
  took w later at call runs = by_answer runs.0 runs.1 runs.2 runs.3
    where
      by_answer : (answer : Answer) (v : World B) → Step kind net w (call answer) v → Goes at answer line (Runs kind net v later line) → Took w call later
      by_answer (Ok u) v step runs = (v, step, runs)
      by_answer (Err r) v step refused = absurd (not_refused line _ passed refused)

  pub took_record : (w : World B) (later : List (Ask B)) (size at : ℕ) (rest : List ℕ) (call : List ℕ → Answer → Call B) → Runs kind net w (with_record size at rest call ∷ later) line → (size ≤ length rest) × Took w (call (take size rest)) later
  took_record w later size at rest call runs = by_test (ltb (length rest) size) refl runs
    where
      by_test : (short : Bool) → ltb (length rest) size ≡ short → Runs kind net w (cond short (Refuse at WrongLength) (Make at (call (take size rest))) ∷ later) line → (size ≤ length rest) × Took w (call (take size rest)) later
      by_test true e refused = absurd (not_refused line _ passed refused)
      by_test false e runs = (ltb-false (length rest) size e, took w later at (call (take size rest)) runs)
