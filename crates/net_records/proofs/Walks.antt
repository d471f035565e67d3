-- Steps of the walk through the transitions of a net.
use Rattle.std.proofs.Common.{◌≡◌, ℕ, suc, ◌+◌, ◌-◌, ◌<◌, ◌≤◌, Bool, true, false, cond, ltb, List, length, take, drop, Some, None, Ok, Err, Option, Result, MatchResult, IsErrAnd, sym, refl, ap, ◌∙◌, ⊎_elim, arith, length-take}
use Rattle.std.proofs.lemmas.Bool.{lt-ltb, cond-true}
use Rattle.std.proofs.lemmas.Result.{err_from_is_err_and}
use Rattle.net_records.specs.Rows.{first_refusal}
use Rattle.net_records.specs.NetRecords.{at_record, transition_record, record_rows, transition_refusal, or_else, net_header_of, header_fault, transition_fault, transitions_fault, net_fault, tested}
use Rattle.net_records.specs.Parts.{Unread, past, Parted}
use Rattle.net_records.specs.declared.fault.Missing.{Missing}
use Rattle.net_records.specs.declared.reader.Part.{Part}
use Rattle.net_records.specs.Refusals.{NetFault}
use Rattle.net_records.specs.declared.fault.NetRefusal.{NetRefusal}
use Rattle.net_records.specs.declared.fault.NetRefusal.TheVariants.{BytesMissing}
use Rattle.net_records.specs.declared.header.NetHeader.{NetHeader}
use Rattle.net_records.specs.declared.transition.TransitionRecord.{TransitionRecord}

-- a record that is there is taken off
pub parted_whole : (size : ℕ) (before : Unread) (r : Result Part Missing) (after : Unread) → 0 < size → size ≤ length before.rest → Parted size before r after → after ≡ past size before
parted_whole size before (Ok part) after some whole p = p.5
parted_whole size before (Err missing) after some whole p =
    absurd (⊎_elim (λ none. omega (arith, none, some)) (λ less. omega (arith, less, whole)) p.0)

-- what an answer of a test says of the fault
pub tested_ok : {X : Type 0} (x y : X) (o : Option NetFault) → Ok y ≡ tested x o → (o ≡ None) × (y ≡ x)
tested_ok x y None e = (refl, cc)
tested_ok x y (Some f) e = let z : ◌≡◌ {A = ℕ} 0 1 = cc in absurd (omega arith)

pub tested_err : {X : Type 0} (x : X) (f : NetFault) (o : Option NetFault) → Err f ≡ tested x o → o ≡ Some f
tested_err x f None e = let z : ◌≡◌ {A = ℕ} 0 1 = cc in absurd (omega arith)
tested_err x f (Some g) e = let same : g ≡ f = cc in ap Some same

-- the refusal of a record, made its fault
pub tested_at : {X : Type 0} (x : X) (o : Option NetRefusal) (at : ℕ) (t : Result X NetRefusal) (r : Result X NetFault) {Q : NetRefusal → NetFault → Type 0} → t ≡ tested x o → MatchResult t (λ y. r ≡ Ok y) (λ e. IsErrAnd r (Q e)) → ((e : NetRefusal) (f : NetFault) → Q e f → f ≡ record { refusal = e; at = at }) → r ≡ tested x (at_record at o)
tested_at x None at t r same m is = rw same at m
tested_at x (Some e) at t r same m is =
    let p = err_from_is_err_and r (rw same at m) in
    p.1 ∙ ap Err (is e p.0 p.2)

-- a transition that is not there
pub transition_missing : (h : NetHeader) (at : ℕ) (rest : List ℕ) → length rest < 41 → transition_fault h at rest ≡ Some (record { refusal = BytesMissing; at = at })
unfolding transition_refusal
transition_missing h at rest short =
    ap (at_record at) (cond-true (ltb (length (take 41 rest)) 41) _ _ (lt-ltb (length (take 41 rest)) 41 (omega (arith, length-take 41 rest))))

-- a transition that is read before it is tested
pub read_err : (h : NetHeader) (bytes : List ℕ) (e : NetRefusal) → Err e ≡ cond (ltb (length bytes) 41) (Err BytesMissing) (Ok (transition_record bytes)) → Err e ≡ tested {X = Unit {0}} tt (transition_refusal h bytes)
unfolding transition_refusal
read_err h bytes e is = by_test (ltb (length bytes) 41) is
  where
    by_test : (short : Bool) → Err e ≡ cond short (Err BytesMissing) (Ok (transition_record bytes)) → Err e ≡ tested {X = Unit {0}} tt (cond short (Some BytesMissing) (first_refusal (record_rows h (transition_record bytes))))
    by_test true same = ap Err (cc)
    by_test false same = let z : ◌≡◌ {A = ℕ} 0 1 = cc in absurd (omega arith)

pub read_ok : (h : NetHeader) (bytes : List ℕ) (v : TransitionRecord) → Ok v ≡ cond (ltb (length bytes) 41) (Err BytesMissing) (Ok (transition_record bytes)) → tested {X = Unit {0}} tt (first_refusal (record_rows h v)) ≡ tested tt (transition_refusal h bytes)
unfolding transition_refusal
read_ok h bytes v is = by_test (ltb (length bytes) 41) is
  where
    by_test : (short : Bool) → Ok v ≡ cond short (Err BytesMissing) (Ok (transition_record bytes)) → tested {X = Unit {0}} tt (first_refusal (record_rows h v)) ≡ tested tt (cond short (Some BytesMissing) (first_refusal (record_rows h (transition_record bytes))))
    by_test true same = let z : ◌≡◌ {A = ℕ} 0 1 = cc in absurd (omega arith)
    by_test false same = let e : v ≡ transition_record bytes = cc in ap (λ r. tested tt (first_refusal (record_rows h r))) e

-- the transitions that are left have the fault that all of them have
abbrev pub Walked : NetHeader → ℕ → Unread → List ℕ → Type 0
Walked h done left bytes =
    transitions_fault h (h.transitions - done) left.next left.rest ≡ transitions_fault h h.transitions 1 (drop 4 bytes)

module _ (h : NetHeader) (done : ℕ) (left : Unread) (bytes : List ℕ) (more : done < h.transitions) (so_far : Walked h done left bytes) where
  abbrev this : Option NetFault
  this = transition_fault h left.next left.rest

  abbrev later : Option NetFault
  later = transitions_fault h (h.transitions - (done + 1)) (left.next + 1) (drop 41 left.rest)

  one_more : transitions_fault h (h.transitions - done) left.next left.rest ≡ or_else this later
  one_more =
      let e : h.transitions - done ≡ suc (h.transitions - (done + 1)) = omega arith in
      ap (λ n. transitions_fault h n left.next left.rest) e

  pub walked_more : (after : Unread) → this ≡ None → after ≡ past 41 left → Walked h (done + 1) after bytes
  walked_more after e moved = rw moved (sym (one_more ∙ ap (λ o. or_else o later) e) ∙ so_far)

  pub walked_fault : (f : NetFault) → this ≡ Some f → header_fault bytes ≡ None → h ≡ net_header_of (take 4 bytes) → net_fault bytes ≡ Some f
  walked_fault f e clean is =
      ap (λ o. or_else o (transitions_fault (net_header_of (take 4 bytes)) (net_header_of (take 4 bytes)).transitions 1 (drop 4 bytes))) clean
      ∙ ap (λ g. transitions_fault g g.transitions 1 (drop 4 bytes)) (sym is)
      ∙ sym so_far
      ∙ one_more
      ∙ ap (λ o. or_else o later) e

pub walked_all : (h : NetHeader) (done : ℕ) (left : Unread) (bytes : List ℕ) → h.transitions ≤ done → Walked h done left bytes → header_fault bytes ≡ None → h ≡ net_header_of (take 4 bytes) → net_fault bytes ≡ None
walked_all h done left bytes end so_far clean is =
    let e : h.transitions - done ≡ 0 = omega arith in
    ap (λ o. or_else o (transitions_fault (net_header_of (take 4 bytes)) (net_header_of (take 4 bytes)).transitions 1 (drop 4 bytes))) clean
    ∙ ap (λ g. transitions_fault g g.transitions 1 (drop 4 bytes)) (sym is)
    ∙ sym so_far
    ∙ ap (λ n. transitions_fault h n left.next left.rest) e

-- a fault of the header is the net's
pub header_faulty : (bytes : List ℕ) (f : NetFault) → header_fault bytes ≡ Some f → net_fault bytes ≡ Some f
header_faulty bytes f e = ap (λ o. or_else o (transitions_fault (net_header_of (take 4 bytes)) (net_header_of (take 4 bytes)).transitions 1 (drop 4 bytes))) e

-- a header that was read from a reader over the bytes
pub header_clean : (bytes : List ℕ) (start : Unread) (h : NetHeader) → start ≡ record { rest = bytes; next = 0 } → Ok h ≡ tested (net_header_of (take 4 start.rest)) (header_fault start.rest) → (header_fault bytes ≡ None) × (h ≡ net_header_of (take 4 bytes))
header_clean bytes start h is e =
    tested_ok (net_header_of (take 4 bytes)) h (header_fault bytes) (e ∙ ap (λ (u : Unread). tested (net_header_of (take 4 u.rest)) (header_fault u.rest)) is)

pub walked_none : (h : NetHeader) (bytes : List ℕ) (start left : Unread) → start ≡ record { rest = bytes; next = 0 } → left ≡ past 4 start → Walked h 0 left bytes
walked_none h bytes start left is moved =
    let e : h.transitions - 0 ≡ h.transitions = omega arith in
    rw (moved, is) (ap (λ n. transitions_fault h n 1 (drop 4 bytes)) e)

pub tested_none : {X : Type 0} (x y : X) (o : Option NetFault) → o ≡ None → y ≡ x → Ok y ≡ tested x o
tested_none x y o e same = ap Ok same ∙ sym (ap (tested x) e)

pub tested_some : {X : Type 0} (x : X) (f : NetFault) (o : Option NetFault) → o ≡ Some f → Err f ≡ tested x o
tested_some x f o e = sym (ap (tested x) e)
