-- The first fault of net records has the first number that holds in the table of its record.
use Rattle.std.proofs.Common.{◌≡◌, ℕ, zero, suc, ◌+◌, ◌*◌, List, take, drop, Some, None, Option, sym, refl, ap, ◌∙◌, arith}
use Rattle.std.proofs.lemmas.List.{drop-drop}
use Rattle.net_records.specs.NetRecords.{FaultNumbered, at_record, front_header, header_refusal, header_rows, net_fault, or_else, rows_at, transition_refusal, transition_rows, transitions_fault}
use Rattle.net_records.specs.Refusals.{NetFault, refusal_number}
use Rattle.net_records.specs.Rows.{first_number, first_refusal}
use Rattle.net_records.specs.declared.fault.NetRefusal.{NetRefusal}
use Rattle.net_records.specs.declared.header.NetHeader.{NetHeader}
use Rattle.net_records.proofs.Tables.{first_numbers, number_of}

-- the rows stand with the numbers that their refusals have
header_numbers : (bytes : List ℕ) → first_number (header_rows bytes) ≡ number_of refusal_number (first_refusal (header_rows bytes))
header_numbers bytes = first_numbers refusal_number (header_rows bytes) (refl, (refl, (refl, tt)))

transition_numbers : (h : NetHeader) (bytes : List ℕ) → first_number (transition_rows h bytes) ≡ number_of refusal_number (transition_refusal h bytes)
unfolding transition_refusal
transition_numbers h bytes =
    first_numbers refusal_number (transition_rows h bytes) (refl, (refl, (refl, (refl, (refl, (refl, tt))))))

-- a fault of the record with this number, or a later one
at_or_later : (o : Option NetRefusal) (at : ℕ) (later : Option NetFault) (f : NetFault) → or_else (at_record at o) later ≡ Some f → {P : Type 0} → (o ≡ Some f.refusal → f.at ≡ at → P) → (later ≡ Some f → P) → P
at_or_later None at later f e here there = there e
at_or_later (Some r) at later f e here there =
    let same : record { refusal = r; at = at } ≡ f = cc in
    here (ap (λ (g : NetFault). Some g.refusal) same) (sym (ap (λ (g : NetFault). g.at) same))

-- which transition has it
pub record Faulted (h : NetHeader) (at : ℕ) (rest : List ℕ) (f : NetFault) : Type 0 where
  pub index : ℕ
  pub number : f.at ≡ at + index
  pub has : transition_refusal h (take 41 (drop (41 * index) rest)) ≡ Some f.refusal

transitions_faulted : (h : NetHeader) (n at : ℕ) (rest : List ℕ) (f : NetFault) → transitions_fault h n at rest ≡ Some f → Faulted h at rest f
transitions_faulted h zero at rest f e = let z : ◌≡◌ {A = ℕ} 0 1 = cc in absurd (omega arith)
transitions_faulted h (suc n) at rest f e =
    at_or_later
    (transition_refusal h (take 41 rest))
    at
    (transitions_fault h n (at + 1) (drop 41 rest))
    f
    e
    (λ has same. record { index = 0; number = omega (arith, same); has = has })
    (λ later. one_later (transitions_faulted h n (at + 1) (drop 41 rest) f later))
  where
    one_later : Faulted h (at + 1) (drop 41 rest) f → Faulted h at rest f
    one_later g =
        let place : 41 + 41 * g.index ≡ 41 * suc g.index = omega arith in
        record {
          index = suc g.index;
          number = omega (arith, g.number);
          has = ap (λ r. transition_refusal h (take 41 r)) (sym (drop-drop (41 * g.index) 41 rest ∙ ap (λ m. drop m rest) place)) ∙ g.has;
        }

pub fault_numbered : (bytes : List ℕ) (f : NetFault) → net_fault bytes ≡ Some f → FaultNumbered bytes f
fault_numbered bytes f e =
    let h = front_header bytes in
    at_or_later
    (header_refusal (take 4 bytes))
    0
    (transitions_fault h h.transitions 1 (drop 4 bytes))
    f
    e
    (λ has same. numbered_at 0 same (header_numbers (take 4 bytes) ∙ ap (number_of refusal_number) has))
    (λ later. by_transition (transitions_faulted h h.transitions 1 (drop 4 bytes) f later))
  where
    numbered_at : (at : ℕ) → f.at ≡ at → first_number (rows_at bytes at) ≡ Some (refusal_number f.refusal) → FaultNumbered bytes f
    numbered_at at same is = ap (λ n. first_number (rows_at bytes n)) same ∙ is

    by_transition : Faulted (front_header bytes) 1 (drop 4 bytes) f → FaultNumbered bytes f
    by_transition g =
        let here : f.at ≡ suc g.index = omega (arith, g.number) in
        numbered_at (suc g.index) here (transition_numbers (front_header bytes) (take 41 (drop (41 * g.index) (drop 4 bytes))) ∙ ap (number_of refusal_number) g.has)
