-- Each call that a file asks for answers in one way alone.
use Rattle.std.proofs.Common.{ℕ, zero, suc, ◌+◌, ◌*◌, Bool, true, false, cond, ltb, List, length, take, drop, Ok, Err, Result}
use Rattle.bounds.specs.Kinds.{Kind}
use Rattle.docket_dues.proofs.Lists.{every_join}
use Rattle.docket_records.specs.DocketRecords.{docket_header, docket_header_of, initial_token}
use Rattle.docket_records.specs.declared.docket_header.DocketHeader.{DocketHeader}
use Rattle.docket_records.specs.declared.fault.EntryRefusal.{EntryRefusal}
use Rattle.docket_records.specs.declared.fault.EntryRefusal.TheVariants.{WrongLength}
use Rattle.docket_records.specs.declared.token.InitialToken.{InitialToken}
use Rattle.nets.specs.Nets.{Every, Net}
use Rattle.file_rules.specs.Asks.{Ask, Refuse, Make, as_given, docket_asked, marking_asked, proving_asked, read_ask, scratch_page, target_asked, initial_tokens_of, tokens_asked, voucher_count, vouchers_asked, with_record, zones_asked, Words}
use Rattle.docket_rules.specs.Calls.{Call, Open, Post, Discharge}
use Rattle.docket_rules.specs.Reached.{CallLaws, Sharp}
use Rattle.docket_rules.specs.Tables.{Answer}
use Rattle.file_rules.proofs.OneRun.{SharpAsk}

module _ {B : Type 0} (kind : Kind B) (net : Net B) where
  -- ---- a record that is refused, and a record of so many bytes
  read_sharp : {X : Type 0} (at : ℕ) (said : X → Words B → List ℕ) (r : Result X EntryRefusal) → SharpAsk kind net (read_ask at said r)
  read_sharp at said (Ok x) = tt
  read_sharp at said (Err refusal) = tt

  either_sharp : (b : Bool) (x y : Ask B) → SharpAsk kind net x → SharpAsk kind net y → SharpAsk kind net (cond b x y)
  either_sharp true x y h k = h
  either_sharp false x y h k = k

  record_sharp : (size at : ℕ) (rest : List ℕ) (call : List ℕ → Answer → Call B) → ((bytes : List ℕ) → Sharp kind net (call bytes)) → SharpAsk kind net (with_record size at rest call)
  record_sharp size at rest call each =
      either_sharp (ltb (length rest) size) (Refuse at WrongLength) (Make at (call (take size rest))) tt (each (take size rest))

  tokens_sharp : (n number at : ℕ) (rest : List ℕ) → Every (SharpAsk kind net) (tokens_asked n number at rest)
  tokens_sharp zero number at rest = tt
  tokens_sharp (suc n) number at rest =
      (read_sharp at _ (initial_token (take 3 rest)), tokens_sharp n (number + 1) (at + 1) (drop 3 rest))

  -- ---- the calls
  module _ (laws : CallLaws kind net) where
    vouchers_sharp : (n at : ℕ) (rest : List ℕ) → Every (SharpAsk kind net) (vouchers_asked kind n at rest)
    vouchers_sharp zero at rest = tt
    vouchers_sharp (suc n) at rest =
        (record_sharp 6 at rest (λ voucher. Discharge voucher (scratch_page kind)) (λ voucher. laws.discharges voucher (scratch_page kind)), vouchers_sharp n (at + 1) (drop 6 rest))

    proving_sharp : (at : ℕ) (rest : List ℕ) → Every (SharpAsk kind net) (proving_asked kind at rest)
    proving_sharp at rest = (laws.closes, vouchers_sharp (voucher_count kind rest) at rest)

    zones_sharp : (n at : ℕ) (rest : List ℕ) → Every (SharpAsk kind net) (zones_asked kind n at rest)
    zones_sharp zero at rest = proving_sharp at rest
    zones_sharp (suc n) at rest =
        (record_sharp 192 at rest (λ zone. Post zone (scratch_page kind)) (λ zone. laws.posts zone (scratch_page kind)), zones_sharp n (at + 1) (drop 192 rest))

    target_sharp : (tokens : List InitialToken) (zones at : ℕ) (rest : List ℕ) → Every (SharpAsk kind net) (target_asked kind tokens zones at rest)
    target_sharp tokens zones at rest =
        (record_sharp 192 at rest (λ target. Open (as_given tokens) target (scratch_page kind)) (λ target. laws.opens (as_given tokens) target (scratch_page kind)), zones_sharp zones (at + 1) (drop 192 rest))

    marking_sharp : (h : DocketHeader) (at : ℕ) (rest : List ℕ) → Every (SharpAsk kind net) (marking_asked kind h at rest)
    marking_sharp h at rest =
        every_join (SharpAsk kind net) (tokens_asked h.initial 1 at rest) _ (tokens_sharp h.initial 1 at rest) (target_sharp (initial_tokens_of h.initial rest) h.zones (at + h.initial) (drop (3 * h.initial) rest))

    pub docket_sharp : (at : ℕ) (rest : List ℕ) → Every (SharpAsk kind net) (docket_asked kind at rest)
    docket_sharp at rest =
        (read_sharp at _ (docket_header (take 4 rest)), marking_sharp (docket_header_of (take 4 rest)) (at + 1) (drop 4 rest))
