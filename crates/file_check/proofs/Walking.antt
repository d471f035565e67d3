-- A walk through several asks, one after the other.
--     start, first    the file where the walk began, and what the watcher had said then
--     f, said         the file and the watcher as they are now
use Rattle.std.specs.Prelude.{Bool, true, false, cond, nat_lt}
use Rattle.std.proofs.Common.{◌≡◌, ℕ, suc, ◌+◌, ◌-◌, ◌<◌, ◌≤◌, List, [], ◌∷◌, ◌++◌, length, take, drop, Ok, Err, Result, refl, sym, ap, ◌∙◌, subst, arith, length-drop}
use Rattle.std.proofs.lemmas.Bool.{cond-false, le-ltb}
use Rattle.bounds.specs.Kinds.{Kind}
use Rattle.docket_records.specs.DocketRecords.{docket_header_of}
use Rattle.docket_records.specs.Vouchers.{voucher_of}
use Rattle.docket_records.specs.declared.docket_header.DocketHeader.{DocketHeader}
use Rattle.docket_records.specs.declared.fault.EntryRefusal.{EntryRefusal}
use Rattle.docket_records.specs.declared.fault.EntryRefusal.TheVariants.{WrongLength}
use Rattle.docket_rules.specs.Calls.{Call, Close, Discharge, Open}
use Rattle.docket_rules.specs.Tables.{Answer, given as as_lists}
use Rattle.docket_rules.specs.Worlds.{State, World, listed_count}
use Rattle.docket_rules.specs.declared.stage.Stage.{Stage}
use Rattle.docket_rules.specs.declared.stage.Stage.TheVariants.{Blank, Listing, Proving, Sealed}
use Rattle.file_check.specs.Files.{AskMade, Called, Filed, IsClosed, Waits, opening_ask}
use Rattle.file_check.specs.Walks.{AsGiven, Comes, Passes, TellsFrom, read_tokens}
use Rattle.file_check.specs.declared.initial.InitialLists.{InitialLists}
use Rattle.file_check.specs.declared.watcher.Ended.{Ended}
use Rattle.file_check.specs.declared.watcher.Ended.TheVariants.{Stopped, Refused}
use Rattle.file_rules.specs.Asks.{Ask, Read, Refuse, Make, Words, docket_asked, header_ask, initial_tokens_of, marking_asked, proving_asked, scratch_page, target_ask, target_asked, token_ask, tokens_asked, with_record, voucher_ask, voucher_count, vouchers_asked, zone_ask, zones_asked}
use Rattle.file_rules.specs.Reports.{Ends, Goes, Runs}
use Rattle.file_rules.specs.Telling.{Outcome, Tells as TellsIn, TellsOn, call_words, outcome}
use Rattle.file_rules.specs.declared.fault.FileFault.{FileFault}
use Rattle.file_rules.specs.declared.line.Line.{Line}
use Rattle.file_rules.specs.declared.line.Line.TheVariants.{Due, Refused as RefusedLine, Sealed as SealedLine}
use Rattle.net_records.specs.Parts.{Unread, past}
use Rattle.nets.specs.Nets.{Net}

module _ {B : Type 0} (words : Words B) (kind : Kind B) where
  -- what is told from here on goes on from what was told before
  pub record Going (start : Filed B) (asks : List (Ask B)) (first : List ℕ) (f : Filed B) (left : List (Ask B)) (said : List ℕ) : Type 0 where
    pub goes : (last : List ℕ) (out : Outcome B) → TellsFrom words kind f left said last out → TellsFrom words kind start asks first last out

  -- one ask more is behind
  abbrev pub Past : (f : Filed B) → Ask B → (said : List ℕ) → (f' : Filed B) → (said' : List ℕ) → Type 0
  Past f ask said f' said' = (later : List (Ask B)) (last : List ℕ) (out : Outcome B) → TellsFrom words kind f' later said' last out → TellsFrom words kind f (ask ∷ later) said last out

  -- what ended early ends it all
  pub passes_out : {S Y : Type 0} (X : Type 0) (start f f' : Filed B) (asks left later rest : List (Ask B)) (first said said' : List ℕ) (e e' : Ended S) (r : Result Y (Ended S)) → Going start asks first f left said → Passes words kind {X = X} f left said f' later said' (Err e) → r ≡ Err e' → e' ≡ e → Passes words kind {X = Y} start asks first f' rest said' r
  passes_out X start f f' asks left later rest first said said' (Refused fault) e' r going h is same =
      subst (λ q. Passes words kind start asks first f' rest said' q) (sym (is ∙ ap Err same)) (going.goes said' (outcome f'.world (RefusedLine fault)) h)
  passes_out X start f f' asks left later rest first said said' (Stopped s) e' r going h is same =
      subst (λ q. Passes words kind start asks first f' rest said' q) (sym (is ∙ ap Err same)) tt

  pub passes_after : {S X : Type 0} (start f v : Filed B) (asks left later : List (Ask B)) (first said said' : List ℕ) (r : Result X (Ended S)) → Going start asks first f left said → Passes words kind f left said v later said' r → Passes words kind start asks first v later said' r
  passes_after start f v asks left later first said said' (Ok x) going h = λ last out told. going.goes last out (h last out told)
  passes_after start f v asks left later first said said' (Err (Refused fault)) going h = going.goes said' (outcome v.world (RefusedLine fault)) h
  passes_after start f v asks left later first said said' (Err (Stopped s)) going h = tt

  pub comes_out : {S : Type 0} (X : Type 0) (start f f' : Filed B) (asks left later : List (Ask B)) (first said said' : List ℕ) (e e' : Ended S) (r : Result Line (Ended S)) → Going start asks first f left said → Passes words kind {X = X} f left said f' later said' (Err e) → r ≡ Err e' → e' ≡ e → Comes words kind start asks first f' said' r
  comes_out X start f f' asks left later first said said' (Refused fault) e' r going h is same =
      subst (λ q. Comes words kind start asks first f' said' q) (sym (is ∙ ap Err same)) (going.goes said' (outcome f'.world (RefusedLine fault)) h)
  comes_out X start f f' asks left later first said said' (Stopped s) e' r going h is same =
      subst (λ q. Comes words kind start asks first f' said' q) (sym (is ∙ ap Err same)) tt

  pub going_on : (start f f' : Filed B) (asks left later : List (Ask B)) (first said said' : List ℕ) → Going start asks first f left said → ((last : List ℕ) (out : Outcome B) → TellsFrom words kind f' later said' last out → TellsFrom words kind f left said last out) → Going start asks first f' later said'
  going_on start f f' asks left later first said said' going step = record { goes = λ last out h. going.goes last out (step last out h) }

  pub going_self : (f : Filed B) (asks : List (Ask B)) (said : List ℕ) → Going f asks said f asks said
  going_self f asks said = record { goes = λ last out h. h }

  -- ---- the zones, of n those after the first k
  module _ (n k : ℕ) (more : k < n) (start f : Filed B) (asks : List (Ask B)) (first said : List ℕ) (going : Going start asks first f (zones_asked kind (n - k) f.unread.next f.unread.rest) said) where
    pub zones_here : Going start asks first f (zone_ask kind f.unread.next f.unread.rest ∷ zones_asked kind (n - (k + 1)) (f.unread.next + 1) (drop 192 f.unread.rest)) said
    zones_here =
        let one_more : n - k ≡ suc (n - (k + 1)) = omega arith in
        subst (λ (j : ℕ). Going start asks first f (zones_asked kind j f.unread.next f.unread.rest) said) one_more going

    pub zones_on : (f' : Filed B) (said' : List ℕ) → f'.unread ≡ past 192 f.unread → Past f (zone_ask kind f.unread.next f.unread.rest) said f' said' → Going start asks first f' (zones_asked kind (n - (k + 1)) f'.unread.next f'.unread.rest) said'
    zones_on f' said' moved step = record {
      goes = λ last out h.
          zones_here.goes last out (step _ last out (subst (λ (u : Unread). TellsFrom words kind f' (zones_asked kind (n - (k + 1)) u.next u.rest) said' last out) moved h));
    }

  pub zones_all : (n k : ℕ) (start f : Filed B) (asks : List (Ask B)) (first said : List ℕ) → k ≡ n → Going start asks first f (zones_asked kind (n - k) f.unread.next f.unread.rest) said → Going start asks first f (proving_asked kind f.unread.next f.unread.rest) said
  zones_all n k start f asks first said end going =
      let none : n - k ≡ 0 = omega (arith, end) in
      subst (λ (j : ℕ). Going start asks first f (zones_asked kind j f.unread.next f.unread.rest) said) none going

  -- ---- the initial tokens, of n those after the first k, and what follows them
  module _ (n k : ℕ) (more : k < n) (start f : Filed B) (asks later : List (Ask B)) (first said : List ℕ) (going : Going start asks first f (tokens_asked (n - k) (k + 1) f.unread.next f.unread.rest ++ later) said) where
    pub tokens_here : Going start asks first f (token_ask (k + 1) f.unread.next f.unread.rest ∷ tokens_asked (n - (k + 1)) (k + 1 + 1) (f.unread.next + 1) (drop 3 f.unread.rest) ++ later) said
    tokens_here =
        let one_more : n - k ≡ suc (n - (k + 1)) = omega arith in
        subst (λ (j : ℕ). Going start asks first f (tokens_asked j (k + 1) f.unread.next f.unread.rest ++ later) said) one_more going

    pub tokens_on : (f' : Filed B) (said' : List ℕ) → f'.unread ≡ past 3 f.unread → Past f (token_ask (k + 1) f.unread.next f.unread.rest) said f' said' → Going start asks first f' (tokens_asked (n - (k + 1)) (k + 1 + 1) f'.unread.next f'.unread.rest ++ later) said'
    tokens_on f' said' moved step = record {
      goes = λ last out h.
          tokens_here.goes last out (step _ last out (subst (λ (u : Unread). TellsFrom words kind f' (tokens_asked (n - (k + 1)) (k + 1 + 1) u.next u.rest ++ later) said' last out) moved h));
    }

  pub tokens_all : (n k number : ℕ) (start f : Filed B) (asks later : List (Ask B)) (first said : List ℕ) → k ≡ n → Going start asks first f (tokens_asked (n - k) number f.unread.next f.unread.rest ++ later) said → Going start asks first f later said
  tokens_all n k number start f asks later first said end going =
      let none : n - k ≡ 0 = omega (arith, end) in
      subst (λ (j : ℕ). Going start asks first f (tokens_asked j number f.unread.next f.unread.rest ++ later) said) none going

  -- ---- the vouchers
  module _ (start f : Filed B) (asks : List (Ask B)) (first said : List ℕ) (going : Going start asks first f (vouchers_asked kind (voucher_count kind f.unread.rest) f.unread.next f.unread.rest) said) where
    pub vouchers_here : 0 < length f.unread.rest → Going start asks first f (voucher_ask kind f.unread.next f.unread.rest ∷ vouchers_asked kind (voucher_count kind (drop 6 f.unread.rest)) (f.unread.next + 1) (drop 6 f.unread.rest)) said
    vouchers_here some =
        let one_more : voucher_count kind f.unread.rest ≡ suc (voucher_count kind (drop 6 f.unread.rest)) = omega (arith, some, length-drop 6 f.unread.rest) in
        subst (λ (j : ℕ). Going start asks first f (vouchers_asked kind j f.unread.next f.unread.rest) said) one_more going

    pub vouchers_on : (f' : Filed B) (said' : List ℕ) → 0 < length f.unread.rest → f'.unread ≡ past 6 f.unread → Past f (voucher_ask kind f.unread.next f.unread.rest) said f' said' → Going start asks first f' (vouchers_asked kind (voucher_count kind f'.unread.rest) f'.unread.next f'.unread.rest) said'
    vouchers_on f' said' some moved step = record {
      goes = λ last out h.
          (vouchers_here some).goes last out (step _ last out (subst (λ (u : Unread). TellsFrom words kind f' (vouchers_asked kind (voucher_count kind u.rest) u.next u.rest) said' last out) moved h));
    }

    pub vouchers_all : length f.unread.rest ≡ 0 → Going start asks first f [] said
    vouchers_all end =
        let none : voucher_count kind f.unread.rest ≡ 0 = omega (arith, end) in
        subst (λ (j : ℕ). Going start asks first f (vouchers_asked kind j f.unread.next f.unread.rest) said) none going

  -- ---- the target, which is told once it is taken
  taken_where : (short : Bool) (f v : Filed B) (at : ℕ) (refusal : EntryRefusal) (call : Answer → Call B) (said heard : List ℕ) (later : List (Ask B)) → heard ≡ said ++ call_words words f.world v.world (call (Ok tt)) → AskMade kind f.net f.world (cond short (Refuse at refusal) (Make at call)) v.world (Ok tt) → v.net ≡ f.net → (last : List ℕ) (out : Outcome B) → TellsFrom words kind v later heard last out → TellsFrom words kind f (cond short (Refuse at refusal) (Make at call) ∷ later) said last out
  taken_where true f v at refusal call said heard later told made same last out h = absurd made
  taken_where false f v at refusal call said heard later told made same last out h =
      let under = subst (λ (n : Net B). TellsIn words kind n v.world later heard last out) same h in
      (Ok tt, v.world, made, subst (λ t. TellsIn words kind f.net v.world later t last out) told under)

  pub target_taken : (f v : Filed B) (lists : InitialLists) (said heard : List ℕ) → heard ≡ said ++ words.zone v.world → (later : List (Ask B)) → Called kind (opening_ask kind lists f.unread) f (Ok tt) v → (last : List ℕ) (out : Outcome B) → TellsFrom words kind v later heard last out → TellsFrom words kind f (opening_ask kind lists f.unread ∷ later) said last out
  target_taken f v lists said heard told later made =
      taken_where (nat_lt (length f.unread.rest) 192) f v f.unread.next WrongLength (Open (as_lists lists.places.items lists.ages.items) (take 192 f.unread.rest) (scratch_page kind)) said heard later told made.made made.net

  -- ---- a voucher, whose record was taken before it is told
  module _ (f g v : Filed B) (waits : Waits f g) (bytes : List ℕ) (at : ℕ) (there : 6 ≤ length f.unread.rest) (is : bytes ≡ take 6 f.unread.rest) (here : at ≡ f.unread.next) (said heard : List ℕ) (told : heard ≡ said ++ words.voucher g.world.state (voucher_of bytes)) (later : List (Ask B)) where
    abbrev given : List ℕ → Answer → Call B
    given b = Discharge b (scratch_page kind)

    made_here : (r : Result (Unit {0}) FileFault) → AskMade kind g.net g.world (Make at (given bytes)) v.world r → AskMade kind f.net f.world (Make f.unread.next (given (take 6 f.unread.rest))) v.world r
    made_here r made =
        subst (λ b. AskMade kind f.net f.world (Make f.unread.next (given b)) v.world r) is
        (subst (λ (n : ℕ). AskMade kind f.net f.world (Make n (given bytes)) v.world r) here
        (subst (λ (x : Filed B). AskMade kind x.net x.world (Make at (given bytes)) v.world r) waits made))

    told_here : heard ≡ said ++ words.voucher f.world.state (voucher_of (take 6 f.unread.rest))
    told_here = told ∙ ap (λ (x : Filed B). said ++ words.voucher x.world.state (voucher_of bytes)) waits ∙ ap (λ b. said ++ words.voucher f.world.state (voucher_of b)) is

    whole : (last : List ℕ) (out : Outcome B) → TellsFrom words kind f (Make f.unread.next (given (take 6 f.unread.rest)) ∷ later) said last out → TellsFrom words kind f (voucher_ask kind f.unread.next f.unread.rest ∷ later) said last out
    whole last out h =
        subst (λ ask. TellsFrom words kind f (ask ∷ later) said last out) (sym (cond-false (nat_lt (length f.unread.rest) 6) _ _ (le-ltb (length f.unread.rest) 6 there))) h

    pub voucher_taken : Called kind (Make at (given bytes)) g (Ok tt) v → (last : List ℕ) (out : Outcome B) → TellsFrom words kind v later heard last out → TellsFrom words kind f (voucher_ask kind f.unread.next f.unread.rest ∷ later) said last out
    voucher_taken made last out h =
        let same : v.net ≡ f.net = made.net ∙ ap (λ x. x.net) waits in
        let under = subst (λ n. TellsIn words kind n v.world later heard last out) same h in
        whole last out (Ok tt, v.world, made_here (Ok tt) made.made, subst (λ t. TellsIn words kind f.net v.world later t last out) told_here under)

    pub voucher_refused : (fault : FileFault) → Called kind (Make at (given bytes)) g (Err fault) v → TellsFrom words kind f (voucher_ask kind f.unread.next f.unread.rest ∷ later) said heard (outcome v.world (RefusedLine fault))
    voucher_refused fault made =
        let refused = made_here (Err fault) made.made in
        whole heard (outcome v.world (RefusedLine fault)) (Err refused.0, v.world, refused.1, (told_here, ap (λ r. outcome v.world (RefusedLine r)) refused.2))

  -- ---- the close
  pub close_on : (start f : Filed B) (first said : List ℕ) → f.unread ≡ start.unread → Past start (Make start.unread.next Close) first f said → Going start (proving_asked kind start.unread.next start.unread.rest) first f (vouchers_asked kind (voucher_count kind f.unread.rest) f.unread.next f.unread.rest) said
  close_on start f first said same step = record {
    goes = λ last out h.
        step (vouchers_asked kind (voucher_count kind start.unread.rest) start.unread.next start.unread.rest) last out
        (subst (λ (u : Unread). TellsFrom words kind f (vouchers_asked kind (voucher_count kind u.rest) u.next u.rest) said last out) same h);
  }

  -- ---- the docket header
  pub header_on : (start f : Filed B) (first said : List ℕ) (h : DocketHeader) → h ≡ docket_header_of (take 4 start.unread.rest) → f.unread ≡ past 4 start.unread → Past start (header_ask start.unread.next start.unread.rest) first f said → Going start (docket_asked kind start.unread.next start.unread.rest) first f (marking_asked kind h f.unread.next f.unread.rest) said
  header_on start f first said h is moved step = record {
    goes = λ last out told.
        step _ last out
        (subst (λ k. TellsFrom words kind f (marking_asked kind k (start.unread.next + 1) (drop 4 start.unread.rest)) said last out) is
        (subst (λ (u : Unread). TellsFrom words kind f (marking_asked kind h u.next u.rest) said last out) moved told));
  }

  -- ---- the target, behind the initial tokens
  asks_target : (n : ℕ) (rest : List ℕ) (lists : InitialLists) (u : Unread) → AsGiven n rest lists → opening_ask kind lists u ≡ target_ask kind (initial_tokens_of n rest) u.next u.rest
  asks_target n rest lists u gave = λ i. with_record 192 u.next u.rest (λ target. Open (record { places = gave.places i; ages = gave.ages i }) target (scratch_page kind))

  pub marking_on : (start f : Filed B) (first said : List ℕ) (h : DocketHeader) (lists : InitialLists) → AsGiven h.initial start.unread.rest lists → f.unread ≡ read_tokens h.initial start.unread → ((later : List (Ask B)) (last : List ℕ) (out : Outcome B) → TellsFrom words kind f later said last out → TellsFrom words kind start (tokens_asked h.initial 1 start.unread.next start.unread.rest ++ later) first last out) → Going start (marking_asked kind h start.unread.next start.unread.rest) first f (opening_ask kind lists f.unread ∷ zones_asked kind h.zones (f.unread.next + 1) (drop 192 f.unread.rest)) said
  marking_on start f first said h lists given moved step =
      let tokens = initial_tokens_of h.initial start.unread.rest in
      record {
        goes = λ last out told.
            step _ last out
            (subst (λ (u : Unread). TellsFrom words kind f (target_asked kind tokens h.zones u.next u.rest) said last out) moved
            (subst (λ ask. TellsFrom words kind f (ask ∷ zones_asked kind h.zones (f.unread.next + 1) (drop 192 f.unread.rest)) said last out) (asks_target h.initial start.unread.rest lists f.unread given) told));
      }

  pub target_on : (n : ℕ) (start f f' : Filed B) (asks : List (Ask B)) (ask : Ask B) (first said said' : List ℕ) → Going start asks first f (ask ∷ zones_asked kind n (f.unread.next + 1) (drop 192 f.unread.rest)) said → f'.unread ≡ past 192 f.unread → Past f ask said f' said' → Going start asks first f' (zones_asked kind n f'.unread.next f'.unread.rest) said'
  target_on n start f f' asks ask first said said' going moved step = record {
    goes = λ last out told.
        going.goes last out (step _ last out (subst (λ (u : Unread). TellsFrom words kind f' (zones_asked kind n u.next u.rest) said' last out) moved told));
  }

  -- ---- what is told comes to the line
  module _ (net : Net B) where
    runs_on : (at : ℕ) (answer : Answer) (v : World B) (said last : List ℕ) (out : Outcome B) (P Q : Type 0) → (P → Q) → TellsOn words kind net at answer v said last out P → Goes at answer out.line Q
    runs_on at (Ok u) v said last out P Q f h = f h
    runs_on at (Err r) v said last out P Q f h = ap (λ o. o.line) h.1

    pub tells_runs : (asks : List (Ask B)) (w : World B) (before last : List ℕ) (out : Outcome B) → TellsIn words kind net w asks before last out → Runs kind net w asks out.line
    tells_runs [] w before last out h = h.2
    tells_runs (Read said ∷ later) w before last out h = tells_runs later w (before ++ said words) last out h
    tells_runs (Refuse at refusal ∷ later) w before last out h = ap (λ o. o.line) h.1
    tells_runs (Make at call ∷ later) w before last out h =
        let said = before ++ call_words words w h.1 (call h.0) in
        (h.0, h.1, h.2, runs_on at h.0 h.1 said last out _ _ (λ t. tells_runs later h.1 said last out t) h.3)

-- ---- the line, where no record is left
pub some_line : (s : State) (stage : Stage) → IsClosed stage → ((line : Line) → Ends s stage line → ⊥) → ⊥
some_line s Blank never none = never
some_line s Listing never none = never
some_line s (Proving d) closed none = none (Due d s.taken) refl
some_line s Sealed closed none = none (SealedLine (listed_count s) s.taken) refl
