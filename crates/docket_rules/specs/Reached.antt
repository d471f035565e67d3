-- What a caller knows who makes one call after another on one docket from the blank one, over one
-- book.
use Rattle.std.specs.Prelude.{◌≡◌, ℕ, List}
use Rattle.bounds.specs.Kinds.{Kind}
use Rattle.nets.specs.Nets.{Net}
use Rattle.docket_rules.specs.Calls.{Call, Open, Post, Close, Discharge, NextDue, Played}
use Rattle.docket_rules.specs.Calls.{Step}
use Rattle.docket_rules.specs.Logs.{Log, no_log, with_call, with_calls}
use Rattle.docket_rules.specs.Promise.{Kept}
use Rattle.docket_rules.specs.Tables.{Given}
use Rattle.docket_rules.specs.Worlds.{World, blank, with_book}

-- some calls have led here from a blank docket, and this is the log of them
pub record ReachedByCalls {B : Type 0} (kind : Kind B) (net : Net B) (log : Log B)
    (w : World B) : Type 0 where
  pub cells : List B
  pub places : List ℕ
  pub calls : List (Call B)
  pub played : Played kind net (with_book blank cells places) calls w
  pub logged : log ≡ with_calls kind no_log calls

-- the call answers in one way alone, and leaves one docket and one book alone
abbrev pub Sharp : {B X : Type 0} → Kind B → Net B → (call : X → Call B) → Type 0
Sharp {B} {X} kind net call =
    (log : Log B) (w v u : World B) (a b : X) →
    ReachedByCalls kind net log w →
    Step kind net w (call a) v →
    Step kind net w (call b) u →
    (a ≡ b) × (v ≡ u)

pub record CallLaws {B : Type 0} (kind : Kind B) (net : Net B) : Type 0 where
  pub start : (cells : List B) (places : List ℕ) →
      ReachedByCalls kind net no_log (with_book blank cells places)
  pub more : (log : Log B) (w v : World B) (c : Call B) → ReachedByCalls kind net log w →
      Step kind net w c v → ReachedByCalls kind net (with_call kind log c) v
  pub kept : (log : Log B) (w : World B) → ReachedByCalls kind net log w → Kept kind net log w
  pub opens : (g : Given) (target : List ℕ) (scratch : List B) →
      Sharp kind net (Open g target scratch)
  pub posts : (zone : List ℕ) (scratch : List B) → Sharp kind net (Post zone scratch)
  pub closes : Sharp kind net Close
  pub discharges : (voucher : List ℕ) (scratch : List B) →
      Sharp kind net (Discharge voucher scratch)
  pub nexts : Sharp kind net NextDue
