-- Texts that grow by one piece after the other, and the whole of them.
use Rattle.std.proofs.Common.{◌≡◌, ℕ, zero, suc, ◌-◌, ◌≤◌, true, List, [], ◌∷◌, ◌++◌, take, Option, Some, None, codes, sym, refl, ap, ◌∙◌, subst, append_assoc, arith}
use Rattle.std.specs.Fmt.{HasWritten, IsPlainFormatter}
use Rattle.std.specs.declared.fmt.Formatter.{Formatter}
use Rattle.std.proofs.lemmas.Grind.{put_two}
use Rattle.net_words.specs.Explained.{each, line, slot_line, transition_lines, net_text, text_by, explained_text}
use Rattle.net_words.specs.Summaries.{summary_text}
use Rattle.nets.specs.declared.side.Side.{Side}
use Rattle.net_records.specs.NetRecords.{net_header_of, net_fault, sound}
use Rattle.net_records.proofs.Clean.{sound_clean}
use Rattle.net_records.specs.Refusals.{NetFault, fault_text}
use Rattle.net_records.specs.declared.header.NetHeader.{NetHeader}
use Rattle.net_records.specs.declared.slot.Slot.{Slot}

pub each_more : (text : ℕ → List ℕ) (n : ℕ) → 1 ≤ n → each text n ≡ each text (n - 1) ++ text n
each_more text zero h = absurd (omega arith)
each_more text (suc n) h = let e : suc n - 1 ≡ n = omega arith in rw e

-- one more of the texts is written
pub written_more : {W : Type 0} (took : W → List ℕ → W → Type 0) (f g h : Formatter W) (text : ℕ → List ℕ) (n k : ℕ) → 1 ≤ n → n ≡ k → HasWritten took f (each text (n - 1)) g → HasWritten took g (text n) h → HasWritten took f (each text k) h
written_more took f g h text n k some e so_far here = put_two took f g h (each text (n - 1)) (text n) (each text k) so_far here (sym (each_more text n some) ∙ ap (each text) e)

pub written_to : {W : Type 0} (took : W → List ℕ → W → Type 0) (f g : Formatter W) (text : ℕ → List ℕ) (n k : ℕ) → n ≡ k → HasWritten took f (each text n) g → HasWritten took f (each text k) g
written_to took f g text n k e h = subst (λ (m : ℕ). HasWritten took f (each text m) g) e h

-- the line of an arc is written, and where there is none nothing is
pub arc_written : {W : Type 0} (took : W → List ℕ → W → Type 0) (f g h : Formatter W) (side : Side) (o : Option Slot) (slot : Slot) → o ≡ Some slot → h ≡ g → HasWritten took f (slot_line side (Some slot)) g → HasWritten took f (slot_line side o) h
arc_written took f g h side o slot some same one =
    subst (λ (p : Option Slot). HasWritten took f (slot_line side p) h) (sym some)
    (subst (HasWritten took f (slot_line side (Some slot))) (sym same) one)

pub none_written : {W : Type 0} (took : W → List ℕ → W → Type 0) (f h : Formatter W) (side : Side) (o : Option Slot) → ((slot : Slot) → o ≡ Some slot → ⊥) → h ≡ f → IsPlainFormatter f → HasWritten took f (slot_line side o) h
none_written took f h side None none same plain =
    subst (HasWritten took f []) (sym same) (record { wrote = record { parts = []; calls = refl; whole = refl }; plain = plain })
none_written took f h side (Some slot) none same plain = absurd (none slot refl)

-- the summary, and then the transitions
pub net_written : {W : Type 0} (took : W → List ℕ → W → Type 0) (f g w : Formatter W) (h : NetHeader) (bytes : List ℕ) → h ≡ net_header_of (take 4 bytes) → HasWritten took f (line (summary_text h)) g → HasWritten took g (each (transition_lines bytes) h.transitions) w → HasWritten took f (net_text bytes) w
net_written took f g w h bytes is first rest =
    put_two took f g w (line (summary_text h)) (each (transition_lines bytes) h.transitions) (net_text bytes) first rest
    (ap (λ (h : NetHeader). line (summary_text h) ++ each (transition_lines bytes) h.transitions) is)

-- the text of bytes with a fault
pub refused_whole : (bytes : List ℕ) (fault : NetFault) → net_fault bytes ≡ Some fault → codes "refused " ++ (fault_text fault ++ (10 ∷ [])) ≡ explained_text bytes
refused_whole bytes fault e = sym (append_assoc (codes "refused ") (fault_text fault) (10 ∷ [])) ∙ sym (ap (text_by bytes) e)

-- and of bytes without
pub net_whole : (bytes held : List ℕ) → sound bytes ≡ true → held ≡ bytes → net_text held ≡ explained_text bytes
net_whole bytes held clean same = ap net_text same ∙ sym (ap (text_by bytes) (sound_clean bytes clean))
