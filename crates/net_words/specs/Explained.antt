-- The whole text that bytes are explained by.
use Rattle.std.specs.Prelude.{ℕ, zero, suc, List, [], ◌∷◌, ◌++◌, Some, None, codes, decimal}
use Rattle.std.specs.Prelude.{Option}
use Rattle.net_words.specs.Arcs.{arc_text}
use Rattle.net_words.specs.Summaries.{summary_text}
use Rattle.nets.specs.declared.side.Side.{Side}
use Rattle.nets.specs.declared.side.Side.TheVariants.{Input, Output}
use Rattle.net_records.specs.NetBytes.{arcs_at, slot_at}
use Rattle.net_records.specs.NetRecords.{front_header, net_fault}
use Rattle.net_records.specs.Refusals.{NetFault, fault_text}
use Rattle.net_records.specs.declared.slot.Slot.{Slot}

-- the texts of 1 to n, one after the other
abbrev pub each : (ℕ → List ℕ) → ℕ → List ℕ
each text zero = []
each text (suc n) = each text n ++ text (suc n)

abbrev pub line : List ℕ → List ℕ
line text = text ++ (10 ∷ [])

-- an arc, where there is one
abbrev pub slot_line : Side → Option Slot → List ℕ
slot_line side None = []
slot_line side (Some slot) = line (codes "  " ++ arc_text (record { side = side; slot = slot }))

abbrev pub arc_line : List ℕ → ℕ → Side → ℕ → List ℕ
arc_line bytes t side a = slot_line side (slot_at bytes t side a)

-- the arcs of a side of a transition
abbrev pub side_lines : List ℕ → ℕ → Side → List ℕ
side_lines bytes t side = each (arc_line bytes t side) (arcs_at bytes t side)

abbrev pub transition_lines : List ℕ → ℕ → List ℕ
transition_lines bytes t =
    line (codes "transition " ++ decimal t)
    ++ (side_lines bytes t Input ++ side_lines bytes t Output)

abbrev pub net_text : List ℕ → List ℕ
net_text bytes =
    line (summary_text (front_header bytes))
    ++ each (transition_lines bytes) (front_header bytes).transitions

abbrev pub refused_text : NetFault → List ℕ
refused_text fault = line (codes "refused " ++ fault_text fault)

-- the bytes, or the fault in them
abbrev pub text_by : List ℕ → Option NetFault → List ℕ
text_by bytes None = net_text bytes
text_by bytes (Some fault) = refused_text fault

abbrev pub explained_text : List ℕ → List ℕ
explained_text bytes = text_by bytes (net_fault bytes)
