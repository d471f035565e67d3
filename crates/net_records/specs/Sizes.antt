-- How long net records are, in bytes, and the limits of their counts.
use Rattle.std.specs.Prelude.{ℕ}

abbrev pub header_size : ℕ
header_size = 4

abbrev pub slot_size : ℕ
slot_size = 5

-- a byte of counts, and four slots a side
abbrev pub transition_size : ℕ
transition_size = 41

-- slots of a side
abbrev pub side_slots : ℕ
side_slots = 4

abbrev pub most_transitions : ℕ
most_transitions = 64
