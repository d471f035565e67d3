-- The ages that a range allows, written for people: age 1 to 2, age above 1 to below 5, age 3 or
-- more.
use Rattle.std.specs.Prelude.{ℕ, Bool, not, ◌&&◌, List, ◌++◌, Some, None, Option, codes}
use Rattle.std.specs.Prelude.{decimal, ◌==◌, if◌then◌else◌}
use Rattle.net_records.specs.declared.slot.End.{End}
use Rattle.net_records.specs.declared.slot.Slot.{Slot}

-- an end, with the word for its mark
abbrev pub end_text : List ℕ → End → List ℕ
end_text mark e = if e.strict then mark ++ (codes " " ++ decimal e.number) else decimal e.number

abbrev pub least_text : End → List ℕ
least_text = end_text (codes "above")

abbrev pub most_text : End → List ℕ
most_text = end_text (codes "below")

-- without limit above
abbrev pub from_text : End → List ℕ
from_text e =
    if e.strict then codes "age " ++ (least_text e ++ codes ", no upper limit")
    else (if e.number == 0 then codes "any age"
    else codes "age " ++ (least_text e ++ codes " or more"))

-- one age
abbrev pub is_single : End → End → Bool
is_single lower upper = lower.number == upper.number && (not lower.strict && not upper.strict)

abbrev pub between_text : End → End → List ℕ
between_text lower upper =
    if is_single lower upper then codes "age " ++ least_text lower
    else codes "age " ++ (least_text lower ++ (codes " to " ++ most_text upper))

abbrev pub range_text : End → Option End → List ℕ
range_text lower None = from_text lower
range_text lower (Some upper) = between_text lower upper

abbrev pub ages_text : Slot → List ℕ
ages_text s = range_text s.lower s.upper
