-- The first line of a net, written for people.
use Rattle.std.specs.Prelude.{ℕ, List, ◌++◌, codes, decimal, ◌==◌, if◌then◌else◌}
use Rattle.net_records.specs.declared.header.NetHeader.{NetHeader}
use Rattle.net_records.specs.declared.header.NetKind.{NetKind}
use Rattle.net_records.specs.declared.header.NetKind.TheVariants.{Plain, Marked}

abbrev pub counted_text : ℕ → List ℕ → List ℕ
counted_text n name =
    if n == 1 then decimal n ++ (codes " " ++ name)
    else decimal n ++ (codes " " ++ (name ++ codes "s"))

abbrev pub sizes_text : NetHeader → List ℕ
sizes_text h =
    counted_text h.places (codes "place")
    ++ (codes ", " ++ counted_text h.transitions (codes "transition"))

abbrev pub kind_text : NetKind → List ℕ
kind_text Plain = codes "plain"
kind_text Marked = codes "marked"

abbrev pub summary_text : NetHeader → List ℕ
summary_text h = kind_text h.kind ++ (codes " net: " ++ sizes_text h)
