-- The docket header and an initial token, written for people.
use Rattle.std.specs.Prelude.{ℕ, List, [], ◌∷◌, ◌++◌, codes, decimal}
use Rattle.docket_records.specs.declared.docket_header.DocketHeader.{DocketHeader}
use Rattle.docket_records.specs.declared.token.InitialToken.{InitialToken}
use Rattle.net_words.specs.Summaries.{counted_text}

abbrev pub head_text : DocketHeader → List ℕ
head_text h =
    codes "docket: "
    ++ (counted_text h.initial (codes "initial token")
    ++ (codes ", " ++ counted_text h.zones (codes "listed zone")))

abbrev pub initial_text : ℕ → InitialToken → List ℕ
initial_text n t =
    codes "initial token "
    ++ (decimal n ++ (codes " in place " ++ (decimal t.place ++ (codes ", age " ++ decimal t.age))))

-- ---- as lines of their own
abbrev pub head_line : DocketHeader → List ℕ
head_line h = head_text h ++ (10 ∷ [])

abbrev pub initial_line : ℕ → InitialToken → List ℕ
initial_line number token = initial_text number token ++ (10 ∷ [])
