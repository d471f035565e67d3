-- An arc, written for people.
use Rattle.std.specs.Prelude.{ℕ, List, ◌++◌, codes, decimal}
use Rattle.net_words.specs.Ages.{ages_text}
use Rattle.net_words.specs.declared.arc.ArcWords.{ArcWords}
use Rattle.nets.specs.declared.side.Side.{Side}
use Rattle.nets.specs.declared.side.Side.TheVariants.{Input, Output}

abbrev pub side_text : Side → List ℕ
side_text Input = codes "takes from place "
side_text Output = codes "puts into place "

abbrev pub arc_text : ArcWords → List ℕ
arc_text arc = side_text arc.side ++ (decimal arc.slot.place ++ (codes ", " ++ ages_text arc.slot))
