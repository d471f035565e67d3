-- Initial tokens that were gathered: what they are refused for.
use Rattle.std.proofs.Common.{◌≡◌, ℕ, Bool, true, false, cond, ◌||◌, List, ◌∷◌, ◌++◌, length, leb, ltb, Ok, Err, Result, refl, inl, inr}
use Rattle.std.proofs.lemmas.Bool.{false≢true}
use Rattle.std.specs.List.{list_any}
use Rattle.arrayvec.specs.ArrayVec.{ArrayVec}
use Rattle.docket_records.specs.declared.fault.EntryRefusal.{EntryRefusal}
use Rattle.docket_records.specs.declared.fault.EntryRefusal.TheVariants.{TooMany, NoSuchPlace}
use Rattle.docket_records.specs.declared.token.InitialToken.{InitialToken}
use Rattle.docket_refusals.specs.declared.refusal.CallRefusal.TheVariants.{Entry}
use Rattle.docket_rules.specs.Tables.{Answer, Answers, Given, Rule, initial_rules, initial_tokens, rule, too_old}
use Rattle.docket.specs.Gathered.{gathered}

abbrev two_rules : (many outside : Bool) (rest : List Rule) → List Rule
two_rules many outside rest = rule 22 (many ≡ true) ∷ rule 23 (outside ≡ true) ∷ rest

-- a refusal answers, and tokens leave it to the rest of the rows
abbrev Gives : (rows rest : List Rule) (tokens : List InitialToken) → Result (ArrayVec InitialToken) EntryRefusal → Type 0
Gives rows rest tokens (Err r) = Answers rows (Err (Entry r))
Gives rows rest tokens (Ok given) = (given.items ≡ tokens) × ((answer : Answer) → Answers rest answer → Answers rows answer)

no : false ≡ true → ⊥
no h = false≢true h

gives : (many outside : Bool) (rest : List Rule) (tokens : List InitialToken) → Gives (two_rules many outside rest) rest tokens (cond many (Err TooMany) (cond outside (Err NoSuchPlace) (Ok (record { items = tokens }))))
gives true outside rest tokens = inl (refl, refl)
gives false true rest tokens = inr (no, inl (refl, refl))
gives false false rest tokens = (refl, λ answer h. inr (no, inr (no, h)))

abbrev pub GatheredBy : (net_places : ℕ) (g : Given) (rest : List Rule) → Result (ArrayVec InitialToken) EntryRefusal → Type 0
GatheredBy net_places g rest result = Gives (initial_rules net_places g ++ rest) rest (initial_tokens g) result

pub gathered_by : (net_places : ℕ) (g : Given) (rest : List Rule) → GatheredBy net_places g rest (gathered net_places g)
gathered_by net_places g rest = gives (ltb 8 (length g.places) || list_any too_old g.ages) (list_any (leb net_places) g.places) rest (initial_tokens g)
