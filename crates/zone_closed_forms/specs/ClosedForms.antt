-- The bounds of a zone one step back in closed form.
--     x            the bounds of a zone in normal form
--     clock rows   up j stands at (j,0) and low k at (0,k); narrowing changes nothing else
--     closed       between two tokens the bound of x, or the way by the clock where that is less
use Rattle.std.specs.Prelude.{ℕ, zero, suc, ◌-◌, Bool, not, ◌&&◌, ◌||◌, if◌then◌else◌}
use Rattle.std.specs.Prelude.{List, [], ◌∷◌, ◌++◌, map, length, ◌==◌, nat_lt, slice_index}
use Rattle.std.specs.Prelude.{Some, None, Option}
use Rattle.bounds.specs.Kinds.{Kind}
use Rattle.bounds.specs.declared.range.Range.{Range}
use Rattle.nets.specs.Nets.{Arc, Transition}
use Rattle.zone_walks.specs.Walks.{Matrix, lesser}
use Rattle.zones.specs.Predecessors.{staying, places_at}
use Rattle.zones.specs.Zones.{Zone}
use Rattle.zone_cells.specs.Cells.{arc_at}

pub record ClockRows (B : Type 0) : Type 0 where
  pub up : ℕ → B
  pub low : ℕ → B

-- the clock's own column and row
abbrev pub begun : {B : Type 0} → Matrix B → ClockRows B
begun x = record { up = λ j. x j 0; low = λ k. x 0 k }

-- ---- the closed form
-- the way from j to the clock and on to k
abbrev pub by_clock : {B : Type 0} → Kind B → ClockRows B → Matrix B
by_clock kind rows j k = kind.sum (rows.up j) (rows.low k)

-- zero from a point to itself, the rows against the clock, and the given bounds between tokens
abbrev pub framed : {B : Type 0} → Kind B → ClockRows B → Matrix B → Matrix B
framed kind rows b j k =
    if j == k then kind.zero
    else (if j == 0 then rows.low k else (if k == 0 then rows.up j else b j k))

abbrev pub closed : {B : Type 0} → Kind B → Matrix B → ClockRows B → Matrix B
closed kind x rows = framed kind rows (λ j k. lesser kind (x j k) (by_clock kind rows j k))

-- ---- narrowing a token by a range
-- The range leaves the token no age: with one of its bounds the way from the clock to the token and
-- back sums below zero.
abbrev pub crossed : {B : Type 0} → Kind B → ℕ → Range B → ClockRows B → Bool
crossed kind token range rows =
    not (kind.at_most kind.zero (kind.sum range.lower (rows.up token)))
    || not (kind.at_most kind.zero (kind.sum (rows.low token) range.upper))

-- The way to the clock may lead through the token and the range's upper bound, and the way from the
-- clock through the range's lower bound and the token.
abbrev pub narrowed_rows : {B : Type 0} →
    Kind B → Matrix B → ℕ → Range B → ClockRows B → ClockRows B
narrowed_rows kind x token range rows =
    record {
      up = λ j. lesser kind (rows.up j) (kind.sum (x j token) range.upper);
      low = λ k. lesser kind (rows.low k) (kind.sum range.lower (x token k));
    }

-- every matched token by the range of its arc, one after the other; none where a range crosses
abbrev pub all_narrowed : {B : Type 0} →
    Kind B → Matrix B → List (Arc B) → List ℕ → ClockRows B → Option (ClockRows B)
all_narrowed kind x [] ds rows = Some rows
all_narrowed kind x (a ∷ arcs) [] rows = Some rows
all_narrowed kind x (a ∷ arcs) (zero ∷ ds) rows = all_narrowed kind x arcs ds rows
all_narrowed kind x (a ∷ arcs) (suc d ∷ ds) rows =
    if crossed kind (suc d) a.range rows then None
    else all_narrowed kind x arcs ds (narrowed_rows kind x (suc d) a.range rows)

abbrev pub narrowed_from : {B : Type 0} →
    Kind B → List (Arc B) → List ℕ → Matrix B → Option (ClockRows B)
narrowed_from kind arcs matching x = all_narrowed kind x arcs matching (begun x)

-- ---- a delay
-- the least of zero and so many tokens' bounds
abbrev pub least_below : {B : Type 0} → Kind B → Matrix B → ℕ → ℕ → B
least_below kind x zero k = kind.zero
least_below kind x (suc token) k = lesser kind (x (suc token) k) (least_below kind x token k)

abbrev pub delayed_rows : {B : Type 0} → Kind B → Zone B → ClockRows B
delayed_rows kind z =
    record { up = λ j. z.bound j 0; low = least_below kind z.bound (length z.places) }

abbrev pub delayed_zone : {B : Type 0} → Kind B → Zone B → Zone B
delayed_zone kind z =
    record { places = z.places; bound = closed kind z.bound (delayed_rows kind z) }

-- ---- a firing
-- The points that are kept, the clock first, have their rows; the points behind them are the arcs'
-- tokens, and have the bounds of the arcs' ranges.
abbrev pub spread : {B : Type 0} → Kind B → List ℕ → List (Arc B) → ClockRows B → ClockRows B
spread kind kept arcs rows =
    record {
      up = λ j. if nat_lt j (length kept) then rows.up (slice_index kept j)
          else (arc_at kind arcs (j - length kept)).range.upper;
      low = λ k. if nat_lt k (length kept) then rows.low (slice_index kept k)
          else (arc_at kind arcs (k - length kept)).range.lower;
    }

-- between two kept points the closed form, to or from one behind them the way by the clock alone
abbrev pub kept_closed : {B : Type 0} →
    Kind B → Matrix B → List ℕ → ClockRows B → Matrix B
kept_closed kind x kept rows =
    framed kind rows
    (λ j k. if nat_lt j (length kept) && nat_lt k (length kept)
    then lesser kind (x (slice_index kept j) (slice_index kept k)) (by_clock kind rows j k)
    else by_clock kind rows j k)

-- the tokens that are kept and then a token for each arc, with rows over all of them
abbrev pub kept_zone : {B : Type 0} →
    Kind B → Zone B → List ℕ → List (Arc B) → ClockRows B → Zone B
kept_zone kind z kept arcs rows =
    record {
      places = places_at kept z ++ map (λ a. a.place) arcs;
      bound = kept_closed kind z.bound (0 ∷ kept) rows;
    }

abbrev pub fired_zone : {B : Type 0} →
    Kind B → Transition B → List ℕ → Zone B → ClockRows B → Zone B
fired_zone kind t matching z rows =
    let kept : List ℕ = staying matching z in
    kept_zone kind z kept t.inputs (spread kind (0 ∷ kept) t.inputs rows)
