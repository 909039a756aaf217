-- What a map means: a finite directed graph. A place is a vertex, a way an edge, a mark a priority.
use Rattle.std.specs.Prelude.{◌≡◌, ℕ, ◌<◌, ◌≤◌, Bool, false, cond, List, [], ◌∷◌, length, nat_lt, slice_index}

pub record Graph : Type 0 where
  -- how many places there are; they are numbered from 0
  pub size : ℕ
  -- whether the house moves at a place (owns the vertex); elsewhere the guest does
  pub house : ℕ → Bool
  -- the mark of a place: odd is trouble, a lower even mark answers it
  pub mark : ℕ → ℕ
  -- where the ways of a place lead, in order
  pub ways : ℕ → List ℕ

-- what every map keeps: its limits, ways that stay on the map, and what is said of a place off the map
pub record Fit (g : Graph) : Type 0 where
  pub some : 1 ≤ g.size
  pub most : g.size ≤ 128
  pub marks : (v : ℕ) → g.mark v ≤ 15
  pub few : (v : ℕ) → length (g.ways v) ≤ 8
  pub inside : (v i : ℕ) → i < length (g.ways v) → slice_index (g.ways v) i < g.size
  pub off_side : (v : ℕ) → g.size ≤ v → g.house v ≡ false
  pub off_mark : (v : ℕ) → g.size ≤ v → g.mark v ≡ 0
  pub off_ways : (v : ℕ) → g.size ≤ v → g.ways v ≡ []

abbrev pub or_stay : ℕ → List ℕ → List ℕ
or_stay v [] = v ∷ []
or_stay v (t ∷ ts) = t ∷ ts

-- where the moves from a place lead: by its ways, and where it has none, by one back to itself.
-- So every place has a move, and walks never come to a dead end
abbrev pub moves : Graph → ℕ → List ℕ
moves g v = or_stay v (g.ways v)

-- what a map answers of way i of place v: where it leads; beyond the last, the place itself, or 0 off the map
abbrev pub target : Graph → ℕ → ℕ → ℕ
target g v i = cond (nat_lt i (length (g.ways v))) (slice_index (g.ways v) i) (cond (nat_lt v g.size) v 0)
