-- Walks (plays), plans that may use the whole walk so far (strategies with memory), and who can keep or break a duty.
use Rattle.std.specs.Prelude.{◌≡◌, ℕ, ◌+◌, ◌-◌, ◌<◌, Bool, true, false, List, map, length, take, slice_index}
use Rattle.game.specs.Graph.{Graph, moves}
use Rattle.game.specs.Rule.{Rule}

abbrev pub first : List ℕ → ℕ
first w = slice_index w 0

abbrev pub last : List ℕ → ℕ
last w = slice_index w (length w - 1)

-- move k leads from place u to place v
abbrev pub Leads : Graph → ℕ → ℕ → ℕ → Type 0
Leads g u k v = (k < length (moves g u)) × (slice_index (moves g u) k ≡ v)

-- a list of one or more places, each reached by a move from the one before
pub record Walk (g : Graph) (w : List ℕ) : Type 0 where
  pub some : 0 < length w
  pub inside : first w < g.size
  pub joined : (i : ℕ) → i + 1 < length w → (k : ℕ) × Leads g (slice_index w i) k (slice_index w (i + 1))

-- a plan of one side (true: the house) names a move after every walk that ends on a place of that side
pub record Plan (g : Graph) (side : Bool) : Type 0 where
  pub choose : List ℕ → ℕ
  pub fit : (w : List ℕ) → Walk g w → g.house (last w) ≡ side → choose w < length (moves g (last w))

abbrev pub HousePlan : Graph → Type 0
HousePlan g = Plan g true

abbrev pub GuestPlan : Graph → Type 0
GuestPlan g = Plan g false

-- the plan leaves this walk: the walk makes the plan's move wherever the plan chooses
abbrev pub Follows : (g : Graph) (side : Bool) → Plan g side → List ℕ → Type 0
Follows g side p w = (i : ℕ) → i + 1 < length w → g.house (slice_index w i) ≡ side → slice_index w (i + 1) ≡ slice_index (moves g (slice_index w i)) (p.choose (take (i + 1) w))

-- the duty breaks the list of the walk's marks
abbrev pub Broken : Graph → Rule → List ℕ → Type 0
Broken g d w = d.Breaks (map g.mark w)

-- the code of the marks before the last place
abbrev pub code_before : Graph → Rule → List ℕ → ℕ
code_before g d w = d.code (map g.mark (take (length w - 1) w))

-- some house plan leaves no walk from v broken
abbrev pub HouseKeeps : Graph → Rule → ℕ → Type 0
HouseKeeps g d v = (p : HousePlan g) × ((w : List ℕ) → Walk g w → first w ≡ v → Follows g true p w → Broken g d w → ⊥)

-- some guest plan leaves every walk of n marks from v broken (there are such walks, since every place has a move)
abbrev pub GuestBreaks : Graph → Rule → ℕ → ℕ → Type 0
GuestBreaks g d v n = (p : GuestPlan g) × ((w : List ℕ) → Walk g w → first w ≡ v → Follows g false p w → length w ≡ n → Broken g d w)

-- n is the least number above 0 of marks by which the guest can break the duty from v
pub record GuestLeast (g : Graph) (d : Rule) (v n : ℕ) : Type 0 where
  pub above : 0 < n
  pub breaks : GuestBreaks g d v n
  pub least : (m : ℕ) → 0 < m → m < n → GuestBreaks g d v m → ⊥
