-- A table of moves, the one that the rounds give, and what it tells of a place.
use Rattle.std.specs.Prelude.{◌≡◌, ℕ, ◌+◌, ◌*◌, ◌<◌, ◌≤◌, true, false, List, length, Some, slice_index}
use Rattle.game.specs.Graph.{Graph, moves}
use Rattle.game.specs.Rule.{Rule}
use Rattle.game.specs.Walks.{HouseKeeps, GuestLeast}
use Rattle.game.specs.Rounds.{positions, rounds}

-- the one lookup in a list with rows of s entries: place v's row begins at v × s
abbrev pub entry : ℕ → List ℕ → ℕ → ℕ → ℕ
entry s xs v c = slice_index xs (v * s + c)

-- a plan byte and a count for each position, at its number v × s + c
pub record Table : Type 0 where
  pub plan : List ℕ
  pub count : List ℕ

abbrev pub table : List ℕ → List ℕ → Table
table p n = record { plan = p; count = n }

-- both buffers have an entry for each position
pub record Room (g : Graph) (d : Rule) (plan count : List ℕ) : Type 0 where
  pub plans : positions g d ≤ length plan
  pub counts : positions g d ≤ length count

module _ (g : Graph) (d : Rule) (t : Table) where
  abbrev pub count_at : ℕ → ℕ → ℕ
  count_at v c = entry d.codes t.count v c

  abbrev pub plan_at : ℕ → ℕ → ℕ
  plan_at v c = entry d.codes t.plan v c

  -- a place's count is that of its position with the start code: 0 gives the place to the house, any other to the guest
  abbrev pub place_count : ℕ → ℕ
  place_count v = count_at v d.start

  -- the count at the code e where move k from v leads
  abbrev pub move_count : ℕ → ℕ → ℕ → ℕ
  move_count v e k = count_at (slice_index (moves g v) k) e

  -- k is the lowest move from v to a count of 0
  abbrev pub LowestZero : ℕ → ℕ → ℕ → Type 0
  LowestZero v e k = (k < length (moves g v)) × (move_count v e k ≡ 0) × ((j : ℕ) → j < k → 0 < move_count v e j)

  -- k is the lowest move from v to the smallest count above 0
  abbrev pub LowestLeast : ℕ → ℕ → ℕ → Type 0
  LowestLeast v e k = (k < length (moves g v)) × (0 < move_count v e k) × ((j : ℕ) → j < length (moves g v) → 0 < move_count v e j → move_count v e k ≤ move_count v e j) × ((j : ℕ) → j < k → 0 < move_count v e j → move_count v e k < move_count v e j)

  -- b is the plan byte that the counts ask for at (v, c): the lowest move to a count of 0 at a house place with count 0,
  -- the lowest move to the smallest count above 0 at a guest place with a count above 1, otherwise 8, which names no move
  pub record Planned (v c b : ℕ) : Type 0 where
    pub holds : (e : ℕ) → d.step c (g.mark v) ≡ Some e → g.house v ≡ true → count_at v c ≡ 0 → LowestZero v e b
    pub attacks : (e : ℕ) → d.step c (g.mark v) ≡ Some e → g.house v ≡ false → 1 < count_at v c → LowestLeast v e b
    pub waits_house : g.house v ≡ true → 0 < count_at v c → b ≡ 8
    pub waits_guest : g.house v ≡ false → count_at v c ≤ 1 → b ≡ 8

  -- the table that the rounds give
  pub record Solved : Type 0 where
    pub counts : (v c : ℕ) → v < g.size → c < d.codes → count_at v c ≡ rounds g d v c
    pub plans : (v c : ℕ) → v < g.size → c < d.codes → Planned v c (plan_at v c)

  -- the counts tell who can keep or break the duty from place v, over all plans: count 0 exactly if some house plan keeps
  -- it, count n above 0 exactly if the guest can break it in n marks and in no fewer
  pub record Verdict (v : ℕ) : Type 0 where
    pub house_if : HouseKeeps g d v → place_count v ≡ 0
    pub house_only : place_count v ≡ 0 → HouseKeeps g d v
    pub guest_if : (n : ℕ) → GuestLeast g d v n → place_count v ≡ n
    pub guest_only : (n : ℕ) → 0 < n → place_count v ≡ n → GuestLeast g d v n
