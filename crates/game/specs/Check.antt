-- The rules by which any table is checked, position by position (a certificate checker).
use Rattle.std.specs.Prelude.{◌≡◌, ℕ, ◌<◌, true, false, length, Some, None, ◌≢◌}
use Rattle.game.specs.Graph.{Graph, moves}
use Rattle.game.specs.Rule.{Rule}
use Rattle.game.specs.Table.{Table, Room, count_at, plan_at, move_count}

module _ (g : Graph) (d : Rule) (t : Table) where
  -- what the check asks of the position (v, c)
  pub record Obeys (v c : ℕ) : Type 0 where
    -- at a count of 0 the step is not broken ..
    pub safe : count_at g d t v c ≡ 0 → d.step c (g.mark v) ≢ None
    -- .. a house place's plan names a move to a count of 0 ..
    pub safe_house : (e : ℕ) → d.step c (g.mark v) ≡ Some e → count_at g d t v c ≡ 0 → g.house v ≡ true → (plan_at g d t v c < length (moves g v)) × (move_count g d t v e (plan_at g d t v c) ≡ 0)
    -- .. and a guest place has plan 8, and all its moves lead to counts of 0
    pub safe_guest : (e : ℕ) → d.step c (g.mark v) ≡ Some e → count_at g d t v c ≡ 0 → g.house v ≡ false → (plan_at g d t v c ≡ 8) × ((k : ℕ) → k < length (moves g v) → move_count g d t v e k ≡ 0)
    -- at a count above 0, a broken step asks for count 1 and plan 8 ..
    pub lost_now : 0 < count_at g d t v c → d.step c (g.mark v) ≡ None → (count_at g d t v c ≡ 1) × (plan_at g d t v c ≡ 8)
    -- .. without one, a guest place's plan names a move to a count above 0 and below its own ..
    pub lost_guest : (e : ℕ) → d.step c (g.mark v) ≡ Some e → 0 < count_at g d t v c → g.house v ≡ false → (plan_at g d t v c < length (moves g v)) × (0 < move_count g d t v e (plan_at g d t v c)) × (move_count g d t v e (plan_at g d t v c) < count_at g d t v c)
    -- .. and a house place has plan 8, and all its moves lead to such counts
    pub lost_house : (e : ℕ) → d.step c (g.mark v) ≡ Some e → 0 < count_at g d t v c → g.house v ≡ true → (plan_at g d t v c ≡ 8) × ((k : ℕ) → k < length (moves g v) → (0 < move_count g d t v e k) × (move_count g d t v e k < count_at g d t v c))

  -- every position obeys
  abbrev pub Passes : Type 0
  Passes = (v c : ℕ) → v < g.size → c < d.codes → Obeys v c

  -- the tables that the check passes
  pub record Passed : Type 0 where
    pub room : Room g d t.plan t.count
    pub passes : Passes
