-- What solve answers and leaves in the caller's buffers.
use Rattle.std.specs.Prelude.{◌≡◌, ℕ, ◌<◌, List, [], length, drop}
use Rattle.game.specs.Graph.{Graph}
use Rattle.game.specs.Rule.{Rule}
use Rattle.game.specs.Rounds.{positions}
use Rattle.game.specs.Table.{entry, table, Room, Planned, Solved, Verdict}

-- b is the plan byte of the position (v, c), by the counts alone
abbrev pub FitPlan : Graph → Rule → List ℕ → ℕ → ℕ → ℕ → Type 0
FitPlan g d count v c b = Planned g d (table [] count) v c b

-- the list holds the plan bytes that these counts ask for
abbrev pub FitsPlan : Graph → Rule → List ℕ → List ℕ → Type 0
FitsPlan g d count plan = (v c : ℕ) → v < g.size → c < d.codes → FitPlan g d count v c (entry d.codes plan v c)

module _ (g : Graph) (d : Rule) where
  -- the buffers held plan and count, with room for every position, and now hold plan' and count'
  pub record Solves (plan count plan' count' : List ℕ) : Type 0 where
    pub room : Room g d plan count
    -- every count is the rounds', every plan byte the one that the rules name
    pub solved : Solved g d (table plan' count')
    -- so the table tells who can keep the duty from each place, over all plans
    pub verdicts : (v : ℕ) → v < g.size → Verdict g d (table plan' count') v
    -- entries beyond n × s hold what they held
    pub plan_long : length plan' ≡ length plan
    pub count_long : length count' ≡ length count
    pub plan_tail : drop (positions g d) plan' ≡ drop (positions g d) plan
    pub count_tail : drop (positions g d) count' ≡ drop (positions g d) count

  -- a buffer is short, and both are as they were
  pub record ShortOf (plan count plan' count' : List ℕ) : Type 0 where
    pub short : Room g d plan count → ⊥
    pub plan_same : plan' ≡ plan
    pub count_same : count' ≡ count
