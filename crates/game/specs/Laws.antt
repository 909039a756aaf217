-- The laws of tables and shifts, for every map and duty.
use Rattle.std.specs.Prelude.{◌≡◌, ℕ, ◌<◌, ◌≤◌, List, [], ◌∷◌}
use Rattle.game.specs.Graph.{Graph}
use Rattle.game.specs.Rule.{Rule}
use Rattle.game.specs.Walks.{HouseKeeps, GuestBreaks}
use Rattle.game.specs.Rounds.{RoundsRule}
use Rattle.game.specs.Table.{Table, Solved, Verdict, place_count, count_at, plan_at}
use Rattle.game.specs.Check.{Passes, Passed}
use Rattle.game.specs.Calls.{Call, done, refused}
use Rattle.game.specs.Runs.{Run, trail}
use Rattle.game.specs.Shift.{open_reply, opened, replies}

module _ (g : Graph) (d : Rule) where
  -- what a table that passes the check tells of a place: no wrong winner, though its counts may not be the least
  pub record Told (t : Table) (v : ℕ) : Type 0 where
    pub house : place_count g d t v ≡ 0 → HouseKeeps g d v
    pub guest : (n : ℕ) → 0 < n → place_count g d t v ≡ n → GuestBreaks g d v n

  -- a table that passed is opened at every place and refused only off the map, by 31; and every list of calls on the
  -- shift is answered as its walk has it
  pub record Shifts (t : Table) : Type 0 where
    pub opens : (begin : ℕ) → begin < g.size → open_reply g d t g.size d.codes begin ≡ done
    pub off : (begin : ℕ) → g.size ≤ begin → open_reply g d t g.size d.codes begin ≡ refused 31
    pub runs : (begin : ℕ) → begin < g.size → (calls : List Call) → Run g d t begin (trail (begin ∷ [])) calls (replies g d t (opened g d t g.size d.codes begin) calls)

  pub record Laws : Type 0 where
    -- the rounds are the rule's
    pub counts : RoundsRule g d
    -- the table that the rounds give tells who can keep the duty, over all plans, and passes the check
    pub verdicts : (t : Table) → Solved g d t → (v : ℕ) → v < g.size → Verdict g d t v
    pub passes : (t : Table) → Solved g d t → Passes g d t
    -- any table that passes the check has no wrong winner, and its shifts run as their walks have it
    pub checked : (t : Table) → Passes g d t → (v : ℕ) → v < g.size → Told t v
    pub shifts : (t : Table) → Passed g d t → Shifts t

-- two maps and two duties mean the same game: equal sizes, sides, marks, ways and steps. What the duties break may differ
pub record Alike (g : Graph) (d : Rule) (h : Graph) (e : Rule) : Type 0 where
  pub size : g.size ≡ h.size
  pub house : (v : ℕ) → v < g.size → g.house v ≡ h.house v
  pub mark : (v : ℕ) → v < g.size → g.mark v ≡ h.mark v
  pub ways : (v : ℕ) → v < g.size → g.ways v ≡ h.ways v
  pub codes : d.codes ≡ e.codes
  pub step : (c m : ℕ) → c < d.codes → m ≤ 15 → d.step c m ≡ e.step c m

-- equal meanings give equal tables: two solved tables agree at every position
abbrev pub SameTables : (g : Graph) (d : Rule) (h : Graph) (e : Rule) → Type 0
SameTables g d h e =
    Alike g d h e → (t u : Table) → Solved g d t → Solved h e u → (v c : ℕ) → v < g.size → c < d.codes
    → (count_at g d t v c ≡ count_at h e u v c) × (plan_at g d t v c ≡ plan_at h e u v c)
