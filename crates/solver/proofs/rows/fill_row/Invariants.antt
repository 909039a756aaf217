use Rattle.std.proofs.Common.{◌≡◌, ℕ, ◌<◌, ◌≤◌, get_or}
use Rattle.solver.proofs.rows.fill_row.Given as goal

abbrev pub invariant-loop-c : goal.invariant-loop-c
invariant-loop-c g l =
    ((k : ℕ) (d : _) → k < l.c → goal.F-post g l.entry l.v k (get_or l.initial.row k d) (get_or l.row k d))
    × ((k : ℕ) (d : _) → l.c ≤ k → get_or l.row k d ≡ get_or l.initial.row k d)
