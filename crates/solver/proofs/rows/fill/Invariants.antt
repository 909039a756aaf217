use Rattle.std.proofs.Common.{◌≡◌, ℕ, ◌*◌, ◌≤◌, get_or}
use Rattle.solver.specs.Rows.{Rows}
use Rattle.solver.proofs.rows.fill.Given as goal

abbrev pub invariant-loop-v : goal.invariant-loop-v
invariant-loop-v g l =
    Rows l.v l.width (λ v c x y. goal.F-post g l.entry v c x y) l.initial.table l.table
    × ((k : ℕ) (d : _) → l.v * l.width ≤ k → get_or l.table k d ≡ get_or l.initial.table k d)
