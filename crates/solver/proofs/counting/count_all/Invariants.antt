use Rattle.solver.specs.Rounds.{Counts}
use Rattle.solver.proofs.counting.count_all.Given as goal

abbrev pub invariant-loop-done : goal.invariant-loop-done
invariant-loop-done g l = Counts (g.M.Map.graph l.map) (g.D.Duty.rule l.duty) l.done l.count
