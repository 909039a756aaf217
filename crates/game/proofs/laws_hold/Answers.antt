use Rattle.game.proofs.Counting.{rounds_rule}
use Rattle.game.proofs.Verdicts.{solved_verdict}
use Rattle.game.proofs.Checks.{solved_passes}
use Rattle.game.proofs.Keeps.{checked_verdict}
use Rattle.game.proofs.Shifts.{runs_law}
use Rattle.game.proofs.laws_hold.Goals as goal

pub returns : goal.returns
returns g c = search (rounds_rule, solved_verdict, solved_passes, checked_verdict, runs_law, g.M.Map.fit, g.D.Duty.lawful)
