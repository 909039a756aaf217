use Rattle.std.proofs.Common.{arith}
use Rattle.game.proofs.Sizes.{most_positions}
use Rattle.solver.proofs.Round.{rounds_end}
use Rattle.solver.proofs.counting.count_all.Goals as goal

pub count_round-requires-clause-few : goal.count_round-requires-clause-few
count_round-requires-clause-few g c =
    omega (arith, most_positions (g.M.Map.graph c.args.map.now) (g.D.Duty.rule c.args.duty.now) (g.M.Map.fit c.args.map.now) (g.D.Duty.lawful c.args.duty.now), c.position_count-done-end.ensures, c.loop-done-test.true)

pub returns-then-not-count_round : goal.returns-then-not-count_round
returns-then-not-count_round g c =
    rounds_end (g.M.Map.graph c.args.map.now) (g.D.Duty.rule c.args.duty.now) (g.M.Map.fit c.args.map.now) (g.D.Duty.lawful c.args.duty.now) c.loop-done.done c.count_round.new.count (c.count_round.ensures.quiet c.if-not-count_round.true) c.count_round.ensures.given
