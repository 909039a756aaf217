use Rattle.std.proofs.Common.{◌∙◌, arith, rules}
use Rattle.solver.proofs.Solving.{solves}
use Rattle.solver.proofs.solve.Goals as goal

pub returns : goal.returns
returns g c =
    let most = c.from-most.ensures ∙ c.position_count.ensures in
    solves (g.M.Map.graph c.args.map.now) (g.D.Duty.rule c.args.duty.now) (g.M.Map.fit c.args.map.now) (g.D.Duty.lawful c.args.duty.now) c.from-most.result c.args.plan.now c.args.count.now c.plan_all.new.plan c.count_all.new.count most
    (record { plans = omega (arith, most, c.if-plan-most.false); counts = omega (arith, most, c.if-count-most.false) })
    (search rules) (search rules) c.count_all.ensures c.plan_all.ensures
