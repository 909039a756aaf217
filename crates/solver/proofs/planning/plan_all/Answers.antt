use Rattle.std.proofs.Common.{arith, rules}
use Rattle.solver.proofs.planning.plan_all.Goals as goal

pub returns : goal.returns
returns g c v k lv lk =
    let told = c.fill.ensures v k 0 (omega (arith, c.size.ensures)) (omega (arith, c.codes.ensures)) in
    search (rules, told)
