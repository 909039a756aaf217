use Rattle.std.proofs.Common.{sym, ◌∙◌, subst, arith, rules}
use Rattle.std.specs.Option.{unwrap_or}
use Rattle.game.proofs.Sides.{house_side, guest_side}
use Rattle.solver.specs.Solve.{FitPlan}
use Rattle.solver.proofs.Plans.{planned_house, planned_guest, planned_none}
use Rattle.solver.proofs.position.Position.planned.Goals as goal

pub returns-in_err-least-in-Guest : goal.returns-in_err-least-in-Guest
returns-in_err-least-in-Guest g c =
    let m = c.args.self.now.map.now in
    let d = c.args.self.now.duty.now in
    absurd (planned_none (g.M.Map.graph m) (g.D.Duty.rule d) (g.M.Map.fit m) (g.D.Duty.lawful d) c.args.self.now.count.now c.requires c.args.self.now.place c.args.self.now.code c.in_ok-e.e c.args.self.now.on c.args.self.now.coded (search rules)
    (guest_side _ c.in-Guest.ensures) (omega (arith, c.count-here.ensures, c.if-here-gt1.true)) (search rules))

pub returns-in_ok-least-in-Guest : goal.returns-in_ok-least-in-Guest
returns-in_ok-least-in-Guest g c =
    let m = c.args.self.now.map.now in
    let d = c.args.self.now.duty.now in
    subst (λ o. FitPlan (g.M.Map.graph m) (g.D.Duty.rule d) c.args.self.now.count.now c.args.self.now.place c.args.self.now.code (unwrap_or o 8)) (sym (simp (c.at-next.ensures.map, c.at-next.ensures.duty, c.at-next.ensures.count, c.at-next.ensures.place, c.at-next.ensures.code) at c.lowest-in-Guest.ensures))
    (planned_guest (g.M.Map.graph m) (g.D.Duty.rule d) (g.M.Map.fit m) (g.D.Duty.lawful d) c.args.self.now.count.now c.requires c.args.self.now.place c.args.self.now.code c.in_ok-e.e c.args.self.now.on c.args.self.now.coded (search rules)
    _ (guest_side _ c.in-Guest.ensures) (omega (arith, c.count-here.ensures, c.if-here-gt1.true)) (search rules))

pub returns-in-House : goal.returns-in-House
returns-in-House g c =
    let m = c.args.self.now.map.now in
    let d = c.args.self.now.duty.now in
    subst (λ o. FitPlan (g.M.Map.graph m) (g.D.Duty.rule d) c.args.self.now.count.now c.args.self.now.place c.args.self.now.code (unwrap_or o 8)) (sym (simp (c.at-next.ensures.map, c.at-next.ensures.duty, c.at-next.ensures.count, c.at-next.ensures.place, c.at-next.ensures.code) at c.lowest.ensures))
    (planned_house (g.M.Map.graph m) (g.D.Duty.rule d) (g.M.Map.fit m) (g.D.Duty.lawful d) c.args.self.now.count.now c.requires c.args.self.now.place c.args.self.now.code c.in_ok-e.e c.args.self.now.on c.args.self.now.coded (search rules)
    (house_side _ c.in-House.ensures) (sym c.count-here.ensures ∙ c.if-here-eq0.true))
