use Rattle.std.proofs.Common.{arith}
use Rattle.game.proofs.Sizes.{most_positions}
use Rattle.decision.proofs.list_game.Goals as goal

-- the tables have room for every game, so solve is not refused
pub returns-in_err-solve : goal.returns-in_err-solve
returns-in_err-solve g c =
    let map = c.args.map.now in
    let duty = c.args.duty.now in
    let most = most_positions (g.M.Map.graph map) (g.D.Duty.rule duty) (g.M.Map.fit map) (g.D.Duty.lawful duty) in
    absurd (c.in_err-solve.ensures.1.short (record { plans = omega (arith, c.requires.plans); counts = omega (arith, c.requires.counts) }))
