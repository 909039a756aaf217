use Rattle.std.proofs.Common.{rules, ◌≡◌, ℕ, ◌+◌, ◌<◌, eqb, cond, arith}
use Rattle.game.specs.Table.{entry}
use Rattle.solver.specs.Rounds.{is_due}
use Rattle.solver.proofs.Round.{round_counts, round_quiet, round_loud}
use Rattle.solver.proofs.counting.count_round.Given as given
use Rattle.solver.proofs.counting.count_round.Goals as goal

-- what is flagged, by the places and codes that were answered
flagged : (g : given.Over) (c : goal.After-contains g) (v k : ℕ) → v < (g.M.Map.graph c.args.map.now).size → k < (g.D.Duty.rule c.args.duty.now).codes
    → entry (g.D.Duty.rule c.args.duty.now).codes c.fill.new.table v k ≡ cond (is_due (g.M.Map.graph c.args.map.now) (g.D.Duty.rule c.args.duty.now) c.args.count.now v k) 1 0
flagged g c v k lv lk =
    let told = c.fill.ensures v k 0 (omega (arith, c.size-places.ensures)) (omega (arith, c.codes-codes.ensures)) in search (rules, told)

settled : (g : given.Over) (c : goal.After-contains g) (v k : ℕ) → v < (g.M.Map.graph c.args.map.now).size → k < (g.D.Duty.rule c.args.duty.now).codes
    → entry (g.D.Duty.rule c.args.duty.now).codes c.fill-2.new.table v k
    ≡ cond (eqb (entry (g.D.Duty.rule c.args.duty.now).codes c.fill.new.table v k) 1) (c.args.done + 1) (entry (g.D.Duty.rule c.args.duty.now).codes c.args.count.now v k)
settled g c v k lv lk =
    let told = c.fill-2.ensures v k 0 (omega (arith, c.size-places.ensures)) (omega (arith, c.codes-codes.ensures)) in search (rules, told)

pub returns-clause-given : goal.returns-clause-given
returns-clause-given g c =
    round_counts (g.M.Map.graph c.args.map.now) (g.D.Duty.rule c.args.duty.now) (g.M.Map.fit c.args.map.now) (g.D.Duty.lawful c.args.duty.now) c.args.done c.args.count.now c.fill.new.table c.fill-2.new.table c.requires.stand
    (flagged g c) (settled g c)

pub returns-clause-quiet : goal.returns-clause-quiet
returns-clause-quiet g c none =
    round_quiet (g.M.Map.graph c.args.map.now) (g.D.Duty.rule c.args.duty.now) (g.M.Map.fit c.args.map.now) (g.D.Duty.lawful c.args.duty.now) c.args.done c.args.count.now c.fill.new.table c.fill-2.new.table c.requires.stand
    (flagged g c) (settled g c) (search rules) (search (rules, none))

pub returns-clause-loud : goal.returns-clause-loud
returns-clause-loud g c some =
    round_loud (g.M.Map.graph c.args.map.now) (g.D.Duty.rule c.args.duty.now) (g.M.Map.fit c.args.map.now) (g.D.Duty.lawful c.args.duty.now) c.args.done c.args.count.now c.fill.new.table c.fill-2.new.table c.requires.stand
    (flagged g c) (settled g c) (search rules) (search (rules, some))
