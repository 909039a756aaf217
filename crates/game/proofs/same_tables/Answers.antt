use Rattle.game.proofs.Alike.{same_entries}
use Rattle.game.proofs.same_tables.Goals as goal

pub returns : goal.returns
returns g c = search (same_entries, g.M.Map.fit, g.D.Duty.lawful, g.N.Map.fit, g.E.Duty.lawful)
