-- How many positions there are at the most.
use Rattle.std.proofs.Common.{◌≤◌, mul-le-mul}
use Rattle.game.specs.Graph.{Graph, Fit}
use Rattle.game.specs.Rule.{Rule, Lawful}
use Rattle.game.specs.Rounds.{positions}

pub most_positions : (g : Graph) (d : Rule) → Fit g → Lawful d → positions g d ≤ 31872
most_positions g d fit lawful = mul-le-mul fit.most lawful.most
