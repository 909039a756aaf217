-- The two sides of a game (its players), as the code names them. A graph has them as the test whether a place is the house's.
use Rattle.std.specs.Prelude.{Bool, cond}
use Rattle.game.specs.declared.Side.{Side}
use Rattle.game.specs.declared.Side.TheVariants.{House, Guest}

abbrev pub side_of : Bool → Side
side_of house = cond house House Guest
