-- What a side that is answered says of the graph.
use Rattle.std.proofs.Common.{◌≡◌, Bool, true, false, refl}
use Rattle.game.specs.declared.Side.TheVariants.{House, Guest}
use Rattle.game.specs.Sides.{side_of}

pub house_side : (b : Bool) → House ≡ side_of b → b ≡ true
house_side true is = refl
house_side false is = cc

pub guest_side : (b : Bool) → Guest ≡ side_of b → b ≡ false
guest_side true is = cc
guest_side false is = refl
