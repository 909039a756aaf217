-- What each refusal is known by: its number, and the position that it names.
use Rattle.std.specs.Prelude.{ℕ, Some, None, Option}
use Rattle.game.specs.declared.Refusal.{Refusal}
use Rattle.game.specs.declared.Refusal.TheVariants.{Limits, Full, Short, Disobeys, Space, Start, Ended, WrongSide, NoWay, Misfit}

abbrev pub refusal_number : Refusal → ℕ
refusal_number Limits = 14
refusal_number Full = 15
refusal_number Short = 21
refusal_number (Disobeys position) = 22
refusal_number Space = 23
refusal_number Start = 31
refusal_number Ended = 32
refusal_number WrongSide = 33
refusal_number NoWay = 34
refusal_number Misfit = 35

-- the position that it names, if it names one: only 22 does, and no refusal names another value
abbrev pub refusal_position : Refusal → Option ℕ
refusal_position Limits = None
refusal_position Full = None
refusal_position Short = None
refusal_position (Disobeys position) = Some position
refusal_position Space = None
refusal_position Start = None
refusal_position Ended = None
refusal_position WrongSide = None
refusal_position NoWay = None
refusal_position Misfit = None
