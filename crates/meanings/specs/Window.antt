-- The window duty (the direct fixed window parity objective): every b successive marks hold one that closes.
use Rattle.std.specs.Prelude.{ℕ, ◌+◌, ◌-◌, ◌*◌, ◌/◌, ◌%◌, ◌<◌, ◌≤◌, min, Bool, true, false, cond, ◌&&◌, ◌||◌, List, [], ◌∷◌, length, Some, None, Option, ◌==◌, nat_le, nat_lt, slice_index}
use Rattle.game.specs.Parity.{Even, is_even}
use Rattle.game.specs.Rule.{Rule}
use Rattle.meanings.specs.Open.{still_open}

-- the bounds that there are
abbrev pub WindowLimits : ℕ → Type 0
WindowLimits b = (1 ≤ b) × (b ≤ 32)

-- ## The lists that are broken

-- of the marks from place i on, the one l places further closes: it is even, and none from the first up to it is smaller
abbrev pub Closes : List ℕ → ℕ → ℕ → Type 0
Closes ms i l = Even (slice_index ms (i + l)) × ((k : ℕ) → k ≤ l → slice_index ms (i + l) ≤ slice_index ms (i + k))

-- some b successive marks hold none that closes
abbrev pub Breaks : ℕ → List ℕ → Type 0
Breaks b ms = (i : ℕ) × (i + b ≤ length ms) × ((l : ℕ) → l < b → Closes ms i l → ⊥)

-- ## The code of a list. WindowCode.antt says it by places alone

-- whether a mark closes a window whose lowest mark so far is low: it is even and not above that
abbrev pub closes_at : ℕ → ℕ → Bool
closes_at low m = is_even m && nat_le m low

-- whether one of these later marks does
abbrev pub closed_below : ℕ → List ℕ → Bool
closed_below low [] = false
closed_below low (m ∷ ms) = closes_at low m || closed_below (min low m) ms

-- whether some mark closes the window of these marks
abbrev pub is_closed : List ℕ → Bool
is_closed [] = true
is_closed (m ∷ ms) = is_even m || closed_below m ms

-- the lowest of low and these marks
abbrev pub lowest : ℕ → List ℕ → ℕ
lowest low [] = low
lowest low (m ∷ ms) = lowest (min low m) ms

-- the code of an open window by its lowest mark, which is odd, and its number of marks
abbrev pub code_at : ℕ → ℕ → ℕ → ℕ
code_at b low k = 1 + ((low - 1) / 2) * (b - 1) + (k - 1)

-- the code of the marks from the earliest open place on
abbrev pub code_of_open : ℕ → List ℕ → ℕ
code_of_open b [] = 0
code_of_open b (m ∷ ms) = code_at b (lowest m ms) (length (m ∷ ms))

-- 0 where no window is open; else by the earliest open one
abbrev pub code : ℕ → List ℕ → ℕ
code b ms = code_of_open b (still_open is_closed ms)

-- ## The step

-- 8 odd marks, with 1 to b - 1 marks each, and the code 0
abbrev pub codes : ℕ → ℕ
codes b = 1 + 8 * (b - 1)

-- what a code says of the earliest open window: its lowest mark (where none is open 16, so that every mark is below) ..
abbrev pub low_of : ℕ → ℕ → ℕ
low_of b c = cond (c == 0) 16 (2 * ((c - 1) / (b - 1)) + 1)

-- .. and its number of marks
abbrev pub count_of : ℕ → ℕ → ℕ
count_of b c = cond (c == 0) 0 ((c - 1) % (b - 1) + 1)

-- an open window that has come to k marks goes on if they are fewer than b
abbrev pub opened : ℕ → ℕ → ℕ → Option ℕ
opened b low k = cond (nat_lt k b) (Some (code_at b low k)) None

-- the mark closes the earliest open window, and with it every later one, or is one more mark of it
abbrev pub moved : ℕ → ℕ → ℕ → ℕ → Option ℕ
moved b low k m = cond (closes_at low m) (Some 0) (opened b (min low m) (k + 1))

-- from a code and on a mark; else broken
abbrev pub step : ℕ → ℕ → ℕ → Option ℕ
step b c m = cond (nat_lt c (codes b) && nat_le m 15) (moved b (low_of b c) (count_of b c) m) None

abbrev pub window : ℕ → Rule
window b = record { codes = codes b; start = 0; Breaks = Breaks b; code = code b; step = step b }
