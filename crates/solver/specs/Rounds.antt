-- One round over lists: first every position that is due is flagged, by the counts as they stand; then what is flagged is
-- given the round's number. So no round reads a count that it has given.
use Rattle.std.specs.Prelude.{◌≡◌, ℕ, ◌<◌, Bool, true, cond, ◌&&◌, ◌==◌, List, Some, None, Option}
use Rattle.game.specs.Graph.{Graph}
use Rattle.game.specs.Rule.{Rule}
use Rattle.game.specs.Rounds.{attracted, given, rounds}
use Rattle.game.specs.Table.{entry}

-- the list holds the counts of the first r rounds
abbrev pub Counts : Graph → Rule → ℕ → List ℕ → Type 0
Counts g d r count = (v c : ℕ) → v < g.size → c < d.codes → entry d.codes count v c ≡ given g d r v c

-- the list holds the counts that the rounds end with
abbrev pub Finished : Graph → Rule → List ℕ → Type 0
Finished g d count = (v c : ℕ) → v < g.size → c < d.codes → entry d.codes count v c ≡ rounds g d v c

-- whether a round counts a place whose step answered o, by what was counted before
abbrev pub gains : Graph → ℕ → (ℕ → ℕ → ℕ) → Option ℕ → Bool
gains g v before None = true
gains g v before (Some e) = attracted g v (λ t. before t e)

-- whether the position (v, c) gains a count from a list of counts
abbrev pub gains_at : Graph → Rule → List ℕ → ℕ → ℕ → Bool
gains_at g d count v c = gains g v (entry d.codes count) (d.step c (g.mark v))

-- whether the next round counts it: it has no count, and gains one
abbrev pub is_due : Graph → Rule → List ℕ → ℕ → ℕ → Bool
is_due g d count v c = entry d.codes count v c == 0 && gains_at g d count v c

-- a flag is 1 at what the next round counts, and 0 elsewhere
abbrev pub flag : Bool → ℕ
flag b = cond b 1 0

-- a count after round r, by the flag set before it
abbrev pub settled : ℕ → ℕ → ℕ → ℕ
settled r flagged n = cond (flagged == 1) r n
