-- What a duty follows that waits for something from each place of a list on: the earliest place where it still waits.
use Rattle.std.specs.Prelude.{ℕ, Bool, cond, List, [], ◌∷◌}

-- the marks from the earliest place on that the test `closed` does not pass; none where it passes all
abbrev pub still_open : (List ℕ → Bool) → List ℕ → List ℕ
still_open closed [] = []
still_open closed (m ∷ ms) = cond (closed (m ∷ ms)) (still_open closed ms) (m ∷ ms)
