-- Tables that are written row by row.
use Rattle.std.specs.Prelude.{ℕ, ◌+◌, ◌*◌, ◌<◌, List, slice_index_or}

-- each entry of n rows of s is as P says of its place, its code, what it was and what it is
abbrev pub Rows : {T : Type 0} → ℕ → ℕ → (ℕ → ℕ → T → T → Type 0) → List T → List T → Type 0
Rows {T} n s P before after =
    (v c : ℕ) (d : T) → v < n → c < s → P v c (slice_index_or before (v * s + c) d) (slice_index_or after (v * s + c) d)
