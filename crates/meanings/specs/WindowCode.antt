-- The law of the window duty's codes, by places and quantifiers: what the code of a list says of its open windows.
use Rattle.std.specs.Prelude.{◌≡◌, ℕ, ◌+◌, ◌-◌, ◌<◌, ◌≤◌, ◌⊎◌, List, length, slice_index}
use Rattle.game.specs.Parity.{Odd}
use Rattle.meanings.specs.Window.{Closes, Breaks, code, code_at}

-- the window that begins at place i is closed: some mark of the list closes it
abbrev pub ClosedFrom : List ℕ → ℕ → Type 0
ClosedFrom ms i = (l : ℕ) × (i + l < length ms) × Closes ms i l

-- every window is closed
abbrev pub AllClosed : List ℕ → Type 0
AllClosed ms = (i : ℕ) → i < length ms → ClosedFrom ms i

-- the earliest window still open begins at place i, and its lowest mark is low
pub record EarliestOpen (ms : List ℕ) (i low : ℕ) : Type 0 where
  pub within : i < length ms
  pub unclosed : ClosedFrom ms i → ⊥
  pub first : (j : ℕ) → j < i → ClosedFrom ms j
  pub seen : (l : ℕ) × (i + l < length ms) × (slice_index ms (i + l) ≡ low)
  pub least : (l : ℕ) → i + l < length ms → low ≤ slice_index ms (i + l)

pub record WindowCode (b : ℕ) (ms : List ℕ) : Type 0 where
  -- code 0 says that no window is open, and is said only then
  pub none : AllClosed ms → code b ms ≡ 0
  pub none_only : code b ms ≡ 0 → AllClosed ms
  -- else the code is that of the earliest open window's lowest mark, which is odd, and its number of marks ..
  pub earliest : (i low : ℕ) → EarliestOpen ms i low → code b ms ≡ code_at b low (length ms - i)
  pub odd : (i low : ℕ) → EarliestOpen ms i low → Odd low
  -- .. which stays below b while the list is unbroken
  pub short : (i low : ℕ) → EarliestOpen ms i low → (Breaks b ms → ⊥) → length ms - i < b
  -- one of the two cases always applies
  pub either : AllClosed ms ⊎ ((i : ℕ) × (low : ℕ) × EarliestOpen ms i low)
