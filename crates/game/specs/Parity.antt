-- Even and odd: the one definition for the whole build, in words and as a test.
use Rattle.std.specs.Prelude.{◌≡◌, ℕ, ◌*◌, ◌%◌, Bool, true, false, not, ◌==◌, ◌≢◌}

-- some whole number doubled makes m
abbrev pub Even : ℕ → Type 0
Even m = (k : ℕ) × (2 * k ≡ m)

-- no whole number doubled makes m
abbrev pub Odd : ℕ → Type 0
Odd m = (k : ℕ) → 2 * k ≢ m

-- the same two as tests, by the remainder of halving; that they agree is promised by is_odd
abbrev pub is_even : ℕ → Bool
is_even m = m % 2 == 0

abbrev pub is_odd : ℕ → Bool
is_odd m = not (is_even m)

-- a test tells whether a number is odd
pub record TellsOdd (m : ℕ) (test : Bool) : Type 0 where
  pub odd_if : test ≡ true → Odd m
  pub odd_only : Odd m → test ≡ true
  pub even_if : test ≡ false → Even m
  pub even_only : Even m → test ≡ false
