-- Numbers of 1 to 3 digits without leading zero: what such a field says, and how it is read.
use Rattle.std.specs.Prelude.{◌≡◌, ℕ, ◌+◌, ◌-◌, ◌*◌, ◌≤◌, Bool, cond, ◌&&◌, List, [], ◌∷◌, Some, None, Option, nat_le}

-- n is written as the field f: the digits 0 to 9 are the bytes 48 to 57
abbrev pub Numeral : ℕ → List ℕ → Type 0
Numeral n [] = ⊥
Numeral n (a ∷ []) = (48 ≤ a) × (a ≤ 57) × (n ≡ a - 48)
Numeral n (a ∷ b ∷ []) = (49 ≤ a) × (a ≤ 57) × (48 ≤ b) × (b ≤ 57) × (n ≡ 10 * (a - 48) + (b - 48))
Numeral n (a ∷ b ∷ c ∷ []) = (49 ≤ a) × (a ≤ 57) × (48 ≤ b) × (b ≤ 57) × (48 ≤ c) × (c ≤ 57) × (n ≡ 100 * (a - 48) + 10 * (b - 48) + (c - 48))
Numeral n (a ∷ b ∷ c ∷ d ∷ f) = ⊥

-- whether a byte is a digit from low on
abbrev pub digit : ℕ → ℕ → Bool
digit low b = nat_le low b && nat_le b 57

-- the number that a field is read as
abbrev pub number : List ℕ → Option ℕ
number [] = None
number (a ∷ []) = cond (digit 48 a) (Some (a - 48)) None
number (a ∷ b ∷ []) = cond (digit 49 a && digit 48 b) (Some (10 * (a - 48) + (b - 48))) None
number (a ∷ b ∷ c ∷ []) = cond (digit 49 a && (digit 48 b && digit 48 c)) (Some (100 * (a - 48) + 10 * (b - 48) + (c - 48))) None
number (a ∷ b ∷ c ∷ d ∷ f) = None
