-- The listing of a table as lines of text, and what the call that writes it answers and leaves.
use Rattle.std.specs.Prelude.{◌≡◌, ℕ, ◌<◌, ◌≤◌, cond, ◌⊎◌, List, [], ◌∷◌, ◌++◌, map, length, drop, codes, decimal, count_by, ◌==◌, nat_eq}
use Rattle.std.specs.List.{range_with_len, flat_map}
use Rattle.game.specs.declared.Refusal.{Refusal}
use Rattle.game.specs.declared.Refusal.TheVariants.{Short, Space}
use Rattle.game.specs.Graph.{Graph}
use Rattle.game.specs.Rule.{Rule}
use Rattle.game.specs.Rounds.{positions}
use Rattle.game.specs.Table.{Table, table, place_count}

-- fields of a line, each after a comma (byte 44)
abbrev pub after_commas : List (List ℕ) → List ℕ
after_commas fields = flat_map (λ field. 44 ∷ field) fields

-- a line's first field and the others
abbrev pub line : List ℕ → List (List ℕ) → List ℕ
line first others = first ++ after_commas others

-- a line and its end, LF (byte 10)
abbrev pub ended : List ℕ → List ℕ
ended l = l ++ 10 ∷ []

-- lines as one text
abbrev pub text_of : List (List ℕ) → List ℕ
text_of lines = flat_map ended lines

-- the line of place v, by its count: 0 gives it to the house, any other to the guest with that count
abbrev pub place_line : ℕ → ℕ → List ℕ
place_line v k = line (codes "place") (decimal v ∷ cond (k == 0) (codes "house" ∷ []) (codes "guest" ∷ decimal k ∷ []))

-- the first line: how many places and codes there are, and how many places the house is given
abbrev pub header_line : ℕ → ℕ → ℕ → List ℕ
header_line n s h = line (codes "verdict") (decimal n ∷ decimal s ∷ decimal h ∷ [])

module _ (g : Graph) (d : Rule) (t : Table) where
  -- how many of the first n places have a count of 0
  abbrev pub house_places : ℕ → ℕ
  house_places n = count_by (λ k. nat_eq k 0) (map (place_count g d t) (range_with_len 0 n))

  -- the lines of the first n places, in order
  abbrev pub place_lines : ℕ → List (List ℕ)
  place_lines n = map (λ v. place_line v (place_count g d t v)) (range_with_len 0 n)

  abbrev pub listing : List ℕ
  listing = text_of (header_line g.size d.codes (house_places g.size) ∷ place_lines g.size)

-- what a space has to hold, so that every listing fits
abbrev pub least_space : ℕ
least_space = 4096

module _ (g : Graph) (d : Rule) (count before after : List ℕ) where
  -- the listing of these counts (with any plan) begins the space, and beyond its length the space is as it was
  pub record Listed (long : ℕ) : Type 0 where
    pub counts : positions g d ≤ length count
    pub space : least_space ≤ length before
    pub text : after ≡ listing g d (table [] count) ++ drop long before
    pub size : long ≡ length (listing g d (table [] count))
    pub most : long ≤ least_space

  -- refused, and nothing changed: first for too few counts, then for too small a space
  pub record Refused (e : Refusal) : Type 0 where
    pub why : ((e ≡ Short) × (length count < positions g d)) ⊎ ((e ≡ Space) × (positions g d ≤ length count) × (length before < least_space))
    pub same : after ≡ before
