-- A text cut into lines, and a line into fields.
use Rattle.std.specs.Prelude.{◌≡◌, ℕ, ◌≤◌, Bool, true, cond, not, List, [], ◌∷◌, ◌++◌, length, ◌==◌, nat_lt}
use Rattle.std.specs.List.{list_all, slice_split, join_with_byte}

-- the byte that ends a line (LF)
abbrev pub line_end : ℕ
line_end = 10

-- the most bytes that may stand before it
abbrev pub line_limit : ℕ
line_limit = 64

-- the byte that parts the fields of a line
abbrev pub comma : ℕ
comma = 44

-- what a text is cut into: lines, until the text ends or no line can be cut
pub data Lines : Type 0 where
  -- nothing is left
  done : Lines
  -- the text ends in a piece without an LF
  torn : Lines
  -- more bytes than a line may have come without an LF
  long : Lines
  -- a line, and what comes after its LF
  cut : List ℕ → Lines → Lines

-- what is left at the end of the text: nothing, or bytes without an LF
abbrev pub left : List ℕ → Lines
left [] = done
left (b ∷ bs) = torn

-- the lines of a text whose first line begins with the bytes `so_far`, read before it
abbrev pub lines_from : List ℕ → List ℕ → Lines
lines_from so_far [] = left so_far
lines_from so_far (b ∷ bs) =
    cond (b == line_end) (cut so_far (lines_from [] bs))
    (cond (nat_lt (length so_far) line_limit) (lines_from (so_far ++ (b ∷ [])) bs) long)

abbrev pub lines : List ℕ → Lines
lines text = lines_from [] text

-- lines one after the other, each with its LF
abbrev pub text_of : List (List ℕ) → List ℕ
text_of [] = []
text_of (l ∷ ls) = l ++ (line_end ∷ text_of ls)

-- whether no byte is b
abbrev pub lacks : ℕ → List ℕ → Bool
lacks b xs = list_all (λ x. not (x == b)) xs

-- what a line may be
abbrev pub Clean : List ℕ → Type 0
Clean l = (lacks line_end l ≡ true) × (length l ≤ line_limit)

abbrev pub Cleans : List (List ℕ) → Type 0
Cleans [] = Unit {0}
Cleans (l ∷ ls) = Clean l × Cleans ls

-- the fields of a line: it is cut at each comma, so a line without one is one field, and an empty line one empty field
abbrev pub fields : List ℕ → List (List ℕ)
fields l = slice_split (λ b. b == comma) l

-- fields joined by commas, one between each two
abbrev pub joined : List (List ℕ) → List ℕ
joined fs = join_with_byte comma fs
