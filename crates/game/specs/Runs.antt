-- The walk of a shift, drawn from its starting place, the calls and their arguments alone: what each call has to be
-- answered, what it leaves, and what the walk then keeps.
use Rattle.std.specs.Prelude.{◌≡◌, ℕ, ◌<◌, ◌≤◌, Bool, true, List, [], ◌∷◌, ◌++◌, length, take, ◌==◌, ◌≢◌, slice_index}
use Rattle.game.specs.Graph.{Graph, moves}
use Rattle.game.specs.Rule.{Rule}
use Rattle.game.specs.Walks.{Walk, Broken, code_before, first, last}
use Rattle.game.specs.Table.{Table, plan_at, place_count}
use Rattle.game.specs.Calls.{Call, drive, report, look, restart, Reply, stands, refused, seen}

-- what a run of calls has come to
pub record Trail : Type 0 where
  pub walk : List ℕ

abbrev pub trail : List ℕ → Trail
trail w = record { walk = w }

-- the walk with one more place
abbrev pub onward : Trail → ℕ → Trail
onward w v = trail (w.walk ++ v ∷ [])

-- the side that the table drives from a starting place (true: the house)
abbrev pub drives_house : Graph → Rule → Table → ℕ → Bool
drives_house g d t begin = place_count g d t begin == 0

module _ (g : Graph) (d : Rule) (t : Table) (begin : ℕ) where
  -- the walk is broken
  abbrev pub Ended : Trail → Type 0
  Ended w = Broken g d w.walk

  -- the last place is on the side that the table drives
  abbrev pub Driven : Trail → Type 0
  Driven w = g.house (last w.walk) ≡ drives_house g d t begin

  -- how many moves the last place has, and where one leads
  abbrev pub choices : Trail → ℕ
  choices w = length (moves g (last w.walk))

  abbrev pub leads_to : Trail → ℕ → ℕ
  leads_to w k = slice_index (moves g (last w.walk)) k

  -- the plan byte at the last place and the code of the marks before it
  abbrev pub named : Trail → ℕ
  named w = plan_at g d t (last w.walk) (code_before g d w.walk)

  -- refused by the number n, and nothing changes
  abbrev pub Same : Trail → Reply → Trail → ℕ → Type 0
  Same w a x n = (a ≡ refused n) × (x ≡ w)

  -- the walk goes on by move k
  abbrev pub Moves : Trail → Reply → Trail → ℕ → Type 0
  Moves w a x k = (a ≡ stands (leads_to w k)) × (x ≡ onward w (leads_to w k))

  -- at w a call is answered a and leaves x
  abbrev pub Step : Trail → Call → Reply → Trail → Type 0
  Step w drive a x =
      (Ended w → Same w a x 32)
      × ((Ended w → ⊥) → (Driven w → ⊥) → Same w a x 33)
      × ((Ended w → ⊥) → Driven w → (named w < choices w) × Moves w a x (named w))
  Step w (report k) a x =
      (Ended w → Same w a x 32)
      × ((Ended w → ⊥) → Driven w → Same w a x 33)
      × ((Ended w → ⊥) → (Driven w → ⊥) → choices w ≤ k → Same w a x 34)
      × ((Ended w → ⊥) → (Driven w → ⊥) → k < choices w → Moves w a x k)
  Step w look a x =
      (x ≡ w) × ((ended : Bool) × (a ≡ seen (last w.walk) (code_before g d w.walk) ended) × (ended ≡ true → Ended w) × (Ended w → ended ≡ true))
  Step w restart a x = (a ≡ stands (first w.walk)) × (x ≡ trail (take 1 w.walk))

  -- what a walk from a place with count n keeps: unbroken at 0; otherwise at most n marks, and broken by the n-th
  pub record Kept (w : Trail) : Type 0 where
    pub walk : Walk g w.walk
    pub held : place_count g d t begin ≡ 0 → Ended w → ⊥
    pub short : 0 < place_count g d t begin → length w.walk ≤ place_count g d t begin
    pub ends : 0 < place_count g d t begin → length w.walk ≡ place_count g d t begin → Ended w

  -- the replies to a list of calls, one each, as the walk has them and never 35, and the walk kept after each
  abbrev pub Run : Trail → List Call → List Reply → Type 0
  Run w [] [] = Kept w
  Run w [] (a ∷ rs) = ⊥
  Run w (c ∷ cs) [] = ⊥
  Run w (c ∷ cs) (a ∷ rs) = Kept w × (a ≢ refused 35) × ((x : Trail) × (Step w c a x × Run x cs rs))
