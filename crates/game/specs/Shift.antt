-- A shift's state and what each call makes of it, for any map, duty and table that is lent, fit to the shift or not.
use Rattle.std.specs.Prelude.{ℕ, ◌*◌, Bool, true, false, cond, ◌&&◌, List, [], ◌∷◌, length, Some, None, Option, ◌==◌, nat_le, nat_lt, slice_index}
use Rattle.std.specs.Bool.{beq}
use Rattle.game.specs.Graph.{Graph, moves}
use Rattle.game.specs.Rule.{Rule}
use Rattle.game.specs.Table.{Table, plan_at}
use Rattle.game.specs.Calls.{Call, drive, report, look, restart, Reply, done, stands, refused, seen}
use Rattle.game.specs.Runs.{drives_house}

-- what a shift holds: the sizes of its pass, its first position, the side that the table drives (true: the house),
-- the position it stands on, and whether the step said broken as that was set
pub record State : Type 0 where
  pub size : ℕ
  pub codes : ℕ
  pub start : ℕ
  pub first_code : ℕ
  pub side : Bool
  pub place : ℕ
  pub code : ℕ
  pub ended : Bool

abbrev pub says_broken : Option ℕ → Bool
says_broken None = true
says_broken (Some e) = false

module _ (g : Graph) (d : Rule) where
  -- a shift set to the place v with the code c
  abbrev pub set_to : State → ℕ → ℕ → State
  set_to s v c = record {
    size = s.size;
    codes = s.codes;
    start = s.start;
    first_code = s.first_code;
    side = s.side;
    place = v;
    code = c;
    ended = says_broken (d.step c (g.mark v));
  }

  -- to the place v from a position with this step: where it says broken, refused by the number n
  abbrev pub goes_to : State → ℕ → ℕ → Option ℕ → Reply × State
  goes_to s n v None = (refused n, s)
  goes_to s n v (Some e) = (stands v, set_to s v e)

  -- by move k; n where no way leads on
  abbrev pub moved : State → ℕ → ℕ → Reply × State
  moved s n k = goes_to s n (slice_index (moves g s.place) k) (d.step s.code (g.mark s.place))

  abbrev pub on_side : State → Bool
  on_side s = beq (g.house s.place) s.side

  abbrev pub moves_of : State → ℕ
  moves_of s = length (moves g s.place)

-- what is lent to a call: a map, a duty and a table, fit to the shift or not
module _ (g : Graph) (d : Rule) (t : Table) where
  -- map and duty have the sizes n and s, and both buffers have n × s entries
  abbrev pub sized : ℕ → ℕ → Bool
  sized n s = g.size == n && (d.codes == s && (nat_le (n * s) (length t.plan) && nat_le (n * s) (length t.count)))

  -- what open says to a pass of sizes n and s at a starting place
  abbrev pub open_reply : ℕ → ℕ → ℕ → Reply
  open_reply n s begin = cond (sized n s) (cond (nat_lt begin n) done (refused 31)) (refused 35)

  -- the shift that it opens
  abbrev pub opened : ℕ → ℕ → ℕ → State
  opened n s begin = record {
    size = n;
    codes = s;
    start = begin;
    first_code = d.start;
    side = drives_house g d t begin;
    place = begin;
    code = d.start;
    ended = says_broken (d.step d.start (g.mark begin));
  }

  abbrev pub byte : State → ℕ
  byte s = plan_at g d t s.place s.code

  abbrev pub driven : State → Reply × State
  driven s =
      cond (sized s.size s.codes)
      (cond s.ended (refused 32, s)
      (cond (on_side g d s)
      (cond (nat_lt (byte s) (moves_of g d s)) (moved g d s 35 (byte s)) (refused 35, s))
      (refused 33, s)))
      (refused 35, s)

  abbrev pub reported : State → ℕ → Reply × State
  reported s k =
      cond (sized s.size s.codes)
      (cond s.ended (refused 32, s)
      (cond (on_side g d s) (refused 33, s)
      (cond (nat_lt k (moves_of g d s)) (moved g d s 34 k) (refused 34, s))))
      (refused 35, s)

  abbrev pub restarted : State → Reply × State
  restarted s = cond (sized s.size s.codes) (stands s.start, set_to g d s s.start s.first_code) (refused 35, s)

  abbrev pub looked : State → Reply × State
  looked s = (seen s.place s.code s.ended, s)

  abbrev pub called : State → Call → Reply × State
  called s drive = driven s
  called s (report k) = reported s k
  called s look = looked s
  called s restart = restarted s

  abbrev pub replies : State → List Call → List Reply
  replies s [] = []
  replies s (c ∷ cs) = let r = called s c in r.0 ∷ replies r.1 cs
