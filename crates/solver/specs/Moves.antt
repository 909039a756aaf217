-- What is asked of the moves of a place, by the count where each leads, at one code.
use Rattle.std.specs.Prelude.{ℕ, ◌==◌, Bool, not, List, [], length, map, filter, find, min, Option}
use Rattle.std.specs.List.{list_all, list_any, range_with_len, reduce}
use Rattle.game.specs.Graph.{Graph, moves}
use Rattle.game.specs.Rule.{Rule}
use Rattle.game.specs.Rounds.{counted}
use Rattle.game.specs.Table.{move_count, table}

module _ (g : Graph) (d : Rule) (count : List ℕ) (v c : ℕ) where
  -- the count where move k leads
  abbrev pub ahead : ℕ → ℕ
  ahead k = move_count g d (table [] count) v c k

  -- the numbers of the moves
  abbrev pub numbers : List ℕ
  numbers = range_with_len 0 (length (moves g v))

  abbrev pub all_counted : Bool
  all_counted = list_all (λ k. counted (ahead k)) numbers

  abbrev pub some_counted : Bool
  some_counted = list_any (λ k. counted (ahead k)) numbers

  -- the lowest move to a count of n
  abbrev pub lowest : ℕ → Option ℕ
  lowest n = find (λ k. ahead k == n) numbers

  -- the smallest count above 0 to which a move leads
  abbrev pub least : Option ℕ
  least = reduce min (filter (λ n. not (n == 0)) (map ahead numbers))
