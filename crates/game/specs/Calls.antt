-- The calls on a shift (a running controller) and its replies.
use Rattle.std.specs.Prelude.{ℕ, Bool}

pub data Call : Type 0 where
  -- move by the table
  drive : Call
  -- move by this way of the other side's place
  report : ℕ → Call
  -- ask where the shift stands
  look : Call
  -- go back to the first position
  restart : Call

pub data Reply : Type 0 where
  -- the shift is opened
  done : Reply
  -- moved or restarted: the place where the shift stands now
  stands : ℕ → Reply
  -- refused, by a number
  refused : ℕ → Reply
  -- the place, the code, and whether the shift is ended
  seen : ℕ → ℕ → Bool → Reply
