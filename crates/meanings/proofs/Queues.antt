-- The queue's graph is a map and follows the queue's rule.
use Rattle.std.proofs.Common.{ℕ, ◌≤◌, refl, arith}
use Rattle.std.proofs.lemmas.Bool.Decides.{nat_tests}
use Rattle.game.specs.Graph.{Fit}
use Rattle.meanings.specs.Queue.{QueueLimits, QueueRule, queue_graph}

pub queue_fit : (Q : ℕ) → QueueLimits Q → Fit (queue_graph Q)
queue_fit Q limits = record {
  some = omega arith;
  most = omega arith;
  marks = λ v. grind (arith, nat_tests);
  few = λ v. grind (arith, nat_tests);
  inside = λ v i lt. grind (arith, nat_tests);
  off_side = λ v off. grind (arith, nat_tests);
  off_mark = λ v off. grind (arith, nat_tests);
  off_ways = λ v off. grind (arith, nat_tests);
}

pub queue_says : (Q : ℕ) → 1 ≤ Q → QueueRule Q (queue_graph Q)
queue_says Q some = record {
  size = refl;
  guest = λ q on. grind (arith, nat_tests);
  house = λ q on. grind (arith, nat_tests);
  empty = (grind (arith, nat_tests), grind (arith, nat_tests));
  full = (grind (arith, nat_tests), grind (arith, nat_tests));
  between = λ q above below. (grind (arith, nat_tests), grind (arith, nat_tests));
  comes = λ q below. grind (arith, nat_tests);
  no_room = grind (arith, nat_tests);
  goes = λ q above on. grind (arith, nat_tests);
  nobody = grind (arith, nat_tests);
  off_side = λ v off. grind (arith, nat_tests);
  off_mark = λ v off. grind (arith, nat_tests);
  off_ways = λ v off. grind (arith, nat_tests);
}
