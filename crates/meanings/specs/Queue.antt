-- The queue map: its rule in words over the number waiting, and the graph that answers it at every place.
use Rattle.std.specs.Prelude.{◌≡◌, ℕ, ◌+◌, ◌-◌, ◌*◌, ◌/◌, ◌<◌, ◌≤◌, true, false, cond, List, [], ◌∷◌, ◌==◌, nat_lt}
use Rattle.game.specs.Graph.{Graph}
use Rattle.game.specs.Parity.{is_odd}

-- the capacities that there are
abbrev pub QueueLimits : ℕ → Type 0
QueueLimits Q = (1 ≤ Q) × (Q ≤ 63)

-- both places with q waiting have this mark
abbrev pub Marked : Graph → ℕ → ℕ → Type 0
Marked g q m = (g.mark (2 * q) ≡ m) × (g.mark (2 * q + 1) ≡ m)

-- the queue of capacity Q. With q waiting, place 2q is the guest's turn and place 2q + 1 the house's
pub record QueueRule (Q : ℕ) (g : Graph) : Type 0 where
  pub size : g.size ≡ 2 * (Q + 1)
  pub guest : (q : ℕ) → q ≤ Q → g.house (2 * q) ≡ false
  pub house : (q : ℕ) → q ≤ Q → g.house (2 * q + 1) ≡ true
  -- a full queue is trouble, an empty one answers it
  pub empty : Marked g 0 0
  pub full : Marked g Q 1
  pub between : (q : ℕ) → 0 < q → q < Q → Marked g q 2
  -- at the guest's turn nobody comes (way 0) or, while there is room, one more (way 1)
  pub comes : (q : ℕ) → q < Q → g.ways (2 * q) ≡ (2 * q + 1) ∷ (2 * q + 3) ∷ []
  pub no_room : g.ways (2 * Q) ≡ (2 * Q + 1) ∷ []
  -- at the house's turn nobody is let in (way 0) or, while someone waits, one is (way 1)
  pub goes : (q : ℕ) → 0 < q → q ≤ Q → g.ways (2 * q + 1) ≡ (2 * q) ∷ (2 * q - 2) ∷ []
  pub nobody : g.ways 1 ≡ 0 ∷ []
  -- off the map
  pub off_side : (v : ℕ) → 2 * (Q + 1) ≤ v → g.house v ≡ false
  pub off_mark : (v : ℕ) → 2 * (Q + 1) ≤ v → g.mark v ≡ 0
  pub off_ways : (v : ℕ) → 2 * (Q + 1) ≤ v → g.ways v ≡ []

-- how many places there are
abbrev pub queue_size : ℕ → ℕ
queue_size Q = 2 * (Q + 1)

-- the mark with q waiting
abbrev pub mark_with : ℕ → ℕ → ℕ
mark_with Q q = cond (q == 0) 0 (cond (q == Q) 1 2)

-- the guest's ways with q waiting ..
abbrev pub guest_ways : ℕ → ℕ → List ℕ
guest_ways Q q = (2 * q + 1) ∷ cond (nat_lt q Q) ((2 * q + 3) ∷ []) []

-- .. and the house's
abbrev pub house_ways : ℕ → List ℕ
house_ways q = (2 * q) ∷ cond (nat_lt 0 q) ((2 * q - 2) ∷ []) []

-- the graph of the queue; v / 2 wait at place v
abbrev pub queue_graph : ℕ → Graph
queue_graph Q = record {
  size = queue_size Q;
  house = λ v. cond (nat_lt v (queue_size Q)) (is_odd v) false;
  mark = λ v. cond (nat_lt v (queue_size Q)) (mark_with Q (v / 2)) 0;
  ways = λ v. cond (nat_lt v (queue_size Q)) (cond (is_odd v) (house_ways (v / 2)) (guest_ways Q (v / 2))) [];
}
