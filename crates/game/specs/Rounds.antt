-- Positions and the rounds that count them (ranks of the guest's attractor, over places times codes).
-- The position (v, c) means standing on place v with code c from the marks before v.
use Rattle.std.specs.Prelude.{◌≡◌, ℕ, zero, suc, ◌*◌, ◌<◌, ◌≤◌, Bool, true, false, cond, not, length, Some, None, Option, ◌==◌, slice_index}
use Rattle.std.specs.List.{list_all, list_any}
use Rattle.game.specs.Graph.{Graph, moves}
use Rattle.game.specs.Rule.{Rule}

-- how many positions there are
abbrev pub positions : Graph → Rule → ℕ
positions g d = g.size * d.codes

-- a count that stands is kept
abbrev pub or_else : ℕ → ℕ → ℕ
or_else zero n = n
or_else (suc k) n = suc k

-- a count of 0 says that there is none
abbrev pub counted : ℕ → Bool
counted n = not (n == 0)

-- whether a round counts place v by the counts where its moves lead: a house place if all are counted, a guest place
-- if some is (one step of the guest's attractor)
abbrev pub attracted : Graph → ℕ → (ℕ → ℕ) → Bool
attracted g v at = cond (g.house v) (list_all (λ t. counted (at t)) (moves g v)) (list_any (λ t. counted (at t)) (moves g v))

-- what round r + 1 gives place v, by the counts before it and what the step answered: a broken step is counted at once;
-- else it goes by the counts at the code that the step answered
abbrev pub fresh : Graph → ℕ → ℕ → (ℕ → ℕ → ℕ) → Option ℕ → ℕ
fresh g r v before None = 1
fresh g r v before (Some e) = cond (attracted g v (λ t. before t e)) (suc r) 0

-- the count of the position (v, c) after r rounds; 0 where they gave it none
unfoldable pub given : Graph → Rule → ℕ → ℕ → ℕ → ℕ
given g d zero v c = 0
given g d (suc r) v c = or_else (given g d r v c) (fresh g r v (given g d r) (d.step c (g.mark v)))

-- the count that a position has in the end: no round after n × s gives anything (law `last` below)
abbrev pub rounds : Graph → Rule → ℕ → ℕ → ℕ
rounds g d v c = given g d (positions g d) v c

module _ (g : Graph) (d : Rule) where
  -- round r + 1 gives nothing on the map
  abbrev pub Quiet : ℕ → Type 0
  Quiet r = (v c : ℕ) → v < g.size → c < d.codes → given g d r v c ≡ 0 → given g d (suc r) v c ≡ 0

  -- the count after r rounds at the code e where move k from v leads
  abbrev pub given_ahead : ℕ → ℕ → ℕ → ℕ → ℕ
  given_ahead r v e k = given g d r (slice_index (moves g v) k) e

  abbrev pub SomeCounted : ℕ → ℕ → ℕ → Type 0
  SomeCounted r v e = (k : ℕ) × (k < length (moves g v)) × (0 < given_ahead r v e k)

  abbrev pub AllCounted : ℕ → ℕ → ℕ → Type 0
  AllCounted r v e = (k : ℕ) → k < length (moves g v) → 0 < given_ahead r v e k

  -- round r + 1 counts the position (v, c), which has no count yet, exactly if P holds
  pub record CountsIf (r v c : ℕ) (P : Type 0) : Type 0 where
    pub gives : P → given g d (suc r) v c ≡ suc r
    pub gives_only : given g d (suc r) v c ≡ suc r → P
    pub leaves : (P → ⊥) → given g d (suc r) v c ≡ 0

  -- the rounds in the rule's own words
  pub record RoundsRule : Type 0 where
    -- round 1 gives 1 to each position whose step says broken, and to no other
    pub first : (v c : ℕ) → CountsIf 0 v c (d.step c (g.mark v) ≡ None)
    -- a count once given stays
    pub stays : (r v c : ℕ) → 0 < given g d r v c → given g d (suc r) v c ≡ given g d r v c
    -- round r + 1, from 2 on, counts an uncounted guest place if some way leads to a position counted before ..
    pub guest : (r v c e : ℕ) → 0 < r → g.house v ≡ false → d.step c (g.mark v) ≡ Some e → given g d r v c ≡ 0 → CountsIf r v c (SomeCounted r v e)
    -- .. and an uncounted house place if all ways do
    pub house : (r v c e : ℕ) → 0 < r → g.house v ≡ true → d.step c (g.mark v) ≡ Some e → given g d r v c ≡ 0 → CountsIf r v c (AllCounted r v e)
    -- the rounds may end at the first that gives nothing: the counts are then those of the end
    pub quiet : (r v c : ℕ) → Quiet r → v < g.size → c < d.codes → given g d r v c ≡ rounds g d v c
    -- no round after n × s gives anything
    pub last : (r v c : ℕ) → positions g d ≤ r → v < g.size → c < d.codes → given g d r v c ≡ rounds g d v c
    -- no count exceeds n × s
    pub small : (v c : ℕ) → rounds g d v c ≤ positions g d
