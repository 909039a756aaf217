-- Two solved tables agree at every position.
use Rattle.std.proofs.Common.{◌≡◌, ℕ, ◌<◌, length, get_or, Some, None, sym, ◌∙◌, ⊎_elim, arith}
use Rattle.std.proofs.lemmas.Bool.{cases_Bool}
use Rattle.game.specs.Graph.{Graph, Fit, moves}
use Rattle.game.specs.Rule.{Rule, Lawful}
use Rattle.game.specs.Table.{Table, Solved, LowestZero, LowestLeast, count_at, plan_at, move_count}
use Rattle.game.proofs.Moves.{moves_inside}
use Rattle.game.proofs.Rounds.{cases_step}
use Rattle.game.proofs.Checks.{none_count}

module _ (g : Graph) (d : Rule) (fit : Fit g) (lawful : Lawful d) (t u : Table) (st : Solved g d t) (su : Solved g d u) where
  pub same_count : (v c : ℕ) → v < g.size → c < d.codes → count_at g d t v c ≡ count_at g d u v c
  same_count v c lv lc = st.counts v c lv lc ∙ sym (su.counts v c lv lc)

  same_move : (v e k : ℕ) → v < g.size → e < d.codes → k < length (moves g v) → move_count g d t v e k ≡ move_count g d u v e k
  same_move v e k lv le lk = same_count (get_or (moves g v) k 0) e (moves_inside g fit v k lv lk) le

  zero_once : (v e k j : ℕ) → v < g.size → e < d.codes → LowestZero g d t v e k → LowestZero g d u v e j → k ≡ j
  zero_once v e k j lv le a b =
      grind (arith, a.0, a.1, a.2 j, b.0, b.1, b.2 k, same_move v e k lv le a.0, same_move v e j lv le b.0)

  least_once : (v e k j : ℕ) → v < g.size → e < d.codes → LowestLeast g d t v e k → LowestLeast g d u v e j → k ≡ j
  least_once v e k j lv le a b =
      grind (arith, a.1, a.2 j b.0, a.3 j, b.1, b.2 k a.0, b.3 k, same_move v e k lv le a.0, same_move v e j lv le b.0)

  pub same_plan : (v c : ℕ) → v < g.size → c < d.codes → plan_at g d t v c ≡ plan_at g d u v c
  same_plan v c lv lc =
      let p = st.plans v c lv lc in
      let q = su.plans v c lv lc in
      let same = same_count v c lv lc in
      let side = cases_Bool (g.house v) in
      ⊎_elim
      (λ (none : d.step c (g.mark v) ≡ None).
      let one : count_at g d t v c ≡ 1 = st.counts v c lv lc ∙ none_count g d t fit lawful st v c none in
      grind arith)
      (λ (some : (e : ℕ) × (d.step c (g.mark v) ≡ Some e)).
      let e : ℕ = some.0 in
      let le = (lawful.settled c (g.mark v) e some.1).2 in
      let zero = zero_once v e (plan_at g d t v c) (plan_at g d u v c) lv le in
      let least = least_once v e (plan_at g d t v c) (plan_at g d u v c) lv le in
      grind (arith, p.holds e some.1, q.holds e some.1, p.attacks e some.1, q.attacks e some.1))
      (cases_step (d.step c (g.mark v)))
