-- Filled tables at the front of longer buffers are the solved table of these buffers.
use Rattle.std.proofs.Common.{◌≡◌, ℕ, ◌+◌, ◌*◌, ◌<◌, ◌≤◌, List, [], ◌++◌, length, drop, Some, sym, ◌∙◌, subst, arith, length-append, length-drop}
use Rattle.std.proofs.lemmas.List.{get_or_append_left}
use Rattle.std.proofs.lemmas.Slice.{drop-append-drop}
use Rattle.game.specs.Graph.{Graph, Fit, moves}
use Rattle.game.specs.Rule.{Rule, Lawful}
use Rattle.game.specs.Rounds.{positions}
use Rattle.game.specs.Table.{entry, table, move_count, Planned, Room, Solved}
use Rattle.game.proofs.Moves.{moves_inside}
use Rattle.game.proofs.Verdicts.{solved_verdict}
use Rattle.solver.specs.Rounds.{Finished}
use Rattle.solver.specs.Solve.{FitPlan, FitsPlan, Solves}
use Rattle.solver.proofs.Round.{entry_in}
use Rattle.solver.proofs.Plans.{planned_by}

module _ (g : Graph) (d : Rule) (fit : Fit g) (lawful : Lawful d) where
  -- counts that agree on the map ask for the same plan bytes
  planned_same : (count count' : List ℕ) → ((v c : ℕ) → v < g.size → c < d.codes → entry d.codes count' v c ≡ entry d.codes count v c)
      → (v c b : ℕ) → v < g.size → c < d.codes → FitPlan g d count v c b → FitPlan g d count' v c b
  planned_same count count' same v c b lv lc is = record {
    holds = λ e step house z.
        let low = is.holds e step house (sym (same v c lv lc) ∙ z) in
        (low.0, ahead e step b low.0 ∙ low.1, λ j lj. omega (arith, low.2 j lj, ahead e step j (omega (arith, low.0))));
    attacks = λ e step guest more.
        let low = is.attacks e step guest (omega (arith, same v c lv lc)) in (
          low.0,
          omega (arith, low.1, ahead e step b low.0),
          λ j lj some. omega (arith, low.2 j lj (omega (arith, ahead e step j lj)), ahead e step j lj, ahead e step b low.0),
          λ j lj some. omega (arith, low.3 j lj (omega (arith, ahead e step j (omega (arith, low.0)))), ahead e step j (omega (arith, low.0)), ahead e step b low.0),
        );
    waits_house = λ house some. is.waits_house house (omega (arith, same v c lv lc));
    waits_guest = λ guest low. is.waits_guest guest (omega (arith, same v c lv lc));
  }
    where
      ahead : (e : ℕ) → d.step c (g.mark v) ≡ Some e → (k : ℕ) → k < length (moves g v)
          → move_count g d (table [] count') v e k ≡ move_count g d (table [] count) v e k
      ahead e step k lk = same _ e (moves_inside g fit v k lv lk) (lawful.settled c (g.mark v) e step).2

  pub solves : (most : ℕ) (plan count plan' count' : List ℕ) → most ≡ positions g d → Room g d plan count
      → length plan' ≡ positions g d → length count' ≡ positions g d → Finished g d count' → FitsPlan g d count' plan'
      → Solves g d plan count (plan' ++ drop most plan) (count' ++ drop most count)
  solves most plan count plan' count' whole room plans counts finished fits = record {
    room = room;
    solved = solved;
    verdicts = λ v lv. solved_verdict g d (table (plan' ++ drop most plan) (count' ++ drop most count)) fit lawful solved v lv;
    plan_long = long plan plan' plans room.plans;
    count_long = long count count' counts room.counts;
    plan_tail = drop-append-drop most plan plan' (positions g d) (omega arith) (omega arith);
    count_tail = drop-append-drop most count count' (positions g d) (omega arith) (omega arith);
  }
    where
      long : (xs ys : List ℕ) → length ys ≡ positions g d → positions g d ≤ length xs → length (ys ++ drop most xs) ≡ length xs
      long xs ys filled fits = omega (arith, length-append ys (drop most xs), length-drop most xs)

      front : (xs ys : List ℕ) → length xs ≡ positions g d → (v c : ℕ) → v < g.size → c < d.codes → entry d.codes (xs ++ ys) v c ≡ entry d.codes xs v c
      front xs ys long v c lv lc = get_or_append_left xs ys 0 (v * d.codes + c) (omega (arith, long, entry_in g.size d.codes v c lv lc))

      solved : Solved g d (table (plan' ++ drop most plan) (count' ++ drop most count))
      solved = record {
        counts = λ v c lv lc. front count' (drop most count) counts v c lv lc ∙ finished v c lv lc;
        plans = λ v c lv lc.
            subst (Planned g d (table (plan' ++ drop most plan) (count' ++ drop most count)) v c) (sym (front plan' (drop most plan) plans v c lv lc))
            (planned_by g d [] (plan' ++ drop most plan) (count' ++ drop most count) v c _
            (planned_same count' (count' ++ drop most count) (front count' (drop most count) counts) v c _ lv lc (fits v c lv lc)));
      }
