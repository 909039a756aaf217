-- The plan byte that finished counts ask for.
use Rattle.std.proofs.Common.{◌≡◌, ℕ, zero, suc, ◌<◌, true, false, List, [], length, get_or, Some, None, Option, sym, refl, ◌∙◌, subst, arith}
use Rattle.std.specs.Option.{unwrap_or}
use Rattle.std.proofs.lemmas.Bool.{both_ways}
use Rattle.game.specs.Graph.{Graph, Fit, moves}
use Rattle.game.specs.Rule.{Rule, Lawful}
use Rattle.game.specs.Rounds.{positions}
use Rattle.game.specs.Table.{entry, table, LowestZero, LowestLeast, Planned}
use Rattle.game.proofs.Moves.{moves_inside}
use Rattle.game.proofs.Rounds.{small, live_test, born, house_false, guest_true, given_later}
use Rattle.game.proofs.Ends.{stable}
use Rattle.solver.specs.Moves.{ahead, lowest, least}
use Rattle.solver.specs.Rounds.{Finished}
use Rattle.solver.proofs.Searches.{first_none, first_some, smallest_none, smallest_some}
use Rattle.solver.specs.Solve.{FitPlan}

-- the counts alone say which byte is asked for
pub planned_by : (g : Graph) (d : Rule) (p q count : List ℕ) (v c b : ℕ) → Planned g d (table p count) v c b → Planned g d (table q count) v c b
planned_by g d p q count v c b is = record { holds = is.holds; attacks = is.attacks; waits_house = is.waits_house; waits_guest = is.waits_guest }

pub same_answer : (o : Option ℕ) (e f : ℕ) → o ≡ Some e → o ≡ Some f → e ≡ f
same_answer o e f p q = cc

module _ (g : Graph) (d : Rule) (fit : Fit g) (lawful : Lawful d) (count : List ℕ) (counts : Finished g d count) (v c e : ℕ)
    (lv : v < g.size) (lc : c < d.codes) (step : d.step c (g.mark v) ≡ Some e) where
  abbrev at : ℕ → ℕ
  at = ahead g d count v e

  -- a house place without a count has a move to one
  some_zero : g.house v ≡ true → entry d.codes count v c ≡ 0 → (k : ℕ) × (k < length (moves g v)) × (at k ≡ 0)
  some_zero house z =
      let next = stable g d fit lawful (suc (positions g d)) v c lv lc (sym (counts v c lv lc) ∙ z) in
      let way = house_false g d (positions g d) v e house (live_test g d (positions g d) v c e step next) in
      (way.0, way.1, counts _ e (moves_inside g fit v way.0 lv way.1) (lawful.settled c (g.mark v) e step).2 ∙ way.2)

  -- a guest place with a count above 1 has a move to a count
  some_counted : g.house v ≡ false → 1 < entry d.codes count v c → (k : ℕ) × (k < length (moves g v)) × (0 < at k)
  some_counted guest more = go (entry d.codes count v c) refl
    where
      go : (x : ℕ) → entry d.codes count v c ≡ x → (k : ℕ) × (k < length (moves g v)) × (0 < at k)
      go zero z = absurd (omega arith)
      go (suc r) is =
          let way = guest_true g d r v e guest (born g d (positions g d) v c e r step (sym (counts v c lv lc) ∙ is)) in
          let stays = given_later g d r (positions g d) (get_or (moves g v) way.0 0) e (omega (arith, small g d (positions g d) v c)) way.2 in
          (way.0, way.1, omega (arith, way.2, stays, counts _ e (moves_inside g fit v way.0 lv way.1) (lawful.settled c (g.mark v) e step).2))

  pub planned_house : g.house v ≡ true → entry d.codes count v c ≡ 0
      → FitPlan g d count v c (unwrap_or (lowest g d count v e 0) 8)
  planned_house house z = go (lowest g d count v e 0) refl
    where
      go : (o : Option ℕ) → lowest g d count v e 0 ≡ o → FitPlan g d count v c (unwrap_or o 8)
      go None is = let way = some_zero house z in absurd (first_none at (length (moves g v)) 0 is way.0 way.1 way.2)
      go (Some k) is =
          let low = first_some at (length (moves g v)) 0 k is in
          record {
            holds = λ e' step' house' z'. subst (λ (x : ℕ). LowestZero g d (table [] count) v x k) (same_answer _ e e' step step') (low.0, low.1, λ j lj. omega (arith, low.2 j lj));
            attacks = λ e' step' guest. absurd (both_ways (g.house v) guest house);
            waits_house = λ house' some. absurd (omega arith);
            waits_guest = λ guest. absurd (both_ways (g.house v) guest house);
          }

  pub planned_guest : (n : ℕ) → g.house v ≡ false → 1 < entry d.codes count v c → least g d count v e ≡ Some n
      → FitPlan g d count v c (unwrap_or (lowest g d count v e n) 8)
  planned_guest n guest more smallest = go (lowest g d count v e n) refl
    where
      go : (o : Option ℕ) → lowest g d count v e n ≡ o → FitPlan g d count v c (unwrap_or o 8)
      go None is = let least = smallest_some at (length (moves g v)) n smallest in absurd (first_none at (length (moves g v)) n is least.1.0 least.1.1 least.1.2)
      go (Some k) is =
          let least = smallest_some at (length (moves g v)) n smallest in
          let low = first_some at (length (moves g v)) n k is in
          record {
            holds = λ e' step' house. absurd (both_ways (g.house v) guest house);
            attacks = λ e' step' guest' more'. subst (λ (x : ℕ). LowestLeast g d (table [] count) v x k) (same_answer _ e e' step step') (
              low.0,
              omega (arith, least.0, low.1),
              λ j lj some. omega (arith, low.1, least.2 j lj some),
              λ j lj some. omega (arith, low.1, low.2 j lj, least.2 j (omega (arith, low.0)) some),
            );
            waits_house = λ house. absurd (both_ways (g.house v) guest house);
            waits_guest = λ guest' one. absurd (omega arith);
          }

  pub planned_none : g.house v ≡ false → 1 < entry d.codes count v c → least g d count v e ≡ None → ⊥
  planned_none guest more none = let way = some_counted guest more in omega (arith, way.2, smallest_none at (length (moves g v)) none way.0 way.1)
