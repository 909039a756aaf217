-- The table that the rounds give passes the check.
use Rattle.std.proofs.Common.{◌≡◌, ℕ, suc, ◌-◌, ◌*◌, ◌<◌, ◌≤◌, length, get_or, None, sym, ◌∙◌, arith, mul-le-mul}
use Rattle.std.proofs.lemmas.Bool.{cases_Bool}
use Rattle.game.specs.Graph.{Graph, Fit, moves}
use Rattle.game.specs.Rule.{Rule, Lawful}
use Rattle.game.specs.Rounds.{given}
use Rattle.game.specs.Table.{Table, count_at, move_count, Solved}
use Rattle.game.specs.Check.{Passes}
use Rattle.game.proofs.Moves.{moves_inside}
use Rattle.game.proofs.Rounds.{small, none_one, born, live_test, house_true, guest_true, guest_false, given_later}
use Rattle.game.proofs.Ends.{stable}

module _ (g : Graph) (d : Rule) (t : Table) (fit : Fit g) (lawful : Lawful d) (solved : Solved g d t) where
  abbrev end : ℕ
  end = g.size * d.codes

  pub none_count : (v c : ℕ) → d.step c (g.mark v) ≡ None → given g d end v c ≡ 1
  none_count v c none =
      let some : 1 * 1 ≤ end = mul-le-mul fit.some lawful.some in
      let one = none_one g d 0 v c none in
      omega (arith, given_later g d 1 end v c)

  -- the count of a move is what the rounds gave where it leads
  move_given : (v e k : ℕ) → v < g.size → e < d.codes → k < length (moves g v) → move_count g d t v e k ≡ given g d end (get_or (moves g v) k 0) e
  move_given v e k lv le lk = solved.counts _ e (moves_inside g fit v k lv lk) le

  -- a move that had a count by round k keeps it, and it is at most k
  move_below : (v e k j : ℕ) → v < g.size → e < d.codes → j < length (moves g v) → k < end → 0 < given g d k (get_or (moves g v) j 0) e → (0 < move_count g d t v e j) × (move_count g d t v e j ≤ k)
  move_below v e k j lv le lj lk some =
      let same = move_given v e j lv le lj in
      let stays = given_later g d k end (get_or (moves g v) j 0) e (omega arith) some in
      let low = small g d k (get_or (moves g v) j 0) e in
      (omega arith, omega arith)

  pub solved_passes : Passes g d t
  solved_passes v c lv lc =
      let plans = solved.plans v c lv lc in
      let is = solved.counts v c lv lc in
      record {
        safe = λ z none. omega (arith, none_count v c none);
        safe_house = λ e step z house. let low = plans.holds e step house z in (low.0, low.1);
        safe_guest = λ e step z guest. (
          plans.waits_guest guest (omega arith),
          λ k lk.
              let le = (lawful.settled c (g.mark v) e step).2 in
              let next = stable g d fit lawful (suc end) v c lv lc (sym is ∙ z) in
              move_given v e k lv le lk ∙ guest_false g d end v e guest (live_test g d end v c e step next) k lk,
        );
        lost_now = λ some none.
            let one : count_at g d t v c ≡ 1 = is ∙ none_count v c none in
            (one, grind (arith, cases_Bool (g.house v)));
        lost_guest = λ e step some guest.
            let le = (lawful.settled c (g.mark v) e step).2 in
            let k : ℕ = count_at g d t v c - 1 in
            let j = guest_true g d k v e guest (born g d end v c e k step (omega arith)) in
            let low = move_below v e k j.0 lv le j.1 (omega (arith, small g d end v c)) j.2 in
            let told = plans.attacks e step guest (omega (arith, low)) in
            (told.0, told.1, omega (arith, told.2 j.0 j.1 low.0, low));
        lost_house = λ e step some house. (
          plans.waits_house house some,
          λ j lj.
              let le = (lawful.settled c (g.mark v) e step).2 in
              let k : ℕ = count_at g d t v c - 1 in
              let won = house_true g d k v e house (born g d end v c e k step (omega arith)) j lj in
              let low = move_below v e k j lv le lj (omega (arith, small g d end v c)) won in
              (low.0, omega (arith, low)),
        );
      }
