-- The rounds as they are defined are the rounds in the rule's own words.
use Rattle.std.proofs.Common.{◌≡◌, ℕ, suc, true, false, get_or, Some, None, ◌∙◌, ⊎_elim, arith}
use Rattle.std.proofs.lemmas.Bool.{cases_Bool, cond-true, cond-false, true_from_ne_false, false_from_ne_true}
use Rattle.game.specs.Graph.{Graph, Fit, moves}
use Rattle.game.specs.Rule.{Rule, Lawful}
use Rattle.game.specs.Rounds.{positions, given, SomeCounted, AllCounted, CountsIf, RoundsRule}
use Rattle.game.proofs.Moves.{moves_some}
use Rattle.game.proofs.Rounds.{cases_step, test, small, new_some, none_one, born, given_later, house_true, house_false, guest_true, guest_false}
use Rattle.game.proofs.Ends.{quiet_end, quiet_rounds, same_from}

module _ (g : Graph) (d : Rule) where
  -- round r + 1 counts a position that is not broken by its test of the moves
  counts_by : (r v c e : ℕ) (P : Type 0) → d.step c (g.mark v) ≡ Some e → given g d r v c ≡ 0 → (P → test g d r v e ≡ true) → (test g d r v e ≡ true → P) → CountsIf g d r v c P
  counts_by r v c e P is z if_so only_so =
      let by_test = new_some g d r v c e is z in
      record {
        gives = λ p. by_test ∙ cond-true {A = ℕ} _ _ 0 (if_so p);
        gives_only = λ got. only_so (born g d (suc r) v c e r is got);
        leaves = λ no. by_test ∙ cond-false {A = ℕ} _ _ 0 (false_from_ne_true _ (λ yes. no (only_so yes)));
      }

  guest_round : (r v c e : ℕ) → g.house v ≡ false → d.step c (g.mark v) ≡ Some e → given g d r v c ≡ 0 → CountsIf g d r v c (SomeCounted g d r v e)
  guest_round r v c e guest is z =
      counts_by r v c e _ is z
      (λ way. true_from_ne_false _ (λ no. omega (arith, way.2, guest_false g d r v e guest no way.0 way.1)))
      (guest_true g d r v e guest)

  house_round : (r v c e : ℕ) → g.house v ≡ true → d.step c (g.mark v) ≡ Some e → given g d r v c ≡ 0 → CountsIf g d r v c (AllCounted g d r v e)
  house_round r v c e house is z =
      counts_by r v c e _ is z
      (λ ways. true_from_ne_false _ (λ no. let way = house_false g d r v e house no in omega (arith, way.2, ways way.0 way.1)))
      (house_true g d r v e house)

  -- round 1 gives nothing where the step is not broken: no position is counted before it, and every place has a move
  first_none : (v c e : ℕ) → d.step c (g.mark v) ≡ Some e → given g d 1 v c ≡ 0
  first_none v c e is =
      let none : (t : ℕ) → given g d 0 t e ≡ 0 = λ t. omega (arith, small g d 0 t e) in
      let z : given g d 0 v c ≡ 0 = omega (arith, small g d 0 v c) in
      ⊎_elim
      (λ house. (house_round 0 v c e house is z).leaves (λ ways. omega (arith, ways 0 (moves_some g v), none (get_or (moves g v) 0 0))))
      (λ guest. (guest_round 0 v c e guest is z).leaves (λ way. omega (arith, way.2, none (get_or (moves g v) way.0 0))))
      (cases_Bool (g.house v))

  first_round : (v c : ℕ) → CountsIf g d 0 v c (d.step c (g.mark v) ≡ None)
  first_round v c = record {
    gives = none_one g d 0 v c;
    gives_only = λ one. ⊎_elim (λ none. none) (λ on. absurd (omega (arith, first_none v c on.0 on.1))) (cases_step _);
    leaves = λ no. ⊎_elim (λ none. absurd (no none)) (λ on. first_none v c on.0 on.1) (cases_step _);
  }

  pub rounds_rule : Fit g → Lawful d → RoundsRule g d
  rounds_rule fit lawful = record {
    first = first_round;
    stays = λ r v c some. given_later g d r (suc r) v c (omega arith) some;
    guest = λ r v c e later. guest_round r v c e;
    house = λ r v c e later. house_round r v c e;
    quiet = λ r v c quiet. quiet_rounds g d fit lawful r v c quiet;
    last = λ r v c late lv lc. same_from g d fit lawful (positions g d) r v c late (quiet_end g d fit lawful) lv lc;
    small = λ v c. small g d (positions g d) v c;
  }
