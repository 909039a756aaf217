-- What single rounds give: a count once given stays, it is at most its round, and what a round asks of the moves.
use Rattle.std.proofs.Common.{◌≡◌, ℕ, zero, suc, ◌<◌, ◌≤◌, Bool, true, false, cond, ◌⊎◌, length, get_or, Some, None, Option, refl, ap, ◌∙◌, inl, inr, ⊎_elim, arith}
use native.Mathlib.Decide.{le_ind}
use Rattle.game.specs.Graph.{Graph, moves}
use Rattle.game.specs.Rule.{Rule}
use Rattle.game.specs.Rounds.{counted, attracted, fresh, given}
use Rattle.game.proofs.Moves.{all_true, all_false, any_true, any_false, counted_true, counted_false}

-- a step is broken or answers a code
pub cases_step : (o : Option ℕ) → (o ≡ None) ⊎ ((e : ℕ) × (o ≡ Some e))
cases_step None = inl refl
cases_step (Some e) = inr (e, refl)

module _ (g : Graph) (d : Rule) where
  -- what round r + 1 asks of the moves from place v, at the code that its step answered
  abbrev pub test : ℕ → ℕ → ℕ → Bool
  test r v e = attracted g v (λ t. given g d r t e)

  stays : (r v c : ℕ) → 0 < given g d r v c → given g d (suc r) v c ≡ given g d r v c
  unfolding given
  stays r v c some = grind arith

  -- what is given by round r is given for good
  pub given_later : (r q v c : ℕ) → r ≤ q → 0 < given g d r v c → given g d q v c ≡ given g d r v c
  given_later r q v c h some =
      le_ind (λ k. given g d k v c ≡ given g d r v c) refl (λ k l is. omega (arith, stays k v c)) q h

  pub kept : (r v c k : ℕ) → given g d r v c ≡ suc k → given g d (suc r) v c ≡ suc k
  kept r v c k e = omega (arith, stays r v c)

  pub zero_earlier : (r q v c : ℕ) → r ≤ q → given g d q v c ≡ 0 → given g d r v c ≡ 0
  zero_earlier r q v c h z = grind (arith, given_later r q v c h)

  pub small : (r v c : ℕ) → given g d r v c ≤ r
  unfolding given
  small zero v c = omega arith
  small (suc r) v c = grind (arith, small r v c)

  pub new : (r v c : ℕ) → given g d r v c ≡ 0 → given g d (suc r) v c ≡ fresh g r v (given g d r) (d.step c (g.mark v))
  unfolding given
  new r v c e = grind arith

  pub new_some : (r v c e : ℕ) → d.step c (g.mark v) ≡ Some e → given g d r v c ≡ 0
      → given g d (suc r) v c ≡ cond (test r v e) (suc r) 0
  new_some r v c e is z = new r v c z ∙ ap (fresh g r v (given g d r)) is

  pub none_one : (r v c : ℕ) → d.step c (g.mark v) ≡ None → given g d (suc r) v c ≡ 1
  none_one r v c is =
      let first : given g d 1 v c ≡ 1 = new 0 v c (omega (arith, small 0 v c)) ∙ ap (fresh g 0 v (given g d 0)) is in
      omega (arith, given_later 1 (suc r) v c)

  -- a position that round r + 1 left without a count is not broken
  pub live_some : (r v c : ℕ) → given g d (suc r) v c ≡ 0 → (e : ℕ) × (d.step c (g.mark v) ≡ Some e)
  live_some r v c z =
      ⊎_elim (λ broken. absurd (omega (arith, none_one r v c broken))) (λ on. on) (cases_step (d.step c (g.mark v)))

  pub live_test : (r v c e : ℕ) → d.step c (g.mark v) ≡ Some e → given g d (suc r) v c ≡ 0 → test r v e ≡ false
  live_test r v c e is z = grind (arith, new_some r v c e is, zero_earlier r (suc r) v c)

  -- the round that gave a count tested the moves
  pub born : (r v c e k : ℕ) → d.step c (g.mark v) ≡ Some e → given g d r v c ≡ suc k → test k v e ≡ true
  born zero v c e k is h = absurd (omega (arith, small 0 v c))
  born (suc r) v c e k is h = grind (arith, born r v c e k is, stays r v c, new_some r v c e is)

  -- a test at a place of each side, in terms of its moves
  pub house_true : (r v e : ℕ) → g.house v ≡ true → test r v e ≡ true → (k : ℕ) → k < length (moves g v)
      → 0 < given g d r (get_or (moves g v) k 0) e
  house_true r v e side is k l =
      counted_true _ (all_true (λ t. counted (given g d r t e)) (moves g v) (rw side at is) k l)

  pub house_false : (r v e : ℕ) → g.house v ≡ true → test r v e ≡ false
      → (k : ℕ) × (k < length (moves g v)) × (given g d r (get_or (moves g v) k 0) e ≡ 0)
  house_false r v e side is =
      let told = all_false (λ t. counted (given g d r t e)) (moves g v) (rw side at is) in
      (told.0, told.1, counted_false _ told.2)

  pub guest_true : (r v e : ℕ) → g.house v ≡ false → test r v e ≡ true
      → (k : ℕ) × (k < length (moves g v)) × (0 < given g d r (get_or (moves g v) k 0) e)
  guest_true r v e side is =
      let told = any_true (λ t. counted (given g d r t e)) (moves g v) (rw side at is) in
      (told.0, told.1, counted_true _ told.2)

  pub guest_false : (r v e : ℕ) → g.house v ≡ false → test r v e ≡ false → (k : ℕ) → k < length (moves g v)
      → given g d r (get_or (moves g v) k 0) e ≡ 0
  guest_false r v e side is k l =
      counted_false _ (any_false (λ t. counted (given g d r t e)) (moves g v) (rw side at is) k l)
