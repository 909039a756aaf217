-- The rounds come to an end: each round that gives something gives it to a new position, so no round after n × s gives anything,
-- and the counts are settled once a round gives nothing.
use Rattle.std.proofs.Common.{◌≡◌, ℕ, zero, suc, ◌+◌, ◌-◌, ◌*◌, ◌/◌, ◌%◌, ◌<◌, ◌≤◌, ◌⊎◌, length, get_or, min, sym, ◌∙◌, inl, inr, ⊎_elim, arith}
use Rattle.std.proofs.lemmas.Nat.{mul-add-lt, div-mul-add, mod-mul-add}
use Rattle.std.proofs.lemmas.Bool.{cases_lt, cases_Bool}
use native.Mathlib.Decide.{le_ind}
use Rattle.game.specs.Graph.{Graph, Fit, moves}
use Rattle.game.specs.Rule.{Rule, Lawful}
use Rattle.game.specs.Rounds.{positions, given, Quiet}
use Rattle.game.proofs.Moves.{moves_inside}
use Rattle.game.proofs.Rounds.{small, live_some, live_test, born, house_true, house_false, guest_true, guest_false, given_later, zero_earlier}

-- a sum over the numbers below n
abbrev total : (ℕ → ℕ) → ℕ → ℕ
total f zero = 0
total f (suc n) = f n + total f n

total_le : (f h : ℕ → ℕ) (n : ℕ) → ((i : ℕ) → i < n → f i ≤ h i) → total f n ≤ total h n
total_le f h zero each = omega arith
total_le f h (suc n) each = omega (arith, each n (omega arith), total_le f h n (λ i l. each i (omega arith)))

total_same : (f h : ℕ → ℕ) (n : ℕ) → ((i : ℕ) → i < n → f i ≤ h i) → total h n ≤ total f n → (i : ℕ) → i < n → h i ≤ f i
total_same f h zero each most i l = absurd (omega arith)
total_same f h (suc n) each most i l =
    let rest = total_le f h n (λ j m. each j (omega arith)) in
    let below = total_same f h n (λ j m. each j (omega arith)) in
    grind (arith, each n (omega arith), rest, below)

total_bound : (f : ℕ → ℕ) (b n : ℕ) → ((i : ℕ) → f i ≤ b) → total f n ≤ n * b
total_bound f b zero each = omega arith
total_bound f b (suc n) each = omega (arith, each n, total_bound f b n each)

module _ (g : Graph) (d : Rule) where
  -- 1 where round r has left a count at the position of number p
  abbrev cell : ℕ → ℕ → ℕ
  cell r p = min 1 (given g d r (p / d.codes) (p % d.codes))

  abbrev tally : ℕ → ℕ
  tally r = total (cell r) (positions g d)

  cell_grows : (r p : ℕ) → cell r p ≤ cell (suc r) p
  cell_grows r p = grind (arith, given_later g d r (suc r))

  tally_bound : (r : ℕ) → tally r ≤ positions g d
  tally_bound r = omega (arith, total_bound (cell r) 1 (positions g d) (λ p. omega arith))

  quiet_tally : (r : ℕ) → tally (suc r) ≤ tally r → Quiet g d r
  quiet_tally r h v c lv lc z =
      let inside = mul-add-lt v d.codes c g.size lv lc in
      let same = total_same (cell r) (cell (suc r)) (positions g d) (λ p l. cell_grows r p) h (v * d.codes + c) (omega arith) in
      omega (arith, rw (div-mul-add v d.codes c lc, mod-mul-add v d.codes c lc) at same)

  module _ (fit : Fit g) (lawful : Lawful d) where
    quiet_more : (r : ℕ) → Quiet g d r → Quiet g d (suc r)
    quiet_more r quiet v c lv lc z = ⊎_elim (λ none. omega (arith, none)) (λ some. absurd (born_late some)) (cases_lt (given g d (suc (suc r)) v c) 1)
      where
        born_late : 0 < given g d (suc (suc r)) v c → ⊥
        born_late some =
            let k : ℕ = given g d (suc (suc r)) v c - 1 in
            let bound = small g d (suc (suc r)) v c in
            let step = live_some g d r v c z in
            let e : ℕ = step.0 in
            let ahead : (j : ℕ) → j < length (moves g v) → given g d r (get_or (moves g v) j 0) e ≡ 0 → given g d (suc r) (get_or (moves g v) j 0) e ≡ 0 = λ j lj. quiet _ e (moves_inside g fit v j lv lj) (lawful.settled c (g.mark v) e step.1).2 in
            let before = live_test g d r v c e step.1 z in
            let after = born g d (suc (suc r)) v c e k step.1 (omega arith) in
            ⊎_elim
            (λ house.
            let j = house_false g d r v e house before in
            omega (arith, ahead j.0 j.1 j.2, house_true g d k v e house after j.0 j.1, given_later g d k (suc r) (get_or (moves g v) j.0 0) e))
            (λ guest.
            let j = guest_true g d k v e guest after in
            omega (arith, ahead j.0 j.1 (guest_false g d r v e guest before j.0 j.1), j.2, given_later g d k (suc r) (get_or (moves g v) j.0 0) e))
            (cases_Bool (g.house v))

    quiet_from : (r q : ℕ) → r ≤ q → Quiet g d r → Quiet g d q
    quiet_from r q h quiet = le_ind (Quiet g d) quiet (λ k l. quiet_more k) q h

    pub same_from : (r q v c : ℕ) → r ≤ q → Quiet g d r → v < g.size → c < d.codes → given g d q v c ≡ given g d r v c
    same_from r q v c h quiet lv lc =
        let none : given g d r v c ≡ 0 → given g d q v c ≡ 0 = λ z. le_ind (λ k. given g d k v c ≡ 0) z (λ k l. quiet_from r k l quiet v c lv lc) q h in
        grind (arith, none, given_later g d r q v c h)

    quiet_or_more : (r : ℕ) → Quiet g d r ⊎ (r ≤ tally r)
    quiet_or_more zero = inr (omega arith)
    quiet_or_more (suc r) =
        ⊎_elim
        (λ quiet. inl (quiet_more r quiet))
        (λ many. ⊎_elim
        (λ less. inr (omega arith))
        (λ same. inl (quiet_more r (quiet_tally r same)))
        (cases_lt (tally r) (tally (suc r))))
        (quiet_or_more r)

    pub quiet_end : Quiet g d (positions g d)
    quiet_end =
        let n : ℕ = positions g d in
        ⊎_elim (λ quiet. quiet) (λ many. quiet_tally n (omega (arith, tally_bound (suc n)))) (quiet_or_more n)

    -- the rounds may end at the first that gives nothing
    pub quiet_rounds : (r v c : ℕ) → Quiet g d r → v < g.size → c < d.codes → given g d r v c ≡ given g d (positions g d) v c
    quiet_rounds r v c quiet lv lc =
        ⊎_elim
        (λ low. sym (same_from r (positions g d) v c (omega arith) quiet lv lc))
        (λ top. same_from (positions g d) r v c top quiet_end lv lc)
        (cases_lt r (positions g d))

    -- no round after n × s gives anything
    pub stable : (r v c : ℕ) → v < g.size → c < d.codes → given g d (positions g d) v c ≡ 0 → given g d r v c ≡ 0
    stable r v c lv lc z =
        ⊎_elim
        (λ low. zero_earlier g d r (positions g d) v c (omega arith) z)
        (λ top. same_from (positions g d) r v c top quiet_end lv lc ∙ z)
        (cases_lt r (positions g d))
