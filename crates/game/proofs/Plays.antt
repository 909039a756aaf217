-- Walks that are drawn a place at a time: by one side's plan against the rounds, and by a plan of each side.
use Rattle.std.proofs.Common.{◌≡◌, ℕ, zero, suc, ◌-◌, ◌<◌, ◌≤◌, true, false, List, [], ◌∷◌, length, get_or, refl, ap, ◌∙◌, ⊎_elim, arith}
use Rattle.std.proofs.lemmas.List.{length_push, get_or_append_left}
use Rattle.std.proofs.lemmas.Bool.{cases_Bool}
use Rattle.game.specs.Graph.{Graph, Fit, moves}
use Rattle.game.specs.Rule.{Rule, Lawful}
use Rattle.game.specs.Walks.{Walk, Plan, Follows, HouseKeeps, GuestBreaks, code_before, first, last}
use Rattle.game.specs.Rounds.{given}
use Rattle.game.proofs.Rounds.{live_some, live_test, house_false, guest_false}
use Rattle.game.proofs.Walks.{onto, walk_one, walk_grows, follows_grows, push_last, On, on_one, on_grows, goes}

module _ (g : Graph) where
  -- a walk of i + 1 places from v of which P holds
  pub record Line (P : List ℕ → Type 0) (v i : ℕ) : Type 0 where
    pub line : List ℕ
    pub walk : Walk g line
    pub from : first line ≡ v
    pub long : length line ≡ suc i
    pub holds : P line

  -- where each walk of up to i places of which P holds goes on to one of which it holds
  draw : (P : List ℕ → Type 0) (v i : ℕ) → v < g.size → P (v ∷ [])
      → ((w : List ℕ) → Walk g w → length w ≤ i → P w → (k : ℕ) × (k < length (moves g (last w))) × P (onto g w k)) → Line P v i
  draw P v zero l p more = record { line = v ∷ []; walk = walk_one g v l; from = refl; long = refl; holds = p }
  draw P v (suc i) l p more =
      let here = draw P v i l p (λ w walk low. more w walk (omega arith)) in
      let k = more here.line here.walk (omega (arith, here.long)) here.holds in
      record {
        line = onto g here.line k.0;
        walk = walk_grows g here.line k.0 here.walk k.1;
        from = get_or_append_left here.line _ 0 0 here.walk.some ∙ here.from;
        long = omega (arith, length_push here.line, here.long);
        holds = k.2;
      }

  -- two plans, one of each side, together draw a walk of any length
  pub both : (p : Plan g true) (q : Plan g false) (v i : ℕ) → v < g.size → Line (λ w. Follows g true p w × Follows g false q w) v i
  both p q v i l =
      draw _ v i l ((λ j h. absurd (omega arith)), (λ j h. absurd (omega arith))) (λ w walk low holds.
      ⊎_elim
      (λ house. (
        p.choose w,
        p.fit w walk house,
        (follows_grows g true p w _ walk.some holds.0 (λ is. refl), follows_grows g false q w _ walk.some holds.1 (λ is. cc)),
      ))
      (λ guest. (
        q.choose w,
        q.fit w walk guest,
        (follows_grows g true p w _ walk.some holds.0 (λ is. cc), follows_grows g false q w _ walk.some holds.1 (λ is. refl)),
      ))
      (cases_Bool (g.house (last w))))

module _ (g : Graph) (d : Rule) (fit : Fit g) (lawful : Lawful d) where
  -- a walk that the guest's plan leaves, at a position to which the first m + 1 - length rounds give nothing
  pub record Alive (q : Plan g false) (m : ℕ) (w : List ℕ) : Type 0 where
    pub follows : Follows g false q w
    pub on : On g d w
    pub none : given g d (suc (m - length w)) (last w) (code_before g d w) ≡ 0

  alive_grows : (q : Plan g false) (m : ℕ) (w : List ℕ) → Walk g w → length w < m → Alive q m w → (k : ℕ) × (k < length (moves g (last w))) × Alive q m (onto g w k)
  alive_grows q m w walk low alive =
      let r : ℕ = m - length w in
      let live = live_some g d r (last w) (code_before g d w) alive.none in
      let e : ℕ = live.0 in
      let test = live_test g d r (last w) (code_before g d w) e live.1 alive.none in
      let grown : (k : ℕ) → k < length (moves g (last w)) → given g d r (get_or (moves g (last w)) k 0) e ≡ 0 → (g.house (last w) ≡ false → k ≡ q.choose w) → Alive q m (onto g w k) =
      λ k l z same.
      let x : ℕ = get_or (moves g (last w)) k 0 in
      let on = on_grows g d fit lawful w e k alive.on live.1 l in
      let left : suc (m - length (onto g w k)) ≡ r = omega (arith, length_push w x) in
      record {
        follows = follows_grows g false q w x walk.some alive.follows (λ is. ap (λ (j : ℕ). get_or (moves g (last w)) j 0) (same is));
        on = on.0;
        none = rw (left, push_last w x, on.1) z;
      } in
      ⊎_elim
      (λ house. let k = house_false g d r (last w) e house test in (k.0, k.1, grown k.0 k.1 k.2 (λ is. cc)))
      (λ guest.
      let l = q.fit w walk guest in
      (q.choose w, l, grown (q.choose w) l (guest_false g d r (last w) e guest test (q.choose w) l) (λ is. refl)))
      (cases_Bool (g.house (last w)))

  -- where the first m rounds give nothing, no guest plan breaks the duty in m marks
  pub alive_unbroken : (v m : ℕ) → v < g.size → 0 < m → given g d m v d.start ≡ 0 → GuestBreaks g d v m → ⊥
  alive_unbroken v m l some z plan =
      let rounds : suc (m - 1) ≡ m = omega arith in
      let one : Alive plan.0 m (v ∷ []) = record { follows = λ i h. absurd (omega arith); on = on_one g d fit lawful v l; none = rw (rounds, lawful.empty_code) z } in
      let drawn = draw g (Alive plan.0 m) v (m - 1) l one (λ w walk low. alive_grows plan.0 m w walk (omega arith)) in
      let live = live_some g d _ _ _ drawn.holds.none in
      let broken = plan.1 drawn.line drawn.walk drawn.from drawn.holds.follows (omega (arith, drawn.long)) in
      (goes g d fit lawful drawn.line live.0 drawn.holds.on.some drawn.holds.on.unbroken live.1).0 broken

  -- the house does not keep a duty that the guest breaks
  pub not_both : (v n : ℕ) → v < g.size → 0 < n → HouseKeeps g d v → GuestBreaks g d v n → ⊥
  not_both v n l some house guest =
      let drawn = both g house.0 guest.0 v (n - 1) l in
      house.1 drawn.line drawn.walk drawn.from drawn.holds.0
      (guest.1 drawn.line drawn.walk drawn.from drawn.holds.1 (omega (arith, drawn.long)))
