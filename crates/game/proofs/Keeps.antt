-- What a table that passes the check tells of a place: counts along the walks of its plans.
use Rattle.std.proofs.Common.{◌≡◌, ℕ, ◌+◌, ◌-◌, ◌<◌, ◌≤◌, min, Bool, true, false, ◌⊎◌, List, [], ◌∷◌, length, Some, ◌∙◌, inl, inr, ⊎_elim, arith}
use Rattle.std.proofs.lemmas.Bool.{cases_Bool}
use Rattle.std.proofs.lemmas.List.{length_push}
use Rattle.game.specs.Graph.{Graph, Fit, moves}
use Rattle.game.specs.Rule.{Rule, Lawful}
use Rattle.game.specs.Walks.{Walk, Plan, Broken, HouseKeeps, GuestBreaks, code_before, first, last}
use Rattle.game.specs.Table.{Table, count_at, plan_at, place_count, move_count}
use Rattle.game.specs.Check.{Obeys, Passes}
use Rattle.game.specs.Laws.{Told}
use Rattle.game.proofs.Moves.{moves_some}
use Rattle.game.proofs.Walks.{onto, along, push_last, before, before_push, step_at, On, stays_broken, on_one, on_grows, standing}

module _ (g : Graph) (d : Rule) (t : Table) where
  -- the count and the plan byte of the position where a walk stands
  abbrev pub count_of : List ℕ → ℕ
  count_of w = count_at g d t (last w) (code_before g d w)

  abbrev pub byte_of : List ℕ → ℕ
  byte_of w = plan_at g d t (last w) (code_before g d w)

  -- the counts of a walk of a place with count n: above 0, and small enough to come to 1 by the n-th mark
  pub record Chased (n : ℕ) (w : List ℕ) : Type 0 where
    pub some : 0 < count_of w
    pub few : count_of w + length w ≤ n + 1

  -- from a count of 0, every guest move and the plan's house move lead to a count of 0
  pub safe_move : (v c e k : ℕ) → Obeys g d t v c → count_at g d t v c ≡ 0 → d.step c (g.mark v) ≡ Some e → k < length (moves g v) → (g.house v ≡ true → k ≡ plan_at g d t v c) → move_count g d t v e k ≡ 0
  safe_move v c e k obeys z step l same =
      ⊎_elim
      (λ house. rw (same house) (obeys.safe_house e step z house).1)
      (λ guest. (obeys.safe_guest e step z guest).1 k l)
      (cases_Bool (g.house v))

  -- from a count above 0, every house move and the plan's guest move lead to a smaller one above 0
  pub lost_move : (v c e k : ℕ) → Obeys g d t v c → 0 < count_at g d t v c → d.step c (g.mark v) ≡ Some e → k < length (moves g v) → (g.house v ≡ false → k ≡ plan_at g d t v c) → (0 < move_count g d t v e k) × (move_count g d t v e k < count_at g d t v c)
  lost_move v c e k obeys some step l same =
      ⊎_elim
      (λ house. (obeys.lost_house e step some house).1 k l)
      (λ guest. let told = obeys.lost_guest e step some guest in rw (same guest) (told.1, told.2))
      (cases_Bool (g.house v))

  -- a position with a count above 0 that is not broken has one above 1
  pub not_last : (v c e : ℕ) → Obeys g d t v c → 0 < count_at g d t v c → d.step c (g.mark v) ≡ Some e → 1 < count_at g d t v c
  not_last v c e obeys some step =
      ⊎_elim
      (λ house. let told = (obeys.lost_house e step some house).1 0 (moves_some g v) in omega arith)
      (λ guest. let told = obeys.lost_guest e step some guest in omega arith)
      (cases_Bool (g.house v))

  -- the plan that a table gives a side: the plan byte's move, or where it names none, the last one
  abbrev pub table_plan : (side : Bool) → Plan g side
  table_plan side = record {
    choose = λ w. min (byte_of w) (length (moves g (last w)) - 1);
    fit = λ w walk is. omega (arith, moves_some g (last w));
  }

  module _ (fit : Fit g) (lawful : Lawful d) (passes : Passes g d t) where
    pub obeys_at : (w : List ℕ) → On g d w → Obeys g d t (last w) (code_before g d w)
    obeys_at w on = passes _ _ on.inside on.settled

    count_grows : (w : List ℕ) (e k : ℕ) → On g d w → step_at g d w ≡ Some e → k < length (moves g (last w)) → count_of (onto g w k) ≡ move_count g d t (last w) e k
    count_grows w e k on step l = rw (push_last w _, (on_grows g d fit lawful w e k on step l).1)

    -- a walk that stands on a count of 0 comes to another by every guest move and by the plan's house move
    pub safe_grows : (w : List ℕ) (e k : ℕ) → On g d w → count_of w ≡ 0 → step_at g d w ≡ Some e → k < length (moves g (last w)) → (g.house (last w) ≡ true → k ≡ byte_of w) → count_of (onto g w k) ≡ 0
    safe_grows w e k on z step l same = count_grows w e k on step l ∙ safe_move _ _ e k (obeys_at w on) z step l same

    pub safe_end : (w : List ℕ) → On g d w → count_of w ≡ 0 → Broken g d w → ⊥
    safe_end w on z broken =
        ⊎_elim (λ none. (obeys_at w on).safe z none.0) (λ live. live.2 broken) (standing g d fit lawful w on.some on.unbroken)

    -- a walk that is chased stays so by every house move and by the plan's guest move
    pub chased_grows : (n : ℕ) (w : List ℕ) (e k : ℕ) → On g d w → Chased n w → step_at g d w ≡ Some e → k < length (moves g (last w)) → (g.house (last w) ≡ false → k ≡ byte_of w) → Chased n (onto g w k)
    chased_grows n w e k on chased step l same =
        let told = lost_move _ _ e k (obeys_at w on) chased.some step l same in
        let count = count_grows w e k on step l in
        let long = length_push w in
        record { some = omega arith; few = omega arith }

    pub chased_end : (n : ℕ) (w : List ℕ) → On g d w → Chased n w → length w ≡ n → Broken g d w
    chased_end n w on chased long =
        ⊎_elim
        (λ none. none.1)
        (λ live. absurd (omega (arith, not_last _ _ live.0 (obeys_at w on) chased.some live.1)))
        (standing g d fit lawful w on.some on.unbroken)

    start_count : (w : List ℕ) (v : ℕ) → first w ≡ v → count_of (first w ∷ []) ≡ place_count g d t v
    start_count w v from = rw (from, lawful.empty_code)

    abbrev Safe : List ℕ → Type 0
    Safe w = On g d w × (count_of w ≡ 0)

    safe_goes : (w : List ℕ) (k : ℕ) → Walk g w → Safe w → k < length (moves g (last w)) → (g.house (last w) ≡ true → k ≡ (table_plan true).choose w) → Safe (onto g w k)
    safe_goes w k walk (on, z) l same =
        ⊎_elim
        (λ none. absurd (safe_end w on z none.1))
        (λ live. (
          (on_grows g d fit lawful w live.0 k on live.1 l).0,
          safe_grows w live.0 k on z live.1 l (λ house. omega (arith, same house, (obeys_at w on).safe_house live.0 live.1 z house)),
        ))
        (standing g d fit lawful w on.some on.unbroken)

    pub keeps : (v : ℕ) → place_count g d t v ≡ 0 → HouseKeeps g d v
    keeps v z = (
      table_plan true,
      λ w walk from follows.
          let start : Safe (first w ∷ []) = (on_one g d fit lawful (first w) walk.inside, start_count w v from ∙ z) in
          let safe = along g true (table_plan true) Safe w walk follows start safe_goes in
          safe_end w safe.0 safe.1,
    )

    -- broken before the last place, or still chased
    abbrev Hunted : ℕ → List ℕ → Type 0
    Hunted n w = d.Breaks (before g d w) ⊎ (On g d w × Chased n w)

    hunted_goes : (n : ℕ) (w : List ℕ) (k : ℕ) → Walk g w → Hunted n w → k < length (moves g (last w)) → (g.house (last w) ≡ false → k ≡ (table_plan false).choose w) → Hunted n (onto g w k)
    hunted_goes n w k walk (inl lost) l same = inl (rw (before_push g d w _) (stays_broken g d fit lawful w walk.some lost))
    hunted_goes n w k walk (inr (on, chased)) l same =
        ⊎_elim
        (λ none. inl (rw (before_push g d w _) none.1))
        (λ live. inr (
          (on_grows g d fit lawful w live.0 k on live.1 l).0,
          chased_grows n w live.0 k on chased live.1 l (λ guest. omega (arith, same guest, (obeys_at w on).lost_guest live.0 live.1 chased.some guest)),
        ))
        (standing g d fit lawful w on.some on.unbroken)

    pub breaks_in : (v n : ℕ) → 0 < n → place_count g d t v ≡ n → GuestBreaks g d v n
    breaks_in v n some is = (
      table_plan false,
      λ w walk from follows long.
          let count = start_count w v from in
          let start : Hunted n (first w ∷ []) = inr (on_one g d fit lawful (first w) walk.inside, record { some = omega arith; few = omega arith }) in
          ⊎_elim
          (stays_broken g d fit lawful w walk.some)
          (λ here. chased_end n w here.0 here.1 long)
          (along g false (table_plan false) (Hunted n) w walk follows start (hunted_goes n)),
    )

    -- what a passed table tells of a place
    pub checked_verdict : (v : ℕ) → v < g.size → Told g d t v
    checked_verdict v l = record { house = keeps v; guest = breaks_in v }
