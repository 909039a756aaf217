-- Walks as they grow by a move, induction along a plan's walks, and the position where a walk stands.
use Rattle.std.proofs.Common.{◌≡◌, ℕ, zero, suc, ◌+◌, ◌-◌, ◌<◌, Bool, true, false, ◌⊎◌, List, [], ◌∷◌, ◌++◌, map, length, get_or, take, Some, None, Option, sym, refl, ap, ◌∙◌, subst, inl, inr, ⊎_elim, le_of_suc-le-suc, add-one, arith, length-take-le, take_all, take_at, get_or-take, take-suc}
use Rattle.std.proofs.lemmas.List.{length_push, get_or_push, get_or_append_left, map_push, take-append-le}
use Rattle.std.proofs.lemmas.Bool.{cases_lt}
use Rattle.std.specs.Bool.{beq}
use Rattle.game.specs.Graph.{Graph, Fit, moves}
use Rattle.game.specs.Rule.{Rule, Lawful, Marks}
use Rattle.game.specs.Walks.{Walk, Plan, Follows, Broken, code_before, first, last}
use Rattle.game.proofs.Moves.{moves_inside}
use Rattle.game.proofs.Rounds.{cases_step}

-- two answers are the same, or they differ
pub cases_beq : (a b : Bool) → ((beq a b ≡ true) × (a ≡ b)) ⊎ ((beq a b ≡ false) × (a ≡ b → ⊥))
cases_beq a b = grind arith

pub push_last : (w : List ℕ) (x : ℕ) → last (w ++ x ∷ []) ≡ x
push_last w x = get_or_push w x 0 (length (w ++ x ∷ []) - 1) (omega (arith, length_push w x))

pub take_one : (w : List ℕ) → 0 < length w → take 1 w ≡ first w ∷ []
take_one w some = take-suc w 0 0 some

pub last_take : (w : List ℕ) (i : ℕ) → i < length w → last (take (suc i) w) ≡ get_or w i 0
last_take w i l =
    let long = length-take-le (suc i) w l in
    let at : length (take (suc i) w) - 1 ≡ i = omega arith in
    rw at (get_or-take (suc i) w i 0 (omega arith))

module _ (g : Graph) where
  -- a walk that goes on by move k
  abbrev pub onto : List ℕ → ℕ → List ℕ
  onto w k = w ++ get_or (moves g (last w)) k 0 ∷ []

  pub walk_one : (v : ℕ) → v < g.size → Walk g (v ∷ [])
  walk_one v l = record { some = omega arith; inside = l; joined = λ i h. absurd (omega arith) }

  pub walk_grows : (w : List ℕ) (k : ℕ) → Walk g w → k < length (moves g (last w)) → Walk g (onto w k)
  walk_grows w k walk l =
      let x : ℕ = get_or (moves g (last w)) k 0 in
      let long = length_push w x in
      let old : (i : ℕ) → i < length w → get_or (w ++ x ∷ []) i 0 ≡ get_or w i 0 = get_or_append_left w (x ∷ []) 0 in
      record {
        some = omega arith;
        inside = rw (old 0 walk.some) walk.inside;
        joined = λ i h. ⊎_elim
            (λ low. rw (old (i + 1) low, old i (omega arith)) (walk.joined i low))
            (λ top.
            let at : i ≡ length w - 1 = omega arith in
            rw (get_or_push w x 0 (i + 1) (omega arith), old i (omega arith), at) (k, (l, refl)))
            (cases_lt (i + 1) (length w));
      }

  pub follows_grows : (side : Bool) (p : Plan g side) (w : List ℕ) (x : ℕ) → 0 < length w → Follows g side p w → (g.house (last w) ≡ side → x ≡ get_or (moves g (last w)) (p.choose w) 0) → Follows g side p (w ++ x ∷ [])
  follows_grows side p w x some follows new i h =
      let long = length_push w x in
      rw (get_or_append_left w (x ∷ []) 0 i (omega arith))
      (⊎_elim
      (λ low. rw (get_or_append_left w (x ∷ []) 0 (i + 1) low, take-append-le (i + 1) w (x ∷ []) (omega arith)) (follows i low))
      (λ top.
      let at : i ≡ length w - 1 = omega arith in
      rw (get_or_push w x 0 (i + 1) (omega arith), take_at w (x ∷ []) (i + 1) (omega arith), at) new)
      (cases_lt (i + 1) (length w)))

  -- what holds of the walk of one place, and still holds as a walk goes on by a move, the plan's on its side, holds of
  -- each walk that the plan leaves
  pub along : (side : Bool) (p : Plan g side) (P : List ℕ → Type 0) (w : List ℕ) → Walk g w → Follows g side p w → P (first w ∷ [])
      → ((u : List ℕ) (k : ℕ) → Walk g u → P u → k < length (moves g (last u)) → (g.house (last u) ≡ side → k ≡ p.choose u) → P (onto u k)) → P w
  along side p P w walk follows one more =
      let whole : take (suc (length w - 1)) w ≡ w = take_all (suc (length w - 1)) w (omega arith) in
      subst P whole (front (length w - 1) (omega (arith, walk.some))).1
    where
      front : (i : ℕ) → i < length w → Walk g (take (suc i) w) × P (take (suc i) w)
      front zero l = rw (take_one w l) (walk_one (first w) walk.inside, one)
      front (suc i) l =
          let u : List ℕ = take (suc i) w in
          let at = last_take w i (omega arith) in
          let held = front i (omega arith) in
          let joined = rw (← at) at (simp add-one at (walk.joined i (omega arith))) in
          let planned = rw (← at) at (simp add-one at (follows i (omega arith))) in
          let made : (k : ℕ) × (k < length (moves g (last u))) × (get_or (moves g (last u)) k 0 ≡ get_or w (suc i) 0) × (g.house (last u) ≡ side → k ≡ p.choose u) =
          ⊎_elim
          (λ mine. (p.choose u, p.fit u held.0 mine.1, sym (planned mine.1), λ is. refl))
          (λ other. (joined.0, joined.1.0, joined.1.1, λ is. absurd (other.1 is)))
          (cases_beq (g.house (last u)) side) in
          rw (take-suc w (suc i) 0 l, ← made.2) (walk_grows u made.0 held.0 made.1, more u made.0 held.0 held.1 made.1 made.3)

  module _ (fit : Fit g) where
    pub marks_fit : (w : List ℕ) → Marks (map g.mark w)
    marks_fit [] i l = absurd (omega arith)
    marks_fit (v ∷ w) zero l = fit.marks v
    marks_fit (v ∷ w) (suc i) l = marks_fit w i (le_of_suc-le-suc l)

    -- each place of a walk is on the map
    pub walk_inside : (w : List ℕ) → Walk g w → (i : ℕ) → i < length w → get_or w i 0 < g.size
    walk_inside w walk zero l = walk.inside
    walk_inside w walk (suc i) l =
        let joined = simp add-one at (walk.joined i (omega arith)) in
        rw (← joined.1.1) (moves_inside g fit (get_or w i 0) joined.0 (walk_inside w walk i (omega arith)) joined.1.0)

module _ (g : Graph) (d : Rule) where
  -- the marks before the last place of a walk
  abbrev pub before : List ℕ → List ℕ
  before w = map g.mark (take (length w - 1) w)

  -- the step at the position where a walk stands
  abbrev pub step_at : List ℕ → Option ℕ
  step_at w = d.step (code_before g d w) (g.mark (last w))

  -- a walk stands on a position: its last place, with the code of marks that are not broken
  pub record On (w : List ℕ) : Type 0 where
    pub some : 0 < length w
    pub inside : last w < g.size
    pub unbroken : d.Breaks (before w) → ⊥
    pub settled : code_before g d w < d.codes

  marks_split : (w : List ℕ) → 0 < length w → map g.mark w ≡ before w ++ g.mark (last w) ∷ []
  marks_split w some =
      ap (map g.mark) (sym (take_all (suc (length w - 1)) w (omega arith)) ∙ take-suc w (length w - 1) 0 (omega arith))
      ∙ map_push g.mark _ _

  pub before_push : (w : List ℕ) (x : ℕ) → before (w ++ x ∷ []) ≡ map g.mark w
  before_push w x = ap (map g.mark) (take_at w (x ∷ []) _ (omega (arith, length_push w x)))

  module _ (fit : Fit g) (lawful : Lawful d) where
    -- what is broken before the last place is broken
    pub stays_broken : (w : List ℕ) → 0 < length w → d.Breaks (before w) → Broken g d w
    stays_broken w some lost =
        let split = marks_split w some in
        rw (split, Broken) (lawful.longer (before w) _ (rw split at (marks_fit g fit w)) lost)

    pub on_one : (v : ℕ) → v < g.size → On (v ∷ [])
    on_one v l = record { some = omega arith; inside = l; unbroken = lawful.empty_unbroken; settled = rw lawful.empty_code lawful.begins }

    -- where the step answers a code, the walk is not broken, and its marks have that code
    pub goes : (w : List ℕ) (e : ℕ) → 0 < length w → (d.Breaks (before w) → ⊥) → step_at w ≡ Some e → (Broken g d w → ⊥) × (d.code (map g.mark w) ≡ e)
    goes w e some un step = rw (marks_split w some, Broken) (lawful.goes_on (before w) _ e (marks_fit g fit (take _ w)) (fit.marks _) un step)

    -- the step tells whether the walk is broken
    pub standing : (w : List ℕ) → 0 < length w → (d.Breaks (before w) → ⊥) → ((step_at w ≡ None) × Broken g d w) ⊎ ((e : ℕ) × (step_at w ≡ Some e) × (Broken g d w → ⊥))
    standing w some un =
        ⊎_elim
        (λ none. inl (none, rw (marks_split w some, Broken) (lawful.breaks (before w) _ (marks_fit g fit (take _ w)) (fit.marks _) un none)))
        (λ live. inr (live.0, live.1, (goes w live.0 some un live.1).0))
        (cases_step (step_at w))

    -- a move leads to a position with the code that the step answered
    pub on_grows : (w : List ℕ) (e k : ℕ) → On w → step_at w ≡ Some e → k < length (moves g (last w)) → On (onto g w k) × (code_before g d (onto g w k) ≡ e)
    on_grows w e k on step l =
        let x : ℕ = get_or (moves g (last w)) k 0 in
        let front = before_push w x in
        let told = goes w e on.some on.unbroken step in
        let code : code_before g d (onto g w k) ≡ e = ap d.code front ∙ told.1 in (
          record {
            some = omega (arith, length_push w x);
            inside = rw (push_last w x) (moves_inside g fit (last w) k on.inside l);
            unbroken = rw front told.0;
            settled = rw code (lawful.settled _ _ e step).2;
          },
          code,
        )
