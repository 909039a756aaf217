-- A shift answers every list of calls as its walk has it.
use Rattle.std.proofs.Common.{◌≡◌, ℕ, ◌<◌, true, false, ◌⊎◌, List, [], ◌∷◌, length, get_or, Some, sym, refl, ap, ◌∙◌, inl, inr, ⊎_elim, arith}
use Rattle.std.proofs.lemmas.List.{get_or_append_left}
use Rattle.std.proofs.lemmas.Bool.{cases_lt, eq-eqb, ne_eqb, lt-ltb, le-ltb, le-leb, and_from}
use Rattle.game.specs.Graph.{Graph, Fit, moves}
use Rattle.game.specs.Rule.{Rule, Lawful}
use Rattle.game.specs.Walks.{Walk, Broken, code_before, first, last}
use Rattle.game.specs.Table.{Table, Room, count_at, place_count}
use Rattle.game.specs.Check.{Obeys, Passed}
use Rattle.game.specs.Calls.{Call, drive, report, look, restart, Reply, stands, refused}
use Rattle.game.specs.Runs.{Trail, trail, drives_house, Ended, Driven, Step, Kept, Run}
use Rattle.game.specs.Shift.{State, says_broken, sized, opened, moved, on_side, driven, reported, restarted, looked, called, replies}
use Rattle.game.specs.Laws.{Shifts}
use Rattle.game.proofs.Walks.{cases_beq, take_one, onto, walk_one, walk_grows, push_last, step_at, On, on_one, on_grows, standing}
use Rattle.game.proofs.Keeps.{count_of, byte_of, Chased, obeys_at, safe_grows, safe_end, chased_grows, chased_end}

-- a table that the check passed has the sizes of its pass
sized_true : (g : Graph) (d : Rule) (t : Table) → Room g d t.plan t.count → sized g d t g.size d.codes ≡ true
sized_true g d t room =
    and_from _ _ (eq-eqb g.size _ refl) (and_from _ _ (eq-eqb d.codes _ refl) (and_from _ _ (le-leb _ _ room.plans) (le-leb _ _ room.counts)))

-- as the walk has it, 35 never comes
never_35 : (g : Graph) (d : Rule) (t : Table) (begin : ℕ) (w : Trail) (c : Call) (a : Reply) (x : Trail) → Step g d t begin w c a x → a ≡ refused 35 → ⊥
never_35 g d t begin w drive a x s is =
    let un : Ended g d t begin w → ⊥ = λ b. grind (arith, s.0 b) in
    let off : Driven g d t begin w → ⊥ = λ on. grind (arith, s.2 un on) in
    grind (arith, s.1 un off)
never_35 g d t begin w (report k) a x s is =
    let un : Ended g d t begin w → ⊥ = λ b. grind (arith, s.0 b) in
    let off : Driven g d t begin w → ⊥ = λ on. grind (arith, s.1 un on) in
    ⊎_elim (λ l. grind (arith, s.3 un off l)) (λ l. grind (arith, s.2 un off l)) (cases_lt k (length (moves g (last w.walk))))
never_35 g d t begin w look a x s is = grind (arith, s.1.1)
never_35 g d t begin w restart a x s is = grind (arith, s.0)

module _ (g : Graph) (d : Rule) (t : Table) (begin : ℕ) where
  -- the shift s stands where the walk w does
  pub record Held (s : State) (w : List ℕ) : Type 0 where
    pub walk : Walk g w
    pub from : first w ≡ begin
    pub place : s.place ≡ last w
    pub code : s.code ≡ code_before g d w
    pub ended : s.ended ≡ says_broken (step_at g d w)
    pub size : s.size ≡ g.size
    pub codes : s.codes ≡ d.codes
    pub start : s.start ≡ begin
    pub first_code : s.first_code ≡ d.start
    pub side : s.side ≡ drives_house g d t begin
    pub on : On g d w
    pub safe : place_count g d t begin ≡ 0 → count_of g d t w ≡ 0
    pub chased : 0 < place_count g d t begin → Chased g d t (place_count g d t begin) w

  module _ (fit : Fit g) (lawful : Lawful d) (passed : Passed g d t) where
    held_start : begin < g.size → Held (opened g d t g.size d.codes begin) (begin ∷ [])
    held_start l = record {
      walk = walk_one g begin l;
      from = refl;
      place = refl;
      code = sym lawful.empty_code;
      ended = ap (λ (c : ℕ). says_broken (d.step c (g.mark begin))) (sym lawful.empty_code);
      size = refl;
      codes = refl;
      start = refl;
      first_code = refl;
      side = refl;
      on = on_one g d fit lawful begin l;
      safe = λ z. ap (count_at g d t begin) lawful.empty_code ∙ z;
      chased = λ some. let same : count_of g d t (begin ∷ []) ≡ place_count g d t begin = ap (count_at g d t begin) lawful.empty_code in record { some = omega arith; few = omega arith };
    }

    module _ (s : State) (w : List ℕ) (held : Held s w) where
      obeys : Obeys g d t (last w) (code_before g d w)
      obeys = obeys_at g d t fit lawful passed.passes w held.on

      -- the flag says whether the walk is broken
      told : ((s.ended ≡ true) × Broken g d w) ⊎ ((e : ℕ) × (step_at g d w ≡ Some e) × (s.ended ≡ false) × (Broken g d w → ⊥))
      told =
          ⊎_elim
          (λ broken. inl (held.ended ∙ ap says_broken broken.0, broken.1))
          (λ live. inr (live.0, live.1, held.ended ∙ ap says_broken live.1, live.2))
          (standing g d fit lawful w held.on.some held.on.unbroken)

      held_kept : Kept g d t begin (trail w)
      held_kept = record {
        walk = held.walk;
        held = λ z. safe_end g d t fit lawful passed.passes w held.on (held.safe z);
        short = λ some. let chased = held.chased some in omega arith;
        ends = λ some. chased_end g d t fit lawful passed.passes _ w held.on (held.chased some);
      }

      -- what one call leaves: a walk that the shift stands on again
      abbrev Left : Call → Reply × State → Type 0
      Left c r = (x : List ℕ) × (Step g d t begin (trail w) c r.0 (trail x) × Held r.1 x)

      -- a shift that is not ended moves as its walk grows
      held_moves : (n k e : ℕ) → step_at g d w ≡ Some e → k < length (moves g (last w)) → (Driven g d t begin (trail w) → k ≡ byte_of g d t w)
          → ((moved g d s n k).0 ≡ stands (get_or (moves g (last w)) k 0)) × Held (moved g d s n k).1 (onto g w k)
      held_moves n k e step l by_plan =
          let x : ℕ = get_or (moves g (last w)) k 0 in
          let grown = on_grows g d fit lawful w e k held.on step l in
          rw (held.place, held.code, step) (
            refl,
            record {
              walk = walk_grows g w k held.walk l;
              from = get_or_append_left w (x ∷ []) 0 0 held.walk.some ∙ held.from;
              place = sym (push_last w x);
              code = sym grown.1;
              ended = rw (push_last w x, grown.1, step_at, says_broken);
              size = held.size;
              codes = held.codes;
              start = held.start;
              first_code = held.first_code;
              side = held.side;
              on = grown.0;
              safe = λ z. safe_grows g d t fit lawful passed.passes w e k held.on (held.safe z) step l (λ house. by_plan (house ∙ sym (eq-eqb _ 0 z)));
              chased = λ some. chased_grows g d t fit lawful passed.passes _ w e k held.on (held.chased some) step l (λ guest. by_plan (guest ∙ sym (ne_eqb _ 0 (omega arith))));
            },
          )

      -- whether it is the turn of the side that the table drives
      turn : ((on_side g d s ≡ true) × Driven g d t begin (trail w)) ⊎ ((on_side g d s ≡ false) × (Driven g d t begin (trail w) → ⊥))
      turn = rw (held.place, held.side) (cases_beq (g.house (last w)) (drives_house g d t begin))

      -- the plan byte of a shift that is not ended, on its side, names a move
      byte_named : (e : ℕ) → step_at g d w ≡ Some e → Driven g d t begin (trail w) → byte_of g d t w < length (moves g (last w))
      byte_named e step on =
          let n : ℕ = place_count g d t begin in
          ⊎_elim
          (λ none. let z : n ≡ 0 = omega arith in (obeys.safe_house e step (held.safe z) (on ∙ eq-eqb n 0 z)).0)
          (λ some. (obeys.lost_guest e step (held.chased some).some (on ∙ ne_eqb n 0 (omega arith))).0)
          (cases_lt n 1)

      sizes_fit : sized g d t s.size s.codes ≡ true
      sizes_fit = rw (held.size, held.codes) (sized_true g d t passed.room)

      step_drive : Left drive (driven g d t s)
      step_drive =
          elim told [
            | inl broken ↦
                let is : driven g d t s ≡ (refused 32, s) = rw (sizes_fit, broken.0) in
                rw is (w, (grind arith, held))
            | inr live ↦ elim turn [
              | inl mine ↦
                  let k : ℕ = byte_of g d t w in
                  let named = byte_named live.0 live.1 mine.1 in
                  let is : driven g d t s ≡ moved g d s 35 k = rw (sizes_fit, live.2, mine.0, held.place, held.code, lt-ltb _ _ named) in
                  let went = held_moves 35 k live.0 live.1 named (λ on. refl) in
                  rw is (onto g w k, (grind arith, went.1))
              | inr theirs ↦
                  let is : driven g d t s ≡ (refused 33, s) = rw (sizes_fit, live.2, theirs.0) in
                  rw is (w, (grind arith, held))
            ]
          ]

      step_report : (k : ℕ) → Left (report k) (reported g d t s k)
      step_report k =
          elim told [
            | inl broken ↦
                let is : reported g d t s k ≡ (refused 32, s) = rw (sizes_fit, broken.0) in
                rw is (w, (grind arith, held))
            | inr live ↦ elim turn [
              | inl mine ↦
                  let is : reported g d t s k ≡ (refused 33, s) = rw (sizes_fit, live.2, mine.0) in
                  rw is (w, (grind arith, held))
              | inr theirs ↦ elim (cases_lt k (length (moves g (last w)))) [
                | inl named ↦
                    let is : reported g d t s k ≡ moved g d s 34 k = rw (sizes_fit, live.2, theirs.0, held.place, lt-ltb _ _ named) in
                    let went = held_moves 34 k live.0 live.1 named (λ on. absurd (theirs.1 on)) in
                    rw is (onto g w k, (grind arith, went.1))
                | inr past ↦
                    let is : reported g d t s k ≡ (refused 34, s) = rw (sizes_fit, live.2, theirs.0, held.place, le-ltb _ _ past) in
                    rw is (w, (grind arith, held))
              ]
            ]
          ]

      step_look : Left look (looked g d t s)
      step_look = (w, ((refl, (s.ended, rw (held.place, held.code), grind (arith, told), grind (arith, told))), held))

      step_restart : begin < g.size → Left restart (restarted g d t s)
      step_restart l =
          rw (sizes_fit, held.size, held.codes, held.start, held.first_code, held.side)
          (begin ∷ [], ((ap stands (sym held.from), ap trail (sym (take_one w held.walk.some ∙ ap (λ (v : ℕ). v ∷ []) held.from))), held_start l))

      step_called : begin < g.size → (c : Call) → Left c (called g d t s c)
      step_called l drive = step_drive
      step_called l (report k) = step_report k
      step_called l look = step_look
      step_called l restart = step_restart l

    run_held : begin < g.size → (calls : List Call) (s : State) (w : List ℕ) → Held s w → Run g d t begin (trail w) calls (replies g d t s calls)
    run_held l [] s w held = held_kept s w held
    run_held l (c ∷ cs) s w held =
        let left = step_called s w held l c in
        (held_kept s w held, never_35 g d t begin (trail w) c _ _ left.1.0, (trail left.0, (left.1.0, run_held l cs (called g d t s c).1 left.0 left.1.1)))

pub runs_law : (g : Graph) (d : Rule) (t : Table) → Fit g → Lawful d → Passed g d t → Shifts g d t
runs_law g d t fit lawful passed =
    let fits = sized_true g d t passed.room in
    record {
      opens = λ begin l. rw (fits, lt-ltb _ _ l);
      off = λ begin l. rw (fits, le-ltb _ _ l);
      -- a shift from any place of the map answers every list of calls as its walk has it
      runs = λ begin l calls. run_held g d t begin fit lawful passed l calls (opened g d t g.size d.codes begin) (begin ∷ []) (held_start g d t begin fit lawful passed l);
    }
