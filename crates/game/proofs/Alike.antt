-- Equal meanings give equal tables.
use Rattle.std.proofs.Common.{◌≡◌, ℕ, zero, suc, ◌<◌, ◌≤◌, [], None, ◌⊎◌, sym, refl, ap, ◌∙◌, subst, inl, inr, ⊎_elim, arith}
use Rattle.game.specs.Graph.{Graph, Fit}
use Rattle.game.specs.Rule.{Rule, Lawful}
use Rattle.game.specs.Rounds.{positions, or_else, fresh, given}
use Rattle.game.specs.Table.{entry, Table, Solved, Planned, count_at, plan_at}
use Rattle.game.specs.Laws.{Alike}
use Rattle.game.proofs.Rounds.{cases_step}
use Rattle.game.proofs.Same.{same_count, same_plan}

-- off the map all maps answer the same
everywhere : {A : Type 0} (n m : ℕ) (f h : ℕ → A) (off : A) → n ≡ m → ((v : ℕ) → v < n → f v ≡ h v) → ((v : ℕ) → n ≤ v → f v ≡ off) → ((v : ℕ) → m ≤ v → h v ≡ off) → (v : ℕ) → f v ≡ h v
everywhere n m f h off same on out_f out_h v = grind (arith, on v, out_f v, out_h v)

-- a step answers only on its codes and marks
step_reach : (d : Rule) → Lawful d → (c m : ℕ) → (d.step c m ≡ None) ⊎ ((c < d.codes) × (m ≤ 15))
step_reach d lawful c m =
    ⊎_elim inl (λ some. let told = lawful.settled c m some.0 some.1 in inr (told.0, told.1)) (cases_step (d.step c m))

module _ (g : Graph) (d : Rule) (h : Graph) (e : Rule) (fit_g : Fit g) (lawful_d : Lawful d) (fit_h : Fit h) (lawful_e : Lawful e) (alike : Alike g d h e) where
  same_graph : g ≡ h
  same_graph j = record {
    size = alike.size j;
    house = λ v. everywhere _ _ g.house h.house _ alike.size alike.house fit_g.off_side fit_h.off_side v j;
    mark = λ v. everywhere _ _ g.mark h.mark 0 alike.size alike.mark fit_g.off_mark fit_h.off_mark v j;
    ways = λ v. everywhere _ _ g.ways h.ways [] alike.size alike.ways fit_g.off_ways fit_h.off_ways v j;
  }

  same_step : (c m : ℕ) → d.step c m ≡ e.step c m
  same_step c m = grind (arith, alike.step c m, alike.codes, step_reach d lawful_d c m, step_reach e lawful_e c m)

  same_given : (r v c : ℕ) → given g d r v c ≡ given h e r v c
  unfolding given
  same_given zero v c = refl
  same_given (suc r) v c =
      λ j. or_else (same_given r v c j) (fresh (same_graph j) r v (λ t b. same_given r t b j) (same_step c ((same_graph j).mark v) j))

  -- the duty d with the codes and steps of e: what a plan byte asks goes by these alone
  abbrev stepped : Rule
  stepped = record { codes = e.codes; start = d.start; Breaks = d.Breaks; code = d.code; step = e.step }

  same_rule : d ≡ stepped
  same_rule j = record { codes = alike.codes j; start = d.start; Breaks = d.Breaks; code = d.code; step = λ c m. same_step c m j }

  same_positions : positions g d ≡ positions h e
  same_positions j = positions (same_graph j) (same_rule j)

  -- a table solved for h and e is solved for g and d
  carried : (u : Table) → Solved h e u → Solved g d u
  carried u solved = record {
    counts = λ v c lv lc.
        ap (λ (s : ℕ). entry s u.count v c) alike.codes
        ∙ solved.counts v c (omega (arith, alike.size)) (omega (arith, alike.codes))
        ∙ sym (same_given (positions h e) v c)
        ∙ ap (λ (r : ℕ). given g d r v c) (sym same_positions);
    plans = λ v c lv lc.
        let there = solved.plans v c (omega (arith, alike.size)) (omega (arith, alike.codes)) in
        let planned : Planned h stepped u v c (plan_at h stepped u v c) = record { holds = there.holds; attacks = there.attacks; waits_house = there.waits_house; waits_guest = there.waits_guest } in
        let path : Planned g d u v c (plan_at g d u v c) ≡ Planned h stepped u v c (plan_at h stepped u v c) =
        λ j. Planned (same_graph j) (same_rule j) u v c (plan_at (same_graph j) (same_rule j) u v c) in
        subst (λ (A : Type 0). A) (sym path) planned;
  }

  pub same_entries : (t u : Table) → Solved g d t → Solved h e u → (v c : ℕ) → v < g.size → c < d.codes → (count_at g d t v c ≡ count_at h e u v c) × (plan_at g d t v c ≡ plan_at h e u v c)
  same_entries t u st su v c lv lc = (
    same_count g d fit_g lawful_d t u st (carried u su) v c lv lc ∙ ap (λ (s : ℕ). entry s u.count v c) alike.codes,
    same_plan g d fit_g lawful_d t u st (carried u su) v c lv lc ∙ ap (λ (s : ℕ). entry s u.plan v c) alike.codes,
  )
