-- A round over a table of counts gives what the next round gives.
use Rattle.std.proofs.Common.{◌≡◌, ℕ, zero, suc, ◌+◌, ◌*◌, ◌/◌, ◌%◌, ◌<◌, ◌≤◌, Bool, true, false, cond, eqb, ◌&&◌, List, length, get_or, Some, None, Option, sym, refl, ap, ◌∙◌, ⊎_elim, add-one, add-mul, one-mul, mul-le-mul_right, arith}
use Rattle.std.proofs.lemmas.Bool.{eqb-true, eqb-false, eq-eqb, ne_eqb, and_parts, cond-true, cond-false, false_from_ne_true, true_from_ne_false, cases_lt}
use Rattle.std.proofs.lemmas.Nat.{div-add-mod'}
use Rattle.std.proofs.Math.Nat.{mod-lt}
use Rattle.std.specs.List.{list_any}
use Rattle.game.specs.Graph.{Graph, Fit}
use Rattle.game.specs.Rule.{Rule, Lawful}
use Rattle.game.specs.Rounds.{given, fresh, Quiet, positions}
use Rattle.game.specs.Table.{entry}
use Rattle.game.proofs.Moves.{moves_inside, any_true, any_false}
use Rattle.game.proofs.Rounds.{kept, new, none_one, small}
use Rattle.game.proofs.Ends.{quiet_rounds}
use Rattle.solver.specs.Rounds.{gains, gains_at, is_due, Counts, Finished}
use Rattle.solver.proofs.Moves.{gains_same}

-- an entry of the map lies within the table
pub entry_in : (n s v c : ℕ) → v < n → c < s → v * s + c < n * s
entry_in n s v c lv lc = let rows : (v + 1) * s ≤ n * s = mul-le-mul_right s (omega arith) in omega (arith, add-mul v 1 s, one-mul s)

module _ (g : Graph) (d : Rule) (fit : Fit g) (lawful : Lawful d) where
  -- what is gained by a table that holds the first r rounds' counts
  gains_given : (r : ℕ) (count : List ℕ) → Counts g d r count → (v c : ℕ) → v < g.size
      → gains_at g d count v c ≡ gains g v (given g d r) (d.step c (g.mark v))
  gains_given r count stand v c lv =
      gains_same g v (entry d.codes count) (given g d r) (d.step c (g.mark v))
      (λ e is k lk. stand _ e (moves_inside g fit v k lv lk) (lawful.settled c (g.mark v) e is).2)

  fresh_is : (r v c : ℕ) (o : Option ℕ) → d.step c (g.mark v) ≡ o → given g d r v c ≡ 0
      → cond (gains g v (given g d r) o) (suc r) 0 ≡ fresh g r v (given g d r) o
  fresh_is zero v c None is z = refl
  fresh_is (suc r) v c None is z = absurd (omega (arith, none_one g d r v c is))
  fresh_is r v c (Some e) is z = refl

  -- what is due is counted by the next round, and nothing else changes
  due_given : (r : ℕ) (count : List ℕ) → Counts g d r count → (v c : ℕ) → v < g.size → c < d.codes
      → given g d (suc r) v c ≡ cond (is_due g d count v c) (suc r) (entry d.codes count v c)
  due_given r count stand v c lv lc = go (given g d r v c) refl
    where
      go : (x : ℕ) → given g d r v c ≡ x
          → given g d (suc r) v c ≡ cond (is_due g d count v c) (suc r) (entry d.codes count v c)
      go zero z =
          let none : entry d.codes count v c ≡ 0 = stand v c lv lc ∙ z in
          let asks : is_due g d count v c ≡ gains g v (given g d r) (d.step c (g.mark v)) = ap (λ (b : Bool). b && gains_at g d count v c) (eq-eqb (entry d.codes count v c) 0 none) ∙ gains_given r count stand v c lv in
          new g d r v c z
          ∙ sym (fresh_is r v c (d.step c (g.mark v)) refl z)
          ∙ sym (ap (λ (b : Bool). cond b (suc r) (entry d.codes count v c)) asks ∙ ap (cond (gains g v (given g d r) (d.step c (g.mark v))) (suc r)) none)
      go (suc k) s =
          let some : entry d.codes count v c ≡ suc k = stand v c lv lc ∙ s in
          let not_due : is_due g d count v c ≡ false = ap (λ (b : Bool). b && gains_at g d count v c) (ne_eqb (entry d.codes count v c) 0 (λ none. absurd (omega arith))) in
          kept g d r v c k s ∙ sym some ∙ sym (cond-false (is_due g d count v c) (suc r) (entry d.codes count v c) not_due)

  module _ (r : ℕ) (count flags after : List ℕ) (stand : Counts g d r count)
      (flagged : (v c : ℕ) → v < g.size → c < d.codes → entry d.codes flags v c ≡ cond (is_due g d count v c) 1 0)
      (settled : (v c : ℕ) → v < g.size → c < d.codes → entry d.codes after v c ≡ cond (eqb (entry d.codes flags v c) 1) (r + 1) (entry d.codes count v c)) where
    -- flags for what is due, then counts settled by the flags: a round
    pub round_counts : Counts g d (r + 1) after
    round_counts v c lv lc =
        settled v c lv lc
        ∙ ap (λ (f : ℕ). cond (eqb f 1) (r + 1) (entry d.codes count v c)) (flagged v c lv lc)
        ∙ flag_back (is_due g d count v c)
        ∙ ap (λ (n : ℕ). cond (is_due g d count v c) n (entry d.codes count v c)) (add-one r)
        ∙ sym (due_given r count stand v c lv lc)
        ∙ ap (λ (n : ℕ). given g d n v c) (sym (add-one r))
      where
        flag_back : (b : Bool) → cond (eqb (cond b 1 0) 1) (r + 1) (entry d.codes count v c) ≡ cond b (r + 1) (entry d.codes count v c)
        flag_back true = refl
        flag_back false = refl

    -- without a flag the round gives nothing ..
    pub round_quiet : length flags ≡ positions g d → list_any (λ f. eqb f 1) flags ≡ false → Quiet g d r
    round_quiet whole none v c lv lc z =
        let unflagged = eqb-false (entry d.codes flags v c) 1 (any_false (λ f. eqb f 1) flags none (v * d.codes + c) (omega (arith, whole, entry_in g.size d.codes v c lv lc))) in
        let not_due = false_from_ne_true (is_due g d count v c) (λ due. unflagged (flagged v c lv lc ∙ ap (λ (b : Bool). cond b 1 0) due)) in
        due_given r count stand v c lv lc ∙ cond-false (is_due g d count v c) (suc r) (entry d.codes count v c) not_due ∙ stand v c lv lc ∙ z

    -- .. and with one something
    pub round_loud : length flags ≡ positions g d → list_any (λ f. eqb f 1) flags ≡ true → Quiet g d r → ⊥
    round_loud whole some quiet =
        let found = any_true (λ f. eqb f 1) flags some in
        let k = found.0 in
        let at : k / d.codes * d.codes + k % d.codes ≡ k = div-add-mod' k d.codes in
        let lc : k % d.codes < d.codes = mod-lt k lawful.some in
        let lv : k / d.codes < g.size = ⊎_elim (λ on. on) (λ off. let past : g.size * d.codes ≤ k / d.codes * d.codes = mul-le-mul_right d.codes (omega arith) in absurd (omega (arith, whole, found.1))) (cases_lt (k / d.codes) g.size) in
        let flag : entry d.codes flags (k / d.codes) (k % d.codes) ≡ 1 = ap (λ (j : ℕ). get_or flags j 0) at ∙ eqb-true (get_or flags k 0) 1 found.2 in
        let due = true_from_ne_false (is_due g d count (k / d.codes) (k % d.codes)) (λ not_due. absurd (omega (arith, flag, flagged (k / d.codes) (k % d.codes) lv lc, ap {B = ℕ} (λ (b : Bool). cond b 1 0) not_due))) in
        let none : entry d.codes count (k / d.codes) (k % d.codes) ≡ 0 = eqb-true _ 0 (and_parts (eqb (entry d.codes count (k / d.codes) (k % d.codes)) 0) (gains_at g d count (k / d.codes) (k % d.codes)) due).0 in
        let counted = due_given r count stand (k / d.codes) (k % d.codes) lv lc ∙ cond-true (is_due g d count (k / d.codes) (k % d.codes)) (suc r) (entry d.codes count (k / d.codes) (k % d.codes)) due in
        omega (arith, counted, quiet (k / d.codes) (k % d.codes) lv lc (sym (stand (k / d.codes) (k % d.codes) lv lc) ∙ none))

  same_next : (r v c : ℕ) → v < g.size → c < d.codes → Quiet g d r → given g d (r + 1) v c ≡ given g d r v c
  same_next r v c lv lc quiet = ap (λ (n : ℕ). given g d n v c) (add-one r) ∙ go (given g d r v c) refl
    where
      go : (x : ℕ) → given g d r v c ≡ x → given g d (suc r) v c ≡ given g d r v c
      go zero z = quiet v c lv lc z ∙ sym z
      go (suc k) s = kept g d r v c k s ∙ sym s

  -- the rounds end at the first that gives nothing
  pub rounds_end : (r : ℕ) (count : List ℕ) → Quiet g d r → Counts g d (r + 1) count → Finished g d count
  rounds_end r count quiet stand v c lv lc = stand v c lv lc ∙ same_next r v c lv lc quiet ∙ quiet_rounds g d fit lawful r v c quiet lv lc

-- no round has given anything yet
pub given_none : (g : Graph) (d : Rule) (v c : ℕ) → given g d 0 v c ≡ 0
given_none g d v c = omega (arith, small g d 0 v c)
