-- The table that the rounds give tells who can keep or break the duty from each place.
use Rattle.std.proofs.Common.{◌≡◌, ℕ, ◌*◌, ◌<◌, refl, ⊎_elim, arith}
use Rattle.std.proofs.lemmas.Bool.{cases_lt, cases_order}
use Rattle.game.specs.Graph.{Graph, Fit}
use Rattle.game.specs.Rule.{Rule, Lawful}
use Rattle.game.specs.Walks.{GuestBreaks}
use Rattle.game.specs.Rounds.{given, rounds}
use Rattle.game.specs.Table.{Table, place_count, Solved, Verdict}
use Rattle.game.specs.Check.{Passes}
use Rattle.game.proofs.Rounds.{small, given_later}
use Rattle.game.proofs.Checks.{solved_passes}
use Rattle.game.proofs.Keeps.{keeps, breaks_in}
use Rattle.game.proofs.Plays.{alive_unbroken, not_both}

-- a round below the count that a position gets in the end gives it nothing
not_yet : (g : Graph) (d : Rule) (m n v c : ℕ) → m < given g d n v c → given g d m v c ≡ 0
not_yet g d m n v c h = grind (arith, given_later g d m n v c, small g d n v c, small g d m v c)

module _ (g : Graph) (d : Rule) (t : Table) (fit : Fit g) (lawful : Lawful d) (solved : Solved g d t) where
  passes : Passes g d t
  passes = solved_passes g d t fit lawful solved

  module _ (v : ℕ) (l : v < g.size) where
    is : place_count g d t v ≡ rounds g d v d.start
    is = solved.counts v d.start l lawful.begins

    least : (n : ℕ) → place_count g d t v ≡ n → (m : ℕ) → 0 < m → m < n → GuestBreaks g d v m → ⊥
    least n count m some h = alive_unbroken g d fit lawful v m l some (not_yet g d m (g.size * d.codes) v d.start (omega (arith, is)))

    pub solved_verdict : Verdict g d t v
    solved_verdict = record {
      house_if = λ house. ⊎_elim
          (λ none. omega arith)
          (λ some. absurd (not_both g d fit lawful v (place_count g d t v) l some house (breaks_in g d t fit lawful passes v (place_count g d t v) some refl)))
          (cases_lt (place_count g d t v) 1);
      house_only = keeps g d t fit lawful passes v;
      guest_if = λ n first. ⊎_elim
          (λ same. same)
          (⊎_elim
          (λ late. absurd (⊎_elim
          (λ none. not_both g d fit lawful v n l first.above (keeps g d t fit lawful passes v (omega arith)) first.breaks)
          (λ some. first.least _ some late (breaks_in g d t fit lawful passes v _ some refl))
          (cases_lt (place_count g d t v) 1)))
          (λ early. absurd (least _ refl n first.above early first.breaks)))
          (cases_order (place_count g d t v) n);
      guest_only = λ n some count. record { above = some; breaks = breaks_in g d t fit lawful passes v n some count; least = least n count };
    }
