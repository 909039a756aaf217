-- Tests over the moves of a place, in terms of each move; and that every place has a move, which stays on the map.
use Rattle.std.proofs.Common.{◌≡◌, ℕ, suc, ◌<◌, Bool, true, false, List, [], ◌∷◌, length, get_or, refl, ap, ◌∙◌, ⊎_elim, arith}
use Rattle.std.proofs.lemmas.Bool.{and_cases, both_ways}
use Rattle.std.proofs.lemmas.Bool.Decides.{nat_tests}
use Rattle.std.proofs.lemmas.Grind.{common_steps}
use Rattle.std.proofs.lemmas.List.Folds.{Any-from_list_any, list_any_at}
use Rattle.std.proofs.lemmas.List.Sums.{AllPass-from_list_all}
use Rattle.std.proofs.lemmas.List.{get_or_default}
use Rattle.std.specs.List.{list_all, list_any}
use Rattle.game.specs.Graph.{Graph, Fit, moves}
use Rattle.game.specs.Rounds.{counted}

pub all_true : (f : ℕ → Bool) (xs : List ℕ) → list_all f xs ≡ true → (k : ℕ) → k < length xs → f (get_or xs k 0) ≡ true
all_true f xs e k = AllPass-from_list_all f xs e k 0

pub all_false : (f : ℕ → Bool) (xs : List ℕ) → list_all f xs ≡ false → (k : ℕ) × (k < length xs) × (f (get_or xs k 0) ≡ false)
all_false f [] e = absurd (both_ways true e refl)
all_false f (x ∷ xs) e =
    ⊎_elim
    (λ here. (0, omega arith, here))
    (λ there. let r = all_false f xs there in (suc r.0, omega (arith, r.1), r.2))
    (and_cases (f x) (list_all f xs) e)

pub any_true : (f : ℕ → Bool) (xs : List ℕ) → list_any f xs ≡ true → (k : ℕ) × (k < length xs) × (f (get_or xs k 0) ≡ true)
any_true f xs e = let some = Any-from_list_any f xs e in let at = get_or_default xs some.0 0 some.1 some.2 in (some.0, some.2, ap f (at ∙ some.3) ∙ some.4)

pub any_false : (f : ℕ → Bool) (xs : List ℕ) → list_any f xs ≡ false → (k : ℕ) → k < length xs → f (get_or xs k 0) ≡ false
any_false f xs e k h = grind (arith, list_any_at f xs k 0 h)

pub counted_true : (n : ℕ) → counted n ≡ true → 0 < n
counted_true n e = grind (arith, nat_tests)

pub counted_false : (n : ℕ) → counted n ≡ false → n ≡ 0
counted_false n e = grind (arith, nat_tests)

-- every place has a move
pub moves_some : (g : Graph) (v : ℕ) → 0 < length (moves g v)
moves_some g v = grind arith

pub moves_inside : (g : Graph) → Fit g → (v k : ℕ) → v < g.size → k < length (moves g v) → get_or (moves g v) k 0 < g.size
moves_inside g fit v k lv lk = grind (arith, common_steps, fit.inside v k)
