-- Searches among the moves of a place by their numbers are searches among the places where they lead.
use Rattle.std.proofs.Common.{◌≡◌, ℕ, suc, ◌<◌, Bool, cond, ◌||◌, List, [], ◌∷◌, length, get_or, map, sym, refl, ap, ◌∙◌, arith}
use Rattle.std.specs.Prelude.{Some, None, Option}
use Rattle.std.specs.List.{list_all, list_any, range_with_len}
use Rattle.std.proofs.lemmas.Bool.Decides.{nat_tests}
use Rattle.std.proofs.lemmas.List.{ext_get_or}
use Rattle.std.proofs.lemmas.List.FromFn.{length-map-range_with_len, get_or-map-range_with_len}
use Rattle.std.proofs.lemmas.List.Folds.{list_all-map}
use Rattle.game.specs.Graph.{Graph, moves, target}
use Rattle.game.specs.Rounds.{counted, attracted}
use Rattle.solver.specs.Rounds.{gains}

-- a list, read at each of its indices
read_all : (xs : List ℕ) → map (λ k. get_or xs k 0) (range_with_len 0 (length xs)) ≡ xs
read_all xs =
    let long = length-map-range_with_len (λ k. get_or xs k 0) 0 (length xs) in
    ext_get_or 0 (map (λ k. get_or xs k 0) (range_with_len 0 (length xs))) xs long
    (λ i h. get_or-map-range_with_len (λ k. get_or xs k 0) 0 (length xs) i i 0 (omega (arith, long)) (omega arith))

all_read : (p : ℕ → Bool) (xs : List ℕ) → list_all (λ k. p (get_or xs k 0)) (range_with_len 0 (length xs)) ≡ list_all p xs
all_read p xs = sym (list_all-map p (λ k. get_or xs k 0) (range_with_len 0 (length xs))) ∙ ap (list_all p) (read_all xs)

any_map : (p : ℕ → Bool) (h : ℕ → ℕ) (ks : List ℕ) → list_any p (map h ks) ≡ list_any (λ k. p (h k)) ks
any_map p h [] = refl
any_map p h (k ∷ ks) = ap (λ (b : Bool). p (h k) || b) (any_map p h ks)

any_read : (p : ℕ → Bool) (xs : List ℕ) → list_any (λ k. p (get_or xs k 0)) (range_with_len 0 (length xs)) ≡ list_any p xs
any_read p xs = sym (any_map p (λ k. get_or xs k 0) (range_with_len 0 (length xs))) ∙ ap (list_any p) (read_all xs)

-- a move leads where the way of its number does
pub move_target : (g : Graph) (v k : ℕ) → v < g.size → k < length (moves g v) → target g v k ≡ get_or (moves g v) k 0
move_target g v k lv lk = grind (arith, nat_tests)

-- a place is counted by its moves' numbers as by the places where they lead
pub attracted_told : (g : Graph) (v : ℕ) (at : ℕ → ℕ) → attracted g v at
    ≡ cond (g.house v)
    (list_all (λ k. counted (at (get_or (moves g v) k 0))) (range_with_len 0 (length (moves g v))))
    (list_any (λ k. counted (at (get_or (moves g v) k 0))) (range_with_len 0 (length (moves g v))))
attracted_told g v at =
    let all = all_read (λ t. counted (at t)) (moves g v) in
    let any = any_read (λ t. counted (at t)) (moves g v) in
    cc

pub all_same : (f h : ℕ → Bool) (xs : List ℕ) → ((k : ℕ) → k < length xs → f (get_or xs k 0) ≡ h (get_or xs k 0))
    → list_all f xs ≡ list_all h xs
all_same f h [] each = refl
all_same f h (x ∷ xs) each = let a = each 0 (omega arith) in let b = all_same f h xs (λ k l. each (suc k) (omega arith)) in cc

pub any_same : (f h : ℕ → Bool) (xs : List ℕ) → ((k : ℕ) → k < length xs → f (get_or xs k 0) ≡ h (get_or xs k 0))
    → list_any f xs ≡ list_any h xs
any_same f h [] each = refl
any_same f h (x ∷ xs) each = let a = each 0 (omega arith) in let b = any_same f h xs (λ k l. each (suc k) (omega arith)) in cc

-- what is gained depends on the counts where the moves lead
pub gains_same : (g : Graph) (v : ℕ) (f h : ℕ → ℕ → ℕ) (o : Option ℕ)
    → ((e : ℕ) → o ≡ Some e → (k : ℕ) → k < length (moves g v) → f (get_or (moves g v) k 0) e ≡ h (get_or (moves g v) k 0) e)
    → gains g v f o ≡ gains g v h o
gains_same g v f h None same = refl
gains_same g v f h (Some e) same =
    let a = all_same (λ t. counted (f t e)) (λ t. counted (h t e)) (moves g v) (λ k l. ap counted (same e refl k l)) in
    let b = any_same (λ t. counted (f t e)) (λ t. counted (h t e)) (moves g v) (λ k l. ap counted (same e refl k l)) in
    cc
