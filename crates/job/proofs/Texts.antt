-- Parting a line into fields and joining them undo one another.
use Rattle.std.proofs.Common.{◌≡◌, ℕ, ◌*◌, ◌≤◌, true, false, not, ◌==◌, List, [], ◌∷◌, ◌++◌, length, refl, ap, ◌∙◌, arith, length-append}
use Rattle.std.specs.List.{All}
use Rattle.std.proofs.lemmas.Bool.{not-true, and_from}
use Rattle.std.proofs.lemmas.List.Folds.{list_all-append}
use Rattle.std.proofs.lemmas.List.Sums.{AllPass-from_list_all}
use Rattle.std.proofs.lemmas.List.Splits.{slice_split_none, slice_split_at}
use Rattle.job.specs.Text.{line_end, comma, lacks, Clean, fields, joined}

pub lacks_append : (b : ℕ) (f l : List ℕ) → lacks b f ≡ true → lacks b l ≡ true → lacks b (f ++ l) ≡ true
lacks_append b f l e h = list_all-append (λ x. not (x == b)) f l ∙ and_from (lacks b f) (lacks b l) e h

-- a field of a fit line
abbrev pub Neat : List ℕ → Type 0
Neat f = (lacks comma f ≡ true) × (lacks line_end f ≡ true) × (length f ≤ 8)

abbrev pub Neats : List (List ℕ) → Type 0
Neats [] = Unit {0}
Neats (f ∷ fs) = Neat f × Neats fs

uncut : (f : List ℕ) → lacks comma f ≡ true → All (λ b. (b == comma) ≡ false) f
uncut f h k d l = not-true _ (AllPass-from_list_all (λ b. not (b == comma)) f h k d l)

pub fields_joined : (f : List ℕ) (fs : List (List ℕ)) → Neats (f ∷ fs) → fields (joined (f ∷ fs)) ≡ f ∷ fs
fields_joined f [] n = slice_split_none (λ b. b == comma) f (uncut f n.0.0)
fields_joined f (g ∷ fs) n =
    slice_split_at (λ b. b == comma) f comma (joined (g ∷ fs)) (uncut f n.0.0) refl ∙ ap (λ (x : List (List ℕ)). f ∷ x) (fields_joined g fs n.1)

joined_lacks : (fs : List (List ℕ)) → Neats fs → (lacks line_end (joined fs) ≡ true) × (length (joined fs) ≤ 9 * length fs)
joined_lacks [] n = (refl, omega arith)
joined_lacks (f ∷ []) n = (n.0.1, omega (arith, n.0.2))
joined_lacks (f ∷ g ∷ fs) n =
    let ih = joined_lacks (g ∷ fs) n.1 in
    (lacks_append line_end f (comma ∷ joined (g ∷ fs)) n.0.1 ih.0, omega (arith, n.0.2, ih.1, length-append f (comma ∷ joined (g ∷ fs))))

pub joined_clean : (fs : List (List ℕ)) → Neats fs → length fs ≤ 4 → Clean (joined fs)
joined_clean fs n h = let r = joined_lacks fs n in (r.0, omega (arith, r.1))
