-- Each call of `next` gives the first field that is left.
use Rattle.std.proofs.Common.{rules, tests, ◌≡◌, ◌==◌, suc, List, [], ◌∷◌, Option, Some, None, ℕ, Bool, subst, sym, refl, Bor}
use denote.Param.Members.{Mut}
use Rattle.std.specs.Slice.Iter.{split_steps}
use Rattle.std.proofs.lemmas.Iterator.{YieldsList}
use Rattle.std.proofs.lemmas.Iterator.Splits.{YieldsList-from_slice_split}
use Rattle.job.specs.Text.{comma}
use Rattle.job.specs.Inside.{seen, padded}
use Rattle.job.proofs.fields.first_fields.Goals as goal

module _ {F : Type 0} (g : Mut F (Bor ℕ × Unit {0}) Bool) where
  turn : (s t : _) (r : Option (Bor (List ℕ))) (ys : List (List ℕ)) (n : ℕ) (more : List (Option (List ℕ)))
      → split_steps g s r t → YieldsList (split_steps g) (λ f. f.now) s ys
      → ((zs : List (List ℕ)) → YieldsList (split_steps g) (λ f. f.now) t zs → more ≡ padded n zs)
      → seen r ∷ more ≡ padded (suc n) ys
  turn s t None [] n more e h rest = let m = rest [] (subst (λ x. YieldsList (split_steps g) (λ f. f.now) x []) (sym e.1) h) in cc
  turn s t None (y ∷ ys) n more e h rest = absurd (h.runs.0 t e)
  turn s t (Some x) [] n more e h rest = absurd (h.runs x t e)
  turn s t (Some x) (y ∷ ys) n more e h rest = let m = rest ys (record { runs = (h.runs.1 x t e).1 }) in let k = (h.runs.1 x t e).0 in cc

pub returns : goal.returns
returns c =
    turn _ _ _ _ _ 4 _ c.next.ensures.steps (YieldsList-from_slice_split _ (λ b. b == comma) c.args.line.now c.split-fields.ensures.rest c.split-fields.ensures.done c.split-fields.ensures.closure (λ x b q k. search (rules, tests))) (λ _ h.
    turn _ _ _ _ _ 3 _ c.next-2.ensures.steps h (λ _ h.
    turn _ _ _ _ _ 2 _ c.next-3.ensures.steps h (λ _ h.
    turn _ _ _ _ _ 1 _ c.next-4.ensures.steps h (λ _ h.
    turn _ _ _ _ _ 0 _ c.next-5.ensures.steps h (λ _ _. refl)))))
