-- Two of the four facts of a duty from one equation for its step.
use Rattle.std.proofs.Common.{◌≡◌, ℕ, Bool, true, false, cond, List, [], ◌∷◌, ◌++◌, Some, None, Option, sym, refl, ◌∙◌}
use Rattle.game.specs.Rule.{Rule}

-- the step from a list's code on a mark: where a test passes, the longer list's code
pub record Follows (d : Rule) (ms : List ℕ) (m : ℕ) : Type 0 where
  pub test : Bool
  pub steps : d.step (d.code ms) m ≡ cond test (Some (d.code (ms ++ m ∷ []))) None
  pub whole : test ≡ true → d.Breaks (ms ++ m ∷ []) → ⊥
  pub broken : test ≡ false → d.Breaks (ms ++ m ∷ [])

pub some_none : (e : ℕ) → ◌≡◌ {A = Option ℕ} None (Some e) → ⊥
some_none e is = cc

-- a guarded answer that is some code: the guard passed
pub guarded : (t : Bool) (o : Option ℕ) (e : ℕ) → cond t o None ≡ Some e → (t ≡ true) × (o ≡ Some e)
guarded true o e is = (refl, is)
guarded false o e is = absurd (some_none e is)

none_false : (t : Bool) (c : ℕ) → cond t (Some c) None ≡ None → t ≡ false
none_false true c is = absurd (some_none c (sym is))
none_false false c is = refl

pub follows_breaks : (d : Rule) (ms : List ℕ) (m : ℕ) → Follows d ms m → d.step (d.code ms) m ≡ None → d.Breaks (ms ++ m ∷ [])
follows_breaks d ms m f is = f.broken (none_false f.test (d.code (ms ++ m ∷ [])) (sym f.steps ∙ is))

pub follows_on : (d : Rule) (ms : List ℕ) (m c : ℕ) → Follows d ms m → d.step (d.code ms) m ≡ Some c
    → (d.Breaks (ms ++ m ∷ []) → ⊥) × (d.code (ms ++ m ∷ []) ≡ c)
follows_on d ms m c f is =
    let g = guarded f.test (Some (d.code (ms ++ m ∷ []))) c (sym f.steps ∙ is) in
    let e = g.1 in
    (f.whole g.0, cc)
