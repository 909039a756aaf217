-- One line more of a text.
use Rattle.std.proofs.Common.{◌≡◌, ℕ, List, Some, Option, suc, subst, add-one, arith, Bor}
use Rattle.job.specs.declared.cutter.Cutter.{Cutter}
use Rattle.job.specs.Text.{lines}
use Rattle.job.specs.Kind.{Kind, kind}
use Rattle.job.specs.Reading.{State, Outcome, Ruling, after, judged, reading}
use Rattle.job.specs.Inside.{Handed}

-- what a cutter's text gives, after what has come
abbrev pub onward : State → Cutter → Outcome
onward s c = reading s (suc c.line) (lines c.rest.now)

-- a line that is handed out leads on as it is judged
pub handed : (old new : Cutter) (o : Option (Bor (List ℕ))) (l : Bor (List ℕ)) → o ≡ Some l → Handed old o new
    → (s : State) (k : Option Kind) (r : Ruling) → k ≡ kind l.now → judged new.line s k ≡ r
    → onward s old ≡ after r (λ t. onward t new)
handed old new o l is h s k r same e =
    let g = subst (λ (x : Option (Bor (List ℕ))). Handed old x new) is h in
    grind (arith, g.0, g.1, add-one old.line)
