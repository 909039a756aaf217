-- The law of the outcome, at the answer.
use Rattle.std.proofs.Common.{sym, ◌∙◌, subst}
use Rattle.job.specs.Laws.{ReadLaw}
use Rattle.job.specs.Reading.{Outcome}
use Rattle.job.proofs.Blamings.{lawful}
use Rattle.job.proofs.read.Goals as goal

pub returns : goal.returns
returns c =
    let same = c.read.ensures ∙ c.new.ensures in
    record { outcome = same; law = subst (λ (o : Outcome). ReadLaw c.args.text.now o) (sym same) (lawful c.args.text.now) }
