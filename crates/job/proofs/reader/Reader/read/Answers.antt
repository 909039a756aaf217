-- A line leads on as its kind is judged.
use Rattle.std.proofs.Common.{◌∙◌, sym}
use Rattle.std.proofs.lemmas.Result.{err_from_is_err_and}
use Rattle.job.specs.Reading.{next, unfit}
use Rattle.job.specs.Inside.{state_of}
use Rattle.job.proofs.Steps.{handed}
use Rattle.job.proofs.reader.Reader.read.Goals as goal

pub returns-in_err-self : goal.returns-in_err-self
returns-in_err-self c =
    let p = err_from_is_err_and c.from_residual-in_err-self.result c.from_residual-in_err-self.ensures.1 in
    rw (p.1, p.2) (sym (c.loop-line.invariant ∙ handed c.loop-line.self.cutter c.next_line.new.cutter _ c.in-Some.line c.in-Some.is c.in_ok-line.ensures (state_of c.loop-line.self.phase) _ (unfit c.in_err-self.field-0.0) c.read.ensures c.in_err-self.ensures))

pub loop-line-preserved : goal.loop-line-preserved
loop-line-preserved c =
    c.loop-line.invariant ∙ handed c.loop-line.self.cutter c.next_line.new.cutter _ c.in-Some.line c.in-Some.is c.in_ok-line.ensures (state_of c.loop-line.self.phase) _ (next (state_of c.in_ok-self.field-0)) c.read.ensures c.in_ok-self.ensures
