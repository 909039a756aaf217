-- What is ahead stays the same from line to line, and less of the text is left.
use Rattle.std.proofs.Common.{◌≡◌, length}
use Rattle.job.specs.Inside.{ahead}
use Rattle.job.proofs.reader.Reader.read.Given as goal

abbrev pub invariant-loop-line : goal.invariant-loop-line
invariant-loop-line l = ahead l.initial.self ≡ ahead l.self

abbrev pub decreases-loop-line : goal.decreases-loop-line
decreases-loop-line l = length l.self.cutter.rest.now
