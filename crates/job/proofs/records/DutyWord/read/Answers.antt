-- The bytes that the pattern reads are the word.
use Rattle.std.proofs.Common.{rules, ◌≡◌, codes, arith}
use Rattle.std.proofs.lemmas.Slice.Eq.{text_from_reads}
use Rattle.job.proofs.records.DutyWord.read.Goals as goal

pub returns-in-window : goal.returns-in-window
returns-in-window c =
    let same : c.args.word.now ≡ codes "window" = text_from_reads c.args.word.now (codes "window") (omega arith) (search rules) in
    rw same
