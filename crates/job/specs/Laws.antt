-- The laws of reading: a text is read as the job that it spells, and a fault's line is the first that no text of a job can have there.
use Rattle.std.specs.Prelude.{◌≡◌, ℕ, suc, ◌<◌, ◌≤◌, true, List, [], ◌∷◌, ◌++◌, length}
use Rattle.job.specs.declared.faults.CutFault.TheVariants.{NoEnd, TooLong}
use Rattle.job.specs.declared.faults.RecordFault.TheVariants.{Cut}
use Rattle.job.specs.declared.faults.JobFault.{JobFault}
use Rattle.job.specs.declared.faults.JobFault.TheVariants.{Record, EndsEarly}
use Rattle.job.specs.Text.{line_end, line_limit, lacks, text_of, Clean, Cleans}
use Rattle.job.specs.Job.{Job}
use Rattle.job.specs.Faults.{report}
use Rattle.job.specs.Reading.{Outcome, job, fault}
use Rattle.job.specs.Spelling.{Spells}

-- some job's text begins with these bytes
abbrev pub BeginsFit : List ℕ → Type 0
BeginsFit front = (j : Job) × (more : List ℕ) × Spells j (front ++ more)

-- why a text whose first lines are `front`, and the rest `rest`, has the fault e in line n
pub data Why (front rest : List ℕ) (n : ℕ) (e : JobFault) : Type 0 where
  -- the text ends early: more lines could make it fit
  early_end : rest ≡ [] → e ≡ EndsEarly n → Why front rest n e
  -- it ends within a line, which more bytes could end, fit or not
  torn_line : lacks line_end rest ≡ true → 0 < length rest → length rest ≤ line_limit → e ≡ Record (Cut (NoEnd n)) → Why front rest n e
  -- one byte more than a line may have comes without an LF, and no job's text begins so
  long_line : (head tail : List ℕ) → rest ≡ head ++ tail → lacks line_end head ≡ true → length head ≡ suc line_limit → (BeginsFit (front ++ head) → ⊥) → e ≡ Record (Cut (TooLong n)) → Why front rest n e
  -- a whole line comes, and no job's text begins with the lines up to it: this is 12 to 14
  unfit_line : (l tail : List ℕ) → rest ≡ l ++ (line_end ∷ tail) → Clean l → (BeginsFit (front ++ (l ++ (line_end ∷ []))) → ⊥) → 12 ≤ (report e).number → Why front rest n e

-- some job's text begins with all lines before the fault's line, and none with that line too
pub record Blames (text : List ℕ) (e : JobFault) : Type 0 where
  pub lines_before : List (List ℕ)
  pub rest : List ℕ
  pub split : text ≡ text_of lines_before ++ rest
  pub clean : Cleans lines_before
  pub numbered : (report e).line ≡ suc (length lines_before)
  pub fit_so_far : BeginsFit (text_of lines_before)
  pub why : Why (text_of lines_before) rest (suc (length lines_before)) e

-- what an outcome says of its text
pub record ReadLaw (text : List ℕ) (o : Outcome) : Type 0 where
  -- the text is read as a job exactly if it spells that job
  pub reads : (j : Job) → (o ≡ job j → Spells j text) × (Spells j text → o ≡ job j)
  pub blames : (e : JobFault) → o ≡ fault e → Blames text e
