-- What a job text says, as plain data.
use Rattle.std.specs.Prelude.{ℕ, List, codes}
use Rattle.job.specs.declared.records.DutyWord.{DutyWord}
use Rattle.job.specs.declared.records.DutyWord.TheVariants.{Window}

-- a duty (an objective), by its word and its bound
pub record Duty : Type 0 where
  pub word : DutyWord
  pub bound : ℕ

-- a map (a game graph): so far the queue map, by its capacity
pub data Map : Type 0 where
  queue : ℕ → Map

pub record Job : Type 0 where
  pub duty : Duty
  pub map : Map

abbrev pub made_duty : DutyWord → ℕ → Duty
made_duty w b = record { word = w; bound = b }

abbrev pub made_job : Duty → Map → Job
made_job d m = record { duty = d; map = m }

-- how a duty's word is written
abbrev pub word_text : DutyWord → List ℕ
word_text Window = codes "window"

-- the bound of a duty is from 1 on and below this
abbrev pub bound_top : DutyWord → ℕ
bound_top Window = 33

-- the bound of a duty whose line leaves it out
abbrev pub default_bound : ℕ
default_bound = 8

-- the capacity of a queue is from 1 on and below this
abbrev pub capacity_top : ℕ
capacity_top = 64
