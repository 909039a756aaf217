-- Which texts say a job: its lines one after the other.
use Rattle.std.specs.Prelude.{◌≡◌, ℕ, ◌⊎◌, List, [], ◌∷◌, codes}
use Rattle.meanings.specs.Queue.{QueueLimits}
use Rattle.meanings.specs.Window.{WindowLimits}
use Rattle.job.specs.declared.records.DutyWord.{DutyWord}
use Rattle.job.specs.declared.records.DutyWord.TheVariants.{Window}
use Rattle.job.specs.Text.{joined, text_of}
use Rattle.job.specs.Number.{Numeral}
use Rattle.job.specs.Job.{Duty, Map, queue, Job, word_text, default_bound}

-- the bounds that a duty may have
abbrev pub FitBound : DutyWord → ℕ → Type 0
FitBound Window b = WindowLimits b

-- l is `duty,word,bound`, or without the bound where that is the default
abbrev pub SaysDuty : Duty → List ℕ → Type 0
SaysDuty d l =
    ((d.bound ≡ default_bound) × (l ≡ joined (codes "duty" ∷ word_text d.word ∷ [])))
    ⊎ ((b : List ℕ) × Numeral d.bound b × FitBound d.word d.bound × (l ≡ joined (codes "duty" ∷ word_text d.word ∷ b ∷ [])))

-- the lines of a map: of a queue the one line `queue,capacity`
abbrev pub SaysMap : Map → List (List ℕ) → Type 0
SaysMap (queue q) ls = (a : List ℕ) × Numeral q a × QueueLimits q × (ls ≡ joined (codes "queue" ∷ a ∷ []) ∷ [])

-- the text is the duty's line, then the map's lines, each with its LF
pub record Spells (j : Job) (text : List ℕ) : Type 0 where
  pub first : List ℕ
  pub others : List (List ℕ)
  pub whole : text ≡ text_of (first ∷ others)
  pub duty_said : SaysDuty j.duty first
  pub map_said : SaysMap j.map others
