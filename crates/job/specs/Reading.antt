-- How a text is read, line by line: the job that it gives, or the fault of its first unfit line.
use Rattle.std.specs.Prelude.{ℕ, suc, cond, ◌&&◌, List, Some, None, codes, Option, nat_le, nat_lt}
use Rattle.std.specs.Str.{bytes_eq}
use Rattle.job.specs.declared.records.DutyWord.{DutyWord}
use Rattle.job.specs.declared.records.DutyWord.TheVariants.{Window}
use Rattle.job.specs.declared.faults.CutFault.TheVariants.{NoEnd, TooLong}
use Rattle.job.specs.declared.faults.RecordFault.TheVariants.{Cut, NotNumber, UnknownWord}
use Rattle.job.specs.declared.faults.JobFault.{JobFault}
use Rattle.job.specs.declared.faults.JobFault.TheVariants.{Record, NotDue, EndsEarly, OutOfRange}
use Rattle.job.specs.Text.{Lines, done, torn, long, cut, lines}
use Rattle.job.specs.Number.{number}
use Rattle.job.specs.Job.{Duty, Map, queue, Job, made_duty, made_job, bound_top, default_bound, capacity_top}
use Rattle.job.specs.Kind.{Kind, duty_line, site_line, queue_line, place_line, way_line, close_line, kind}

-- what has come, named by what is due
pub data State : Type 0 where
  due_duty : State
  -- after the duty
  due_map : Duty → State
  -- after the map: no kind of line is taken here yet, so the text is to end
  due_close : Duty → Map → State

-- what a line does: it leads on, or it is unfit
pub data Ruling : Type 0 where
  next : State → Ruling
  unfit : JobFault → Ruling

-- a number from low on and below top, in field i of line n: 13 if it is none, 14 if it is outside
abbrev pub ranged : ℕ → ℕ → ℕ → ℕ → Option ℕ → (ℕ → Ruling) → Ruling
ranged n i low top None go = unfit (Record (NotNumber n i))
ranged n i low top (Some k) go = cond (nat_le low k && nat_lt k top) (go k) (unfit (OutOfRange n i))

abbrev pub within : ℕ → ℕ → ℕ → ℕ → List ℕ → (ℕ → Ruling) → Ruling
within n i low top f go = ranged n i low top (number f) go

-- a word in field i of line n: 13 if it is unknown
abbrev pub worded : {A : Type 0} → ℕ → ℕ → Option A → (A → Ruling) → Ruling
worded n i None go = unfit (Record (UnknownWord n i))
worded n i (Some a) go = go a

abbrev pub duty_word : List ℕ → Option DutyWord
duty_word w = cond (bytes_eq w (codes "window")) (Some Window) None

-- the duty of a word and an optional bound
abbrev pub bounded : ℕ → Option (List ℕ) → DutyWord → Ruling
bounded n None w = next (due_map (made_duty w default_bound))
bounded n (Some b) w = within n 3 1 (bound_top w) b (λ k. next (due_map (made_duty w k)))

-- what line n does, by what is due and its kind: 12 if it is not due, else by its fields from the left
abbrev pub ruled : ℕ → State → Kind → Ruling
ruled n due_duty (duty_line w b) = worded n 2 (duty_word w) (bounded n b)
ruled n due_duty (site_line k) = unfit (NotDue n)
ruled n due_duty (queue_line q) = unfit (NotDue n)
ruled n due_duty (place_line v s m) = unfit (NotDue n)
ruled n due_duty (way_line f t) = unfit (NotDue n)
ruled n due_duty (close_line f t) = unfit (NotDue n)
ruled n (due_map d) (duty_line w b) = unfit (NotDue n)
ruled n (due_map d) (site_line k) = unfit (NotDue n)
ruled n (due_map d) (queue_line q) = within n 2 1 capacity_top q (λ k. next (due_close d (queue k)))
ruled n (due_map d) (place_line v s m) = unfit (NotDue n)
ruled n (due_map d) (way_line f t) = unfit (NotDue n)
ruled n (due_map d) (close_line f t) = unfit (NotDue n)
ruled n (due_close d m) (duty_line w b) = unfit (NotDue n)
ruled n (due_close d m) (site_line k) = unfit (NotDue n)
ruled n (due_close d m) (queue_line q) = unfit (NotDue n)
ruled n (due_close d m) (place_line v s k) = unfit (NotDue n)
ruled n (due_close d m) (way_line f t) = unfit (NotDue n)
ruled n (due_close d m) (close_line f t) = unfit (NotDue n)

-- 12 also where a line has no kind
abbrev pub judged : ℕ → State → Option Kind → Ruling
judged n s None = unfit (NotDue n)
judged n s (Some k) = ruled n s k

-- what a text gives; Faults.antt has the number, line, field and layer of each fault
pub data Outcome : Type 0 where
  job : Job → Outcome
  fault : JobFault → Outcome

-- the text ends where line n would begin: 12 if something is due
abbrev pub at_end : State → ℕ → Outcome
at_end due_duty n = fault (EndsEarly n)
at_end (due_map d) n = fault (EndsEarly n)
at_end (due_close d m) n = job (made_job d m)

abbrev pub after : Ruling → (State → Outcome) → Outcome
after (next s) go = go s
after (unfit e) go = fault e

-- what lines from the n-th on give, after what has come: 11 where no line can be cut, whatever is due
abbrev pub reading : State → ℕ → Lines → Outcome
reading s n done = at_end s n
reading s n torn = fault (Record (Cut (NoEnd n)))
reading s n long = fault (Record (Cut (TooLong n)))
reading s n (cut l ls) = after (judged n s (kind l)) (λ t. reading t (suc n) ls)

abbrev pub outcome : List ℕ → Outcome
outcome text = reading due_duty 1 (lines text)
