-- What the inner values of the reader stand for, and what its parts do with them.
use Rattle.std.specs.Prelude.{◌≡◌, ℕ, zero, suc, ◌+◌, ◌<◌, List, [], ◌∷◌, length, Some, None, Ok, Err, Option, Result}
use Rattle.std.specs.Borrow.{Bor}
use Rattle.std.specs.Option.{option_map}
use Rattle.job.specs.declared.cutter.Cutter.{Cutter}
use Rattle.job.specs.declared.faults.JobFault.{JobFault}
use Rattle.job.specs.declared.records.Line.{Line}
use Rattle.job.specs.declared.records.Line.TheVariants.{Duty, Site, Queue, Place, Way, Close}
use Rattle.job.specs.declared.reader.Phase.{Phase}
use Rattle.job.specs.declared.reader.Phase.TheVariants.{Duty as DutyDue, Map as MapDue, Close as CloseDue}
use Rattle.job.specs.declared.reader.Reader.{Reader}
use Rattle.job.specs.Text.{lines}
use Rattle.job.specs.Cutting.{Ended, CutOff}
use Rattle.job.specs.Kind.{Kind, duty_line, site_line, queue_line, place_line, way_line, close_line}
use Rattle.job.specs.Reading.{State, due_duty, due_map, due_close, Ruling, unfit, Outcome, reading}
use Rattle.job.specs.Shown.{shown_duty, shown_map}

-- what optional parts of the text hold
abbrev pub seen : Option (Bor (List ℕ)) → Option (List ℕ)
seen o = option_map (λ r. r.now) o

-- the first n of some values, and none for each that is lacking
abbrev pub padded : {X : Type 0} → ℕ → List X → List (Option X)
padded zero xs = []
padded (suc n) [] = None ∷ padded n []
padded (suc n) (x ∷ xs) = Some x ∷ padded n xs

abbrev pub shown_line : Line → Kind
shown_line (Duty word bound) = duty_line word.now (seen bound)
shown_line (Site count) = site_line count.now
shown_line (Queue capacity) = queue_line capacity.now
shown_line (Place number side mark) = place_line number.now side.now mark.now
shown_line (Way from to) = way_line from.now to.now
shown_line (Close from to) = close_line from.now to.now

abbrev pub state_of : Phase → State
state_of DutyDue = due_duty
state_of (MapDue duty) = due_map (shown_duty duty)
state_of (CloseDue duty map) = due_close (shown_duty duty) (shown_map map)

-- an answer goes on with its value, or is unfit by its fault
abbrev pub goes : {A : Type 0} → Result A JobFault → (A → Ruling) → Ruling
goes (Ok a) go = go a
goes (Err e) go = unfit e

-- what the rest of a reader's text gives
abbrev pub ahead : Reader → Outcome
ahead r = reading (state_of r.phase) (suc r.cutter.line) (lines r.cutter.rest.now)

-- what a cutter has handed out: nothing at the end of its text, or a line that is cut off
abbrev pub Handed : Cutter → Option (Bor (List ℕ)) → Cutter → Type 0
Handed old None new = Ended old.rest.now × (new ≡ old)
Handed old (Some l) new =
    CutOff old.rest.now l.now new.rest.now × (new.line ≡ old.line + 1) × (length new.rest.now < length old.rest.now)
