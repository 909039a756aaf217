-- What an answer of the reader stands for in the specification.
use Rattle.std.specs.Prelude.{Ok, Err, Result}
use Rattle.duties.specs.declared.window.Window.{Window as WindowDuty}
use Rattle.maps.specs.declared.queue.Queue.{Queue as QueueMap}
use Rattle.job.specs.declared.Job.{Job as JobRead}
use Rattle.job.specs.declared.faults.JobFault.{JobFault}
use Rattle.job.specs.declared.records.DutyWord.TheVariants.{Window}
use Rattle.job.specs.Job.{Duty as DutySaid, Map, queue, Job, made_duty, made_job}
use Rattle.job.specs.Reading.{Outcome, job, fault}

abbrev pub shown_duty : WindowDuty → DutySaid
shown_duty w = made_duty Window w.bound

abbrev pub shown_map : QueueMap → Map
shown_map q = queue q.capacity

abbrev pub shown_job : JobRead → Job
shown_job j = made_job (shown_duty j.duty) (shown_map j.map)

-- a call's answer as the outcome of a text
abbrev pub shown : Result JobRead JobFault → Outcome
shown (Ok j) = job (shown_job j)
shown (Err e) = fault e
