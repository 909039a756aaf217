-- What each fault of a text is known by: its number, its line, its field and its layer.
use Rattle.std.specs.Prelude.{ℕ}
use Rattle.job.specs.declared.faults.Layer.{Layer}
use Rattle.job.specs.declared.faults.Layer.TheVariants.{Cutter as by_cutter, Record as by_record, Job as by_job}
use Rattle.job.specs.declared.faults.CutFault.TheVariants.{NoEnd, TooLong}
use Rattle.job.specs.declared.faults.RecordFault.TheVariants.{Cut, NotNumber, UnknownWord}
use Rattle.job.specs.declared.faults.JobFault.{JobFault}
use Rattle.job.specs.declared.faults.JobFault.TheVariants.{Record, NotDue, EndsEarly, OutOfRange}

-- line and field count from 1, the keyword being field 1; field 0 names none
pub record Report : Type 0 where
  pub number : ℕ
  pub line : ℕ
  pub field : ℕ
  pub layer : Layer

abbrev pub told : ℕ → ℕ → ℕ → Layer → Report
told number line field layer = record { number = number; line = line; field = field; layer = layer }

abbrev pub report : JobFault → Report
report (Record (Cut (NoEnd line))) = told 11 line 0 by_cutter
report (Record (Cut (TooLong line))) = told 11 line 0 by_cutter
report (NotDue line) = told 12 line 0 by_job
report (EndsEarly line) = told 12 line 0 by_job
report (Record (NotNumber line field)) = told 13 line field by_record
report (Record (UnknownWord line field)) = told 13 line field by_record
report (OutOfRange line field) = told 14 line field by_job
