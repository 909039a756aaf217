-- What the answers of the cutter say of the text that is left.
use Rattle.std.specs.Prelude.{◌≡◌, ℕ, List}
use Rattle.job.specs.declared.faults.CutFault.{CutFault}
use Rattle.job.specs.declared.faults.CutFault.TheVariants.{NoEnd, TooLong}
use Rattle.job.specs.declared.faults.RecordFault.{RecordFault}
use Rattle.job.specs.declared.faults.RecordFault.TheVariants.{Cut, NotNumber, UnknownWord}
use Rattle.job.specs.Text.{lines, done, torn, long, cut}

-- no line is left of a text
abbrev pub Ended : List ℕ → Type 0
Ended text = lines text ≡ done

-- the line l is cut off a text, and the rest is left
abbrev pub CutOff : List ℕ → List ℕ → List ℕ → Type 0
CutOff text l rest = lines text ≡ cut l (lines rest)

-- no line can be cut off a text where line n is due
abbrev pub Uncut : List ℕ → ℕ → CutFault → Type 0
Uncut text n (NoEnd line) = (lines text ≡ torn) × (line ≡ n)
Uncut text n (TooLong line) = (lines text ≡ long) × (line ≡ n)

-- a fault of the record's that no line can be cut is the cutter's, whole
abbrev pub UncutRecord : List ℕ → ℕ → RecordFault → Type 0
UncutRecord text n (Cut f) = Uncut text n f
UncutRecord text n (NotNumber line field) = ⊥
UncutRecord text n (UnknownWord line field) = ⊥
