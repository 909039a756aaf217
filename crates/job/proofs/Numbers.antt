-- A field is read as the number that it says.
use Rattle.std.proofs.Common.{◌≡◌, ℕ, List, Some, arith}
use Rattle.std.proofs.lemmas.Bool.Decides.{nat_tests}
use Rattle.job.specs.Number.{Numeral, number}
use Rattle.job.proofs.Texts.{Neat}

pub number_reads : (f : List ℕ) (n : ℕ) → number f ≡ Some n → Numeral n f
number_reads f n e = grind (arith, nat_tests)

pub numeral_number : (f : List ℕ) (n : ℕ) → Numeral n f → number f ≡ Some n
numeral_number f n h = grind (arith, nat_tests)

pub numeral_neat : (f : List ℕ) (n : ℕ) → Numeral n f → Neat f
numeral_neat f n h = grind (arith, nat_tests)
