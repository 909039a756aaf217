-- The tests of parity by the remainder of halving tell what the words say.
use Rattle.std.proofs.Common.{◌≡◌, ℕ, ◌/◌, ◌%◌, true, false, not, ap, arith}
use Rattle.std.proofs.lemmas.Bool.{eqb-true, eqb-false, eq-eqb, ne_eqb, not-true, not-false}
use Rattle.game.specs.Parity.{Even, Odd, is_even, is_odd, TellsOdd}

pub even_if : (m : ℕ) → is_even m ≡ true → Even m
even_if m is = let rest = eqb-true (m % 2) 0 is in (m / 2, omega arith)

pub even_only : (m : ℕ) → Even m → is_even m ≡ true
even_only m (k, twice) = eq-eqb (m % 2) 0 (omega arith)

pub odd_if : (m : ℕ) → is_even m ≡ false → Odd m
odd_if m is k twice = let rest = eqb-false (m % 2) 0 is in rest (omega arith)

pub odd_only : (m : ℕ) → Odd m → is_even m ≡ false
odd_only m odd = ne_eqb (m % 2) 0 (λ none. odd (m / 2) (omega arith))

pub tells_odd : (m : ℕ) → TellsOdd m (is_odd m)
tells_odd m = record {
  odd_if = λ is. odd_if m (not-true (is_even m) is);
  odd_only = λ odd. ap not (odd_only m odd);
  even_if = λ is. even_if m (not-false (is_even m) is);
  even_only = λ even. ap not (even_only m even);
}
