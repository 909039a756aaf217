-- The window duty's codes say of every list what their law asks.
use Rattle.std.proofs.Common.{◌≡◌, ℕ, zero, suc, ◌+◌, ◌-◌, ◌<◌, ◌≤◌, min, true, false, ◌⊎◌, List, [], ◌∷◌, length, get_or, drop, sym, refl, ap, ◌∙◌, subst, inl, inr, ⊎_elim, arith, length-drop, get_or-drop}
use Rattle.std.proofs.lemmas.Bool.{cases_lt, both_ways, or_parts, false_from_ne_true}
use Rattle.game.specs.Parity.{Odd, is_even}
use Rattle.game.proofs.Parities.{odd_if}
use Rattle.meanings.specs.Window.{closed_below, is_closed, lowest, code_at, code_of_open, code}
use Rattle.meanings.specs.WindowCode.{ClosedFrom, AllClosed, EarliestOpen, WindowCode}
use Rattle.meanings.proofs.Earliest.{OpensAt, none_open, earliest, first_open}
use Rattle.meanings.proofs.Closings.{PartAt, closed_closes, closes_closed, lowest_le, lowest_odd}

-- ## Closed and open from a place on

rest_part : (ms : List ℕ) (i : ℕ) → PartAt (drop i ms) ms i
rest_part ms i k h = get_or-drop i ms k 0

from_closed : (ms : List ℕ) (i : ℕ) → ClosedFrom ms i → is_closed (drop i ms) ≡ true
from_closed ms i (l, under, c) = closes_closed (drop i ms) ms i (rest_part ms i) l (omega (arith, length-drop i ms)) c

closed_from : (ms : List ℕ) (i : ℕ) → i < length ms → is_closed (drop i ms) ≡ true → ClosedFrom ms i
closed_from ms i h t =
    let long = length-drop i ms in
    let r = closed_closes (drop i ms) ms i (rest_part ms i) (omega arith) t in
    (r.0, omega (arith, r.1), r.2)

from_unclosed : (ms : List ℕ) (i : ℕ) → i < length ms → (ClosedFrom ms i → ⊥) → is_closed (drop i ms) ≡ false
from_unclosed ms i h un = false_from_ne_true (is_closed (drop i ms)) (λ t. un (closed_from ms i h t))

-- ## The lowest mark

lowest_least : (low : ℕ) (ms : List ℕ) (k : ℕ) → k < length (low ∷ ms) → lowest low ms ≤ get_or (low ∷ ms) k 0
lowest_least low ms zero h = lowest_le low ms
lowest_least low [] (suc k) h = absurd (omega arith)
lowest_least low (m ∷ ms) (suc zero) h = omega (arith, lowest_le (min low m) ms)
lowest_least low (m ∷ ms) (suc (suc k)) h = lowest_least (min low m) ms (suc k) (omega arith)

lowest_seen : (low : ℕ) (ms : List ℕ) → (l : ℕ) × (l < length (low ∷ ms)) × (get_or (low ∷ ms) l 0 ≡ lowest low ms)
lowest_seen low ms = ⊎_elim (λ e. (0, omega arith, sym e)) (λ r. (suc r.0, omega (arith, r.1), r.2)) (first_or_later low ms)
  where
    first_or_later : (low : ℕ) (ms : List ℕ) → (lowest low ms ≡ low) ⊎ ((k : ℕ) × (k < length ms) × (get_or ms k 0 ≡ lowest low ms))
    first_or_later low [] = inl refl
    first_or_later low (m ∷ ms) =
        ⊎_elim
        (λ e. ⊎_elim (λ less. inl (omega arith)) (λ more. inr (0, omega arith, omega arith)) (cases_lt low m))
        (λ r. inr (suc r.0, omega (arith, r.1), r.2))
        (first_or_later (min low m) ms)

-- a mark that no other is below is the lowest one
lowest_same : (x : ℕ) (w : List ℕ) (low l : ℕ) → l < length (x ∷ w) → get_or (x ∷ w) l 0 ≡ low
    → ((k : ℕ) → k < length (x ∷ w) → low ≤ get_or (x ∷ w) k 0) → lowest x w ≡ low
lowest_same x w low l h is each = let r = lowest_seen x w in omega (arith, lowest_least x w l h, r.2, each r.0 r.1)

-- ## The law

module _ (b : ℕ) (ms : List ℕ) where
  -- the k-th mark from place i on
  at : (i : ℕ) (w : List ℕ) → drop i ms ≡ w → (k : ℕ) → get_or w k 0 ≡ get_or ms (i + k) 0
  at i w e k = sym (ap (λ (v : List ℕ). get_or v k 0) e) ∙ get_or-drop i ms k 0

  long : (i : ℕ) (w : List ℕ) → drop i ms ≡ w → length w ≡ length ms - i
  long i w e = sym (ap length e) ∙ length-drop i ms

  -- what the marks of the earliest open window tell
  reads : (i low : ℕ) → EarliestOpen ms i low → (w : List ℕ) → drop i ms ≡ w
      → (code_of_open b w ≡ code_at b low (length ms - i)) × Odd low
  reads i low o [] e = absurd (omega (arith, long i [] e))
  reads i low o (x ∷ w) e =
      let many = long i (x ∷ w) e in
      let l = o.seen.0 in
      let under = o.seen.1 in
      let same = lowest_same x w low l (omega arith) (at i (x ∷ w) e l ∙ o.seen.2) (λ k d. omega (arith, at i (x ∷ w) e k, o.least k (omega arith))) in
      let p = or_parts (is_even x) (closed_below x w) (sym (ap is_closed e) ∙ from_unclosed ms i o.within o.unclosed) in
      (cc, subst Odd same (odd_if (lowest x w) (lowest_odd x w p.0 p.1)))

  coded : (i low : ℕ) → EarliestOpen ms i low → code b ms ≡ code_at b low (length ms - i)
  coded i low o =
      ap (code_of_open b) (earliest is_closed ms i (o.within, from_unclosed ms i o.within o.unclosed, λ j d. from_closed ms j (o.first j d)))
      ∙ (reads i low o (drop i ms) refl).0

  -- an open place has a lowest mark
  found : (i : ℕ) → OpensAt is_closed ms i → (w : List ℕ) → drop i ms ≡ w → (low : ℕ) × EarliestOpen ms i low
  found i (h, f, each) [] e = absurd (omega (arith, long i [] e))
  found i (h, f, each) (x ∷ w) e =
      let many = long i (x ∷ w) e in
      let r = lowest_seen x w in
      let under = r.1 in (
        lowest x w,
        record {
          within = h;
          unclosed = λ c. both_ways (is_closed (drop i ms)) f (from_closed ms i c);
          first = λ j d. closed_from ms j (omega arith) (each j d);
          seen = (r.0, omega arith, sym (at i (x ∷ w) e r.0) ∙ r.2);
          least = λ k d. omega (arith, at i (x ∷ w) e k, lowest_least x w k (omega arith));
        },
      )

  cases : AllClosed ms ⊎ ((i : ℕ) × (low : ℕ) × EarliestOpen ms i low)
  cases =
      ⊎_elim
      (λ each. inl (λ i h. closed_from ms i h (each i h)))
      (λ r. let o = found r.0 r.1 (drop r.0 ms) refl in inr (r.0, o.0, o.1))
      (first_open is_closed ms)

  pub window_code : WindowCode b ms
  window_code = record {
    none = λ each. ap (code_of_open b) (none_open is_closed ms (λ i h. from_closed ms i (each i h)));
    none_only = λ zero_is. ⊎_elim (λ each. each) (λ r. absurd (omega (arith, coded r.0 r.1 r.2))) cases;
    earliest = coded;
    odd = λ i low o. (reads i low o (drop i ms) refl).1;
    short = λ i low o un. ⊎_elim (λ less. less) (λ more. absurd (un (i, omega arith, λ l within c. o.unclosed (l, omega arith, c)))) (cases_lt (length ms - i) b);
    either = cases;
  }
