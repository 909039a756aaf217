-- What closes a window: the test by recursion tells what the quantifiers say, and how it goes on with one more mark.
use Rattle.std.proofs.Common.{◌≡◌, ℕ, zero, suc, ◌+◌, ◌<◌, ◌≤◌, min, true, false, ◌||◌, List, [], ◌∷◌, ◌++◌, length, get_or, take, drop, sym, refl, ◌∙◌, subst, ⊎_elim, arith, length-drop, length-take-le, get_or-drop, get_or-take}
use Rattle.std.proofs.lemmas.Bool.{both_ways, or_cases, false_from_ne_true}
use Rattle.game.specs.Parity.{Even, is_even}
use Rattle.game.proofs.Parities.{even_if, even_only}
use Rattle.std.proofs.lemmas.Bool.Decides.{nat_tests}
use Rattle.std.proofs.lemmas.Grind.{common_steps}
use Rattle.meanings.specs.Open.{still_open}
use Rattle.meanings.specs.Window.{Closes, Breaks, closes_at, closed_below, is_closed, lowest}
use Rattle.meanings.proofs.Earliest.{HasOpen}

-- ## The test and the quantifiers

-- no mark up to the one at place l is smaller than it
abbrev pub Least : List ℕ → ℕ → Type 0
Least w l = (k : ℕ) → k ≤ l → get_or w l 0 ≤ get_or w k 0

-- the mark at place l closes a window whose lowest mark before them is low
abbrev Closing : ℕ → List ℕ → ℕ → Type 0
Closing low w l = Even (get_or w l 0) × (get_or w l 0 ≤ low) × Least w l

least_first : (x : ℕ) (ms : List ℕ) → Least (x ∷ ms) 0
least_first x ms k h = grind (arith, common_steps)

least_later : (x : ℕ) (ms : List ℕ) (l : ℕ) → get_or ms l 0 ≤ x → Least ms l → Least (x ∷ ms) (suc l)
least_later x ms l h each k b = grind (arith, common_steps)

finds : (low : ℕ) (ms : List ℕ) → closed_below low ms ≡ true → (l : ℕ) × (l < length ms) × Closing low ms l
finds low [] e = cc
finds low (x ∷ ms) e =
    ⊎_elim
    (λ here. (0, omega arith, (grind (arith, nat_tests, even_if x), grind (arith, nat_tests), least_first x ms)))
    (λ there. let r = finds (min low x) ms there in let h = r.2.1 in (suc r.0, omega (arith, r.1), (r.2.0, omega arith, least_later x ms r.0 (omega arith) r.2.2)))
    (or_cases (closes_at low x) (closed_below (min low x) ms) e)

found : (low : ℕ) (ms : List ℕ) (l : ℕ) → l < length ms → Closing low ms l → closed_below low ms ≡ true
found low [] l h c = absurd (omega arith)
found low (x ∷ ms) zero h c = grind (arith, nat_tests, even_only x c.0)
found low (x ∷ ms) (suc l) h c =
    let first = c.2 0 (omega arith) in
    let under = c.1 in
    grind (arith, nat_tests, found (min low x) ms l (omega arith) (c.0, omega arith, λ k b. c.2 (suc k) (omega arith)))

-- the first mark may be counted as one before itself
first_below : (x : ℕ) (ms : List ℕ) → is_closed (x ∷ ms) ≡ closed_below x (x ∷ ms)
first_below x ms = grind (arith, nat_tests)

-- the marks of w are those of ms from place i on
abbrev pub PartAt : List ℕ → List ℕ → ℕ → Type 0
PartAt w ms i = (k : ℕ) → k < length w → get_or w k 0 ≡ get_or ms (i + k) 0

pub closed_closes : (w ms : List ℕ) (i : ℕ) → PartAt w ms i → 0 < length w → is_closed w ≡ true → (l : ℕ) × (l < length w) × Closes ms i l
closed_closes [] ms i at h e = absurd (omega arith)
closed_closes (x ∷ w) ms i at h e =
    let r = finds x (x ∷ w) (sym (first_below x w) ∙ e) in
    let within = r.1 in
    (r.0, r.1, (subst Even (at r.0 r.1) r.2.0, λ k d. omega (arith, at r.0 r.1, at k (omega arith), r.2.2 k d)))

pub closes_closed : (w ms : List ℕ) (i : ℕ) → PartAt w ms i → (l : ℕ) → l < length w → Closes ms i l → is_closed w ≡ true
closes_closed [] ms i at l h c = absurd (omega arith)
closes_closed (x ∷ w) ms i at l h c =
    let least : Least (x ∷ w) l = λ k d. omega (arith, at l h, at k (omega arith), c.1 k d) in
    first_below x w ∙ found x (x ∷ w) l h (subst Even (sym (at l h)) c.0, least 0 (omega arith), least)

-- the window of b marks from place i on
window_part : (b i : ℕ) (ms : List ℕ) → i + b ≤ length ms → (length (take b (drop i ms)) ≡ b) × PartAt (take b (drop i ms)) ms i
window_part b i ms h =
    let long = length-take-le b (drop i ms) (omega (arith, length-drop i ms)) in
    (long, λ k d. get_or-take b (drop i ms) k 0 (omega arith) ∙ get_or-drop i ms k 0)

pub breaks_open : (b : ℕ) → 1 ≤ b → (ms : List ℕ) → Breaks b ms → HasOpen is_closed b ms
breaks_open b some ms (i, h, none) =
    let w = window_part b i ms h in (
      i,
      h,
      false_from_ne_true (is_closed (take b (drop i ms))) (λ t.
          let r = closed_closes (take b (drop i ms)) ms i w.1 (omega (arith, w.0)) t in
          none r.0 (omega (arith, w.0, r.1)) r.2),
    )

pub open_breaks : (b : ℕ) (ms : List ℕ) → HasOpen is_closed b ms → Breaks b ms
open_breaks b ms (i, h, f) =
    let w = window_part b i ms h in
    (i, h, λ l within c. both_ways (is_closed (take b (drop i ms))) f (closes_closed (take b (drop i ms)) ms i w.1 l (omega (arith, w.0)) c))

-- ## One more mark

closed_snoc : (low : ℕ) (ms : List ℕ) (m : ℕ)
    → closed_below low (ms ++ m ∷ []) ≡ (closed_below low ms || closes_at (lowest low ms) m)
closed_snoc low [] m = grind (arith, nat_tests)
closed_snoc low (x ∷ ms) m = grind (arith, nat_tests, closed_snoc (min low x) ms m)

pub window_snoc : (x : ℕ) (ms : List ℕ) (m : ℕ) → is_closed (x ∷ ms ++ m ∷ []) ≡ (is_closed (x ∷ ms) || closes_at (lowest x ms) m)
window_snoc x ms m = grind (arith, nat_tests, closed_snoc x ms m)

closed_keeps : (low : ℕ) (ms ns : List ℕ) → closed_below low ms ≡ true → closed_below low (ms ++ ns) ≡ true
closed_keeps low [] ns e = cc
closed_keeps low (x ∷ ms) ns e = grind (arith, nat_tests, closed_keeps (min low x) ms ns)

pub keeps : (x : ℕ) (ms ns : List ℕ) → is_closed (x ∷ ms) ≡ true → is_closed (x ∷ ms ++ ns) ≡ true
keeps x ms ns e = grind (arith, nat_tests, closed_keeps x ms ns)

pub lowest_le : (low : ℕ) (ms : List ℕ) → lowest low ms ≤ low
lowest_le low [] = omega arith
lowest_le low (m ∷ ms) = omega (arith, lowest_le (min low m) ms)

lowest_mono : (a c : ℕ) (ms : List ℕ) → a ≤ c → lowest a ms ≤ lowest c ms
lowest_mono a c [] h = h
lowest_mono a c (m ∷ ms) h = lowest_mono (min a m) (min c m) ms (omega arith)

pub lowest_snoc : (low : ℕ) (ms : List ℕ) (m : ℕ) → lowest low (ms ++ m ∷ []) ≡ min (lowest low ms) m
lowest_snoc low [] m = refl
lowest_snoc low (x ∷ ms) m = lowest_snoc (min low x) ms m

-- the lowest mark of an open window is odd
pub lowest_odd : (low : ℕ) (ms : List ℕ) → is_even low ≡ false → closed_below low ms ≡ false → is_even (lowest low ms) ≡ false
lowest_odd low [] odd e = odd
lowest_odd low (m ∷ ms) odd e = grind (arith, nat_tests, lowest_odd (min low m) ms)

-- what closes a window closes all later ones
all_close : (x : ℕ) (ms : List ℕ) (m : ℕ) → is_even m ≡ true → m ≤ lowest x ms → still_open is_closed (ms ++ m ∷ []) ≡ []
all_close x [] m e h = grind (arith, nat_tests)
all_close x (y ∷ ms) m e h =
    let low = lowest_mono (min x y) y ms (omega arith) in
    grind (arith, nat_tests, window_snoc y ms m, all_close y ms m)

pub together : (x : ℕ) (ms : List ℕ) (m : ℕ) → is_closed (x ∷ ms) ≡ false → is_closed (x ∷ ms ++ m ∷ []) ≡ true
    → still_open is_closed (ms ++ m ∷ []) ≡ []
together x ms m f t = grind (arith, nat_tests, window_snoc x ms m, all_close x ms m)
