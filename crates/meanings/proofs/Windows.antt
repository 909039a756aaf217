-- The window duty is lawful.
use Rattle.std.proofs.Common.{◌≡◌, ℕ, ◌+◌, ◌-◌, ◌/◌, ◌<◌, ◌≤◌, min, false, cond, ltb, List, [], ◌∷◌, ◌++◌, length, drop, Some, None, Option, sym, refl, ap, ◌∙◌, subst, arith, length-append}
use Rattle.std.proofs.Math.ListN.{get_or-append}
use Rattle.std.proofs.lemmas.Bool.{or_parts, ltb-true, ltb-false}
use Rattle.std.proofs.lemmas.Bool.Decides.{nat_tests}
use Rattle.std.proofs.lemmas.Grind.{common_steps}
use Rattle.std.proofs.lemmas.Nat.{mul-add-lt, div-mul-add, mod-mul-add}
use Rattle.game.specs.Parity.{Even, is_even}
use Rattle.game.specs.Rule.{Lawful, Marks}
use Rattle.meanings.specs.Open.{still_open}
use Rattle.meanings.specs.Window.{WindowLimits, Breaks, closed_below, is_closed, lowest, code_at, code_of_open, code, codes, low_of, count_of, moved, step, window}
use Rattle.meanings.proofs.Earliest.{is_open, in_list, long_open, new_open, after, grows}
use Rattle.meanings.proofs.Closings.{breaks_open, open_breaks, window_snoc, keeps, together, lowest_le, lowest_snoc, lowest_odd}
use Rattle.meanings.proofs.Follows.{Follows, follows_breaks, follows_on}

-- ## Codes

-- 16, above every mark, where no window is open
abbrev lowest_of : List ℕ → ℕ
lowest_of [] = 16
lowest_of (x ∷ w) = lowest x w

-- the lowest mark of an open window is an odd mark
abbrev Fair : List ℕ → Type 0
Fair [] = Unit
Fair (x ∷ w) = (is_even (lowest x w) ≡ false) × (lowest x w ≤ 15)

-- a code gives back the lowest mark and the number of marks that it was made of
low_back : (b : ℕ) (w : List ℕ) → Fair w → length w < b → low_of b (code_of_open b w) ≡ lowest_of w
low_back b [] fair h = refl
low_back b (x ∷ w) fair h = grind (arith, nat_tests, div-mul-add ((lowest x w - 1) / 2) (b - 1) (length (x ∷ w) - 1))

count_back : (b : ℕ) (w : List ℕ) → length w < b → count_of b (code_of_open b w) ≡ length w
count_back b [] h = refl
count_back b (x ∷ w) h = grind (arith, nat_tests, mod-mul-add ((lowest x w - 1) / 2) (b - 1) (length (x ∷ w) - 1))

pub code_below : (b low k : ℕ) → low ≤ 15 → 1 ≤ k → k < b → code_at b low k < codes b
code_below b low k h some less = omega (arith, mul-add-lt ((low - 1) / 2) (b - 1) (k - 1) 8 (omega arith) (omega arith))

open_below : (b : ℕ) (w : List ℕ) → Fair w → length w < b → code_of_open b w < codes b
open_below b [] fair h = omega arith
open_below b (x ∷ w) fair h = code_below b (lowest x w) (length (x ∷ w)) fair.1 (omega arith) h

-- the step reads the code rightly
step_reads : (b : ℕ) (w : List ℕ) (m : ℕ) → Fair w → length w < b → m ≤ 15
    → step b (code_of_open b w) m ≡ moved b (lowest_of w) (length w) m
step_reads b w m fair h most = grind (arith, nat_tests, open_below b w, low_back b w, count_back b w)

-- what the step should answer, by the earliest open window of the longer list
abbrev answer : ℕ → List ℕ → Option ℕ
answer b v = cond (ltb (length v) b) (Some (code_of_open b v)) None

moves_right : (b : ℕ) → 1 ≤ b → (w : List ℕ) (m : ℕ) → m ≤ 15
    → ((x : ℕ) (v : List ℕ) → w ≡ x ∷ v → is_closed (x ∷ v) ≡ false)
    → moved b (lowest_of w) (length w) m ≡ answer b (after is_closed w m)
moves_right b some [] m most unclosed = grind (arith, nat_tests)
moves_right b some (x ∷ w) m most unclosed = grind (arith, common_steps, window_snoc x w m, lowest_snoc x w m, unclosed x w)

-- ## The four facts

module _ (b : ℕ) (limits : WindowLimits b) where
  fair : (ms : List ℕ) → Marks ms → Fair (still_open is_closed ms)
  fair ms fit = marks (still_open is_closed ms) refl
    where
      marks : (w : List ℕ) → still_open is_closed ms ≡ w → Fair w
      marks [] e = tt
      marks (x ∷ w) e =
          let p = or_parts (is_even x) (closed_below x w) (is_open is_closed ms x w e) in
          let r = in_list is_closed ms in
          let from : x ∷ w ≡ drop r.0 ms = sym e ∙ r.1 in
          (lowest_odd x w p.0 p.1, grind (arith, common_steps, from, fit r.0, lowest_le x w))

  -- a list whose earliest open window has come to b marks is broken ..
  long_breaks : (ms : List ℕ) → b ≤ length (still_open is_closed ms) → Breaks b ms
  long_breaks ms long = open_breaks b ms (long_open is_closed keeps ms b limits.0 long)

  -- .. and so stands every list that one more mark breaks
  breaks_long : (ms : List ℕ) (m : ℕ) → (Breaks b ms → ⊥) → Breaks b (ms ++ m ∷ []) → b ≤ length (still_open is_closed (ms ++ m ∷ []))
  breaks_long ms m un broke = new_open is_closed keeps ms m b (λ h. un (open_breaks b ms h)) (breaks_open b limits.0 (ms ++ m ∷ []) broke)

  steps : (ms : List ℕ) (m : ℕ) → Marks ms → m ≤ 15 → (Breaks b ms → ⊥) → step b (code b ms) m ≡ answer b (still_open is_closed (ms ++ m ∷ []))
  steps ms m fit small un =
      let w = still_open is_closed ms in
      let short : length w < b = grind (arith, long_breaks ms) in
      step_reads b w m (fair ms fit) short small
      ∙ moves_right b limits.0 w m small (is_open is_closed ms)
      ∙ ap (answer b) (sym (grows is_closed keeps together ms m))

  follows : (ms : List ℕ) (m : ℕ) → Marks ms → m ≤ 15 → (Breaks b ms → ⊥) → Follows (window b) ms m
  follows ms m fit small un =
      let v : List ℕ = still_open is_closed (ms ++ m ∷ []) in
      record {
        test = ltb (length v) b;
        steps = steps ms m fit small un;
        whole = λ t broke. omega (arith, ltb-true (length v) b t, breaks_long ms m un broke);
        broken = λ t. long_breaks (ms ++ m ∷ []) (ltb-false (length v) b t);
      }

  longer : (ms ns : List ℕ) → Breaks b ms → Breaks b (ms ++ ns)
  longer ms ns (i, h, none) =
      let long = length-append ms ns in (
        i,
        omega arith,
        λ l within c.
            let at = get_or-append ms ns 0 (i + l) (omega arith) in
            none l within (subst Even at c.0, λ k d. omega (arith, at, get_or-append ms ns 0 (i + k) (omega arith), c.1 k d)),
      )

  settled : (c m e : ℕ) → step b c m ≡ Some e → (c < codes b) × (m ≤ 15) × (e < codes b)
  settled c m e is = grind (arith, nat_tests, code_below b (min (low_of b c) m) (count_of b c + 1))

  pub window_lawful : Lawful (window b)
  window_lawful = record {
    some = omega arith;
    most = omega arith;
    begins = omega arith;
    empty_unbroken = λ broke. omega (arith, broke.1);
    empty_code = refl;
    longer = λ ms ns fit broke. longer ms ns broke;
    breaks = λ ms m fit small un is. follows_breaks (window b) ms m (follows ms m fit small un) is;
    goes_on = λ ms m c fit small un is. follows_on (window b) ms m c (follows ms m fit small un) is;
    settled = settled;
  }
