-- A line ends at the first LF, if one comes in time.
use Rattle.std.proofs.Common.{◌≡◌, ℕ, ◌+◌, ◌-◌, ◌<◌, ◌≤◌, ◌==◌, true, not, List, length, take, drop, position, Some, None, sym, ap, Option, get_or, eqb, ◌∙◌, arith, take-append-drop, length-take}
use Rattle.std.proofs.lemmas.Bool.Decides.{nat_tests}
use Rattle.std.proofs.lemmas.Bool.{eqb-true, not_from_false}
use Rattle.std.proofs.lemmas.List.{drop_more, take_all, take_rest, get_or-take}
use Rattle.std.proofs.lemmas.List.Sums.{list_all-from_AllPass, fails_before_first}
use Rattle.std.proofs.lemmas.List.Quantifiers.{position-Some}
use Rattle.job.specs.Text.{line_end, line_limit, torn, long, lines, lacks}
use Rattle.job.specs.Cutting.{CutOff}
use Rattle.job.proofs.Cuts.{lines_line, lines_torn, lines_long}

module _ (text : List ℕ) where
  -- where the end of a line may stand
  abbrev front : List ℕ
  front = take (line_limit + 1) text

  abbrev first : Option ℕ
  first = position (λ b. b == line_end) front

  pub cut_at : (e : ℕ) → first ≡ Some e → CutOff text (take e text) (take (length text - (e + 1)) (drop (e + 1) text))
  cut_at e is =
      let at = position-Some (λ b. b == line_end) front e 0 is in
      let within : (e ≤ line_limit) × (e < length text) = (omega (arith, simp length-take at at.0), omega (arith, simp length-take at at.0)) in
      let byte : get_or text e 0 ≡ line_end = sym (get_or-take (line_limit + 1) text e 0 (omega arith)) ∙ eqb-true (get_or front e 0) line_end at.1 in
      let clean : lacks line_end (take e text) ≡ true = list_all-from_AllPass (λ b. not (b == line_end)) (take e text) (λ k d l.
      let before : k < e = omega (arith, simp length-take at l) in
      let same = get_or-take e text k d before ∙ sym (get_or-take (line_limit + 1) text k d (omega arith)) in
      not_from_false (eqb (get_or (take e text) k d) line_end) (ap (λ (x : ℕ). eqb x line_end) same ∙ (position-Some (λ b. b == line_end) front e d is).2 k before)) in
      grind (arith, take-append-drop e text, drop_more text e 0 within.1, take_rest text (e + 1), byte, lines_line (take e text) (take (length text - (e + 1)) (drop (e + 1) text)) (clean, simp length-take (omega arith)))

  no_end : first ≡ None → lacks line_end front ≡ true
  no_end is =
      list_all-from_AllPass (λ b. not (b == line_end)) front (λ k d l. not_from_false (eqb (get_or front k d) line_end) (fails_before_first (λ b. b == line_end) front k d (grind (arith, nat_tests))))

  pub too_long : first ≡ None → line_limit < length text → lines text ≡ long
  too_long is h = ap lines (sym (take-append-drop (line_limit + 1) text)) ∙ lines_long front (drop (line_limit + 1) text) (no_end is) (simp length-take (omega arith))

  pub not_ended : first ≡ None → length text ≤ line_limit → 0 < length text → lines text ≡ torn
  not_ended is h some =
      let same : front ≡ text = take_all (line_limit + 1) text (omega arith) in
      lines_torn text (rw same at (no_end is), h) some
