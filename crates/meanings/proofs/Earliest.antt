-- The earliest open place as a list grows, and that the list has b open marks in a row exactly if it comes to b marks.
use Rattle.std.proofs.Common.{◌≡◌, ℕ, zero, suc, ◌+◌, ◌<◌, ◌≤◌, Bool, true, false, cond, ◌⊎◌, List, [], ◌∷◌, ◌++◌, length, take, drop, refl, inl, inr, ⊎_elim, arith, length-append, take-append-drop, take_all}
use Rattle.std.proofs.lemmas.List.{take-append-le, drop-append-le}
use Rattle.std.proofs.lemmas.Bool.{cases_Bool, cases_lt}
use Rattle.std.proofs.lemmas.Bool.Decides.{nat_tests}
use Rattle.std.proofs.lemmas.Grind.{common_steps}
use Rattle.meanings.specs.Open.{still_open}

-- b open marks in a row
abbrev pub HasOpen : (List ℕ → Bool) → ℕ → List ℕ → Type 0
HasOpen closed b ms = (i : ℕ) × (i + b ≤ length ms) × (closed (take b (drop i ms)) ≡ false)

-- every place of a list passes the test
abbrev pub NoneOpen : (List ℕ → Bool) → List ℕ → Type 0
NoneOpen closed ms = (i : ℕ) → i < length ms → closed (drop i ms) ≡ true

-- place i is the earliest that does not
abbrev pub OpensAt : (List ℕ → Bool) → List ℕ → ℕ → Type 0
OpensAt closed ms i = (i < length ms) × (closed (drop i ms) ≡ false) × ((j : ℕ) → j < i → closed (drop j ms) ≡ true)

-- one more mark closes every open place, or is one more mark of the earliest
abbrev pub after : (List ℕ → Bool) → List ℕ → ℕ → List ℕ
after closed w m = cond (closed (w ++ m ∷ [])) [] (w ++ m ∷ [])

module _ (closed : List ℕ → Bool) where
  -- the marks from the earliest open place on are open, and an end of the list
  pub is_open : (ms : List ℕ) (y : ℕ) (w : List ℕ) → still_open closed ms ≡ y ∷ w → closed (y ∷ w) ≡ false
  is_open [] y w e = cc
  is_open (x ∷ ms) y w e = grind (arith, nat_tests, is_open ms y w)

  pub in_list : (ms : List ℕ) → (i : ℕ) × (still_open closed ms ≡ drop i ms)
  in_list [] = (0, refl)
  in_list (x ∷ ms) =
      ⊎_elim
      (λ t. let r = in_list ms in (suc r.0, rw t r.1))
      (λ f. (0, rw f refl))
      (cases_Bool (closed (x ∷ ms)))

  pub none_open : (ms : List ℕ) → NoneOpen closed ms → still_open closed ms ≡ []
  none_open [] each = refl
  none_open (x ∷ ms) each = grind (arith, nat_tests, each 0, none_open ms (λ i l. each (suc i) (omega arith)))

  pub earliest : (ms : List ℕ) (i : ℕ) → OpensAt closed ms i → still_open closed ms ≡ drop i ms
  earliest [] i (l, f, each) = absurd (omega arith)
  earliest (x ∷ ms) zero (l, f, each) = grind (arith, nat_tests)
  earliest (x ∷ ms) (suc i) (l, f, each) = grind (arith, nat_tests, each 0, earliest ms i (omega arith, f, λ j h. each (suc j) (omega arith)))

  -- no place is open, or there is an earliest one
  pub first_open : (ms : List ℕ) → NoneOpen closed ms ⊎ ((i : ℕ) × OpensAt closed ms i)
  first_open [] = inl (λ i h. absurd (omega arith))
  first_open (x ∷ ms) =
      ⊎_elim
      (λ t. ⊎_elim (λ each. inl (shut t (length ms) each)) (λ r. inr (suc r.0, (omega (arith, r.1.0), r.1.1, shut t r.0 r.1.2))) (first_open ms))
      (λ f. inr (0, (omega arith, f, λ j h. absurd (omega arith))))
      (cases_Bool (closed (x ∷ ms)))
    where
      shut : closed (x ∷ ms) ≡ true → (n : ℕ) → ((i : ℕ) → i < n → closed (drop i ms) ≡ true) → (i : ℕ) → i < suc n
          → closed (drop i (x ∷ ms)) ≡ true
      shut t n each zero h = t
      shut t n each (suc i) h = each i (omega arith)

  open_long : (ms : List ℕ) (b i : ℕ) → i + b ≡ length ms → closed (drop i ms) ≡ false → b ≤ length (still_open closed ms)
  open_long [] b i e f = omega arith
  open_long (x ∷ ms) b zero e f = grind (arith, nat_tests)
  open_long (x ∷ ms) b (suc i) e f = grind (arith, nat_tests, open_long ms b i)

  module _ (keeps : (x : ℕ) (ms ns : List ℕ) → closed (x ∷ ms) ≡ true → closed (x ∷ ms ++ ns) ≡ true) where
    -- an open window was open all along
    front_open : (x : ℕ) (ms : List ℕ) (b : ℕ) → 1 ≤ b → closed (x ∷ ms) ≡ false → closed (take b (x ∷ ms)) ≡ false
    front_open x ms zero some f = absurd (omega arith)
    front_open x ms (suc n) some f = grind (arith, nat_tests, take-append-drop, keeps x (take n ms) (drop n ms))

    pub long_open : (ms : List ℕ) (b : ℕ) → 1 ≤ b → b ≤ length (still_open closed ms) → HasOpen closed b ms
    long_open [] b some l = absurd (omega arith)
    long_open (x ∷ ms) b some l =
        ⊎_elim
        (λ t. let r = long_open ms b some (rw t at l) in (suc r.0, omega (arith, r.1), r.2))
        (λ f. (0, omega (arith, rw f at l), front_open x ms b some f))
        (cases_Bool (closed (x ∷ ms)))

    -- in a list without b open marks in a row, one more mark makes them exactly if the earliest open place comes to b marks
    pub new_open : (ms : List ℕ) (m b : ℕ) → (HasOpen closed b ms → ⊥) → HasOpen closed b (ms ++ m ∷ [])
        → b ≤ length (still_open closed (ms ++ m ∷ []))
    new_open ms m b un (i, l, f) =
        let all = length-append ms (m ∷ []) in
        ⊎_elim
        (λ top. absurd (un (i, omega arith, old top)))
        (λ here. open_long (ms ++ m ∷ []) b i (omega arith) (ends (omega arith)))
        (cases_lt (i + b) (suc (length ms)))
      where
        old : i + b < suc (length ms) → closed (take b (drop i ms)) ≡ false
        old h = grind (arith, common_steps, take-append-le b (drop i ms) (m ∷ []), drop-append-le i ms (m ∷ []))

        ends : i + b ≡ length (ms ++ m ∷ []) → closed (drop i (ms ++ m ∷ [])) ≡ false
        ends h = grind (arith, common_steps, take_all b (drop i (ms ++ m ∷ [])))

    module _ (together : (x : ℕ) (ms : List ℕ) (m : ℕ) → closed (x ∷ ms) ≡ false → closed (x ∷ ms ++ m ∷ []) ≡ true → still_open closed (ms ++ m ∷ []) ≡ []) where
      pub grows : (ms : List ℕ) (m : ℕ) → still_open closed (ms ++ m ∷ []) ≡ after closed (still_open closed ms) m
      grows [] m = refl
      grows (x ∷ ms) m = grind (arith, nat_tests, keeps x ms (m ∷ []), together x ms m, grows ms m)
