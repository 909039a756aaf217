-- What is found among the numbers that a function gives in a range: the first place of one, and the smallest above 0.
use Rattle.std.proofs.Common.{◌≡◌, ℕ, zero, suc, ◌+◌, ◌<◌, ◌≤◌, min, ◌⊎◌, inl, inr, true, false, not, eqb, List, ◌∷◌, map, Option, Some, None, sym, refl, ap, ◌∙◌, subst, ⊎_elim, arith}
use Rattle.std.specs.Prelude.{MatchOption, filter, find, ◌≢◌}
use Rattle.std.specs.List.{fold, reduce, range_with_len}
use Rattle.std.proofs.lemmas.Bool.{cond-true, cond-false, cases_Bool, cases_lt, eqb-true, eqb-false}
use Rattle.std.proofs.Math.Nat.{min-eq_left, min-eq_right}

-- a place from a on is a later one, or a itself
later_or_here : (a k : ℕ) → a ≤ k → (a + 1 ≤ k) ⊎ (k ≡ a)
later_or_here a k la = ⊎_elim (λ later. inl (omega arith)) (λ not_later. inr (omega arith)) (cases_lt a k)

module _ (ahead : ℕ → ℕ) where
  -- what o says of the places from a up to z that give n
  abbrev Finds : ℕ → ℕ → ℕ → Option ℕ → Type 0
  Finds n a z o = MatchOption o
      ((k : ℕ) → a ≤ k → k < z → ahead k ≢ n)
      (λ k. (k < z) × (ahead k ≡ n) × ((j : ℕ) → a ≤ j → j < k → ahead j ≢ n))

  finds_more : (n a z : ℕ) (o : Option ℕ) → ahead a ≢ n → Finds n (a + 1) z o → Finds n a z o
  finds_more n a z None not_here is = λ k la lz.
      ⊎_elim (λ later. is k later lz) (λ here. λ at. not_here (sym (ap ahead here) ∙ at)) (later_or_here a k la)
  finds_more n a z (Some k) not_here (within, found, first) = (
    within,
    found,
    λ j la lj. ⊎_elim (λ later. first j later lj) (λ here. λ at. not_here (sym (ap ahead here) ∙ at)) (later_or_here a j la),
  )

  finds : (n a m z : ℕ) → a + m ≡ z → Finds n a z (find (λ k. eqb (ahead k) n) (range_with_len a m))
  finds n a zero z to = λ k la lz. absurd (omega arith)
  finds n a (suc m) z to =
      ⊎_elim
      (λ here.
      subst (Finds n a z) (sym (cond-true (eqb (ahead a) n) (Some a) (find (λ k. eqb (ahead k) n) (range_with_len (a + 1) m)) here))
      (omega arith, eqb-true (ahead a) n here, λ j la lj. absurd (omega arith)))
      (λ not_here.
      subst (Finds n a z) (sym (cond-false (eqb (ahead a) n) (Some a) (find (λ k. eqb (ahead k) n) (range_with_len (a + 1) m)) not_here))
      (finds_more n a z _ (eqb-false (ahead a) n not_here) (finds n (a + 1) m z (omega arith))))
      (cases_Bool (eqb (ahead a) n))

  -- those above 0 of the numbers at n places, from a on
  abbrev some : ℕ → ℕ → List ℕ
  some a n = filter (λ x. not (eqb x 0)) (map ahead (range_with_len a n))

  some_not : (a n : ℕ) → eqb (ahead a) 0 ≡ true → some a (suc n) ≡ some (a + 1) n
  some_not a n none = cond-false (not (eqb (ahead a) 0)) (ahead a ∷ some (a + 1) n) (some (a + 1) n) (ap not none)

  some_here : (a n : ℕ) → eqb (ahead a) 0 ≡ false → some a (suc n) ≡ ahead a ∷ some (a + 1) n
  some_here a n is = cond-true (not (eqb (ahead a) 0)) (ahead a ∷ some (a + 1) n) (some (a + 1) n) (ap not is)

  -- r is the smallest of b and those above 0 from place a up to place z
  record Smallest (a z b r : ℕ) : Type 0 where
    least : r ≤ b
    below : (k : ℕ) → a ≤ k → k < z → 0 < ahead k → r ≤ ahead k
    seen : (r ≡ b) ⊎ ((k : ℕ) × (a ≤ k) × (k < z) × (0 < ahead k) × (ahead k ≡ r))

  min_one : (b x : ℕ) → (min b x ≡ b) ⊎ (min b x ≡ x)
  min_one b x = ⊎_elim (λ low. inl (min-eq_left (omega arith))) (λ high. inr (min-eq_right (omega arith))) (cases_lt b x)

  fold_smallest : (a n b : ℕ) → Smallest a (a + n) b (fold min b (some a n))
  fold_smallest a zero b = record { least = omega arith; below = λ k la lz. absurd (omega arith); seen = inl refl }
  fold_smallest a (suc n) b =
      ⊎_elim
      (λ none.
      let rest = fold_smallest (a + 1) n b in
      let zero_here = eqb-true (ahead a) 0 none in
      subst (λ (xs : List ℕ). Smallest a (a + suc n) b (fold min b xs)) (sym (some_not a n none)) (record {
        least = rest.least;
        below = λ k la lz above. ⊎_elim (λ later. rest.below k (omega arith) (omega arith) above) (λ here. absurd (omega (arith, zero_here, ap ahead here))) (later_or_here a k la);
        seen = ⊎_elim inl (λ at. inr (at.0, omega (arith, at.1), omega (arith, at.2), at.3, at.4)) rest.seen;
      }))
      (λ is.
      let x = ahead a in
      let rest = fold_smallest (a + 1) n (min b x) in
      let above_here = eqb-false x 0 is in
      subst (λ (xs : List ℕ). Smallest a (a + suc n) b (fold min b xs)) (sym (some_here a n is)) (record {
        least = omega (arith, rest.least);
        below = λ k la lz above. ⊎_elim (λ later. rest.below k (omega arith) (omega arith) above) (λ here. omega (arith, rest.least, ap ahead here)) (later_or_here a k la);
        seen = ⊎_elim
            (λ low. ⊎_elim (λ b_is. inl (low ∙ b_is)) (λ x_is. inr (a, omega arith, omega arith, omega (arith, above_here), sym (low ∙ x_is))) (min_one b x))
            (λ at. inr (at.0, omega (arith, at.1), omega (arith, at.2), at.3, at.4)) rest.seen;
      }))
      (cases_Bool (eqb (ahead a) 0))

  -- what o says of those above 0 from place a up to place z
  abbrev Tells : ℕ → ℕ → Option ℕ → Type 0
  Tells a z o = MatchOption o
      ((k : ℕ) → a ≤ k → k < z → ahead k ≡ 0)
      (λ r. (0 < r) × ((k : ℕ) × (k < z) × (ahead k ≡ r)) × ((k : ℕ) → a ≤ k → k < z → 0 < ahead k → r ≤ ahead k))

  tells_more : (a z : ℕ) (o : Option ℕ) → ahead a ≡ 0 → Tells (a + 1) z o → Tells a z o
  tells_more a z None none is = λ k la lz.
      ⊎_elim (λ later. is k (omega arith) lz) (λ here. ap ahead here ∙ none) (later_or_here a k la)
  tells_more a z (Some r) none (above, seen, least) = (
    above,
    seen,
    λ k la lz some. ⊎_elim (λ later. least k (omega arith) lz some) (λ here. absurd (omega (arith, ap ahead here))) (later_or_here a k la),
  )

  smallest : (a n z : ℕ) → a + n ≡ z → Tells a z (reduce min (some a n))
  smallest a zero z to = λ k la lz. absurd (omega arith)
  smallest a (suc n) z to =
      ⊎_elim
      (λ none.
      subst (λ (xs : List ℕ). Tells a z (reduce min xs)) (sym (some_not a n none))
      (tells_more a z (reduce min (some (a + 1) n)) (eqb-true (ahead a) 0 none) (smallest (a + 1) n z (omega arith))))
      (λ is.
      let rest = fold_smallest (a + 1) n (ahead a) in
      let above = eqb-false (ahead a) 0 is in
      subst (λ (xs : List ℕ). Tells a z (reduce min xs)) (sym (some_here a n is)) (
        ⊎_elim (λ same. omega (arith, above)) (λ at. omega (arith, at.3, at.4)) rest.seen,
        ⊎_elim (λ same. (a, omega arith, sym same)) (λ at. (at.0, omega (arith, at.2), at.4)) rest.seen,
        λ k la lz some. ⊎_elim (λ later. rest.below k (omega arith) (omega arith) some) (λ here. omega (arith, rest.least, ap ahead here)) (later_or_here a k la),
      ))
      (cases_Bool (eqb (ahead a) 0))

-- the first number of n places that gives x, and the smallest above 0, are what they are called
pub first_none : (ahead : ℕ → ℕ) (n x : ℕ) → find (λ k. eqb (ahead k) x) (range_with_len 0 n) ≡ None → (k : ℕ) → k < n → ahead k ≢ x
first_none ahead n x is k lk = subst (Finds ahead x 0 n) is (finds ahead x 0 n n (omega arith)) k (omega arith) lk

pub first_some : (ahead : ℕ → ℕ) (n x k : ℕ) → find (λ j. eqb (ahead j) x) (range_with_len 0 n) ≡ Some k
    → (k < n) × (ahead k ≡ x) × ((j : ℕ) → j < k → ahead j ≢ x)
first_some ahead n x k is =
    let found = subst (Finds ahead x 0 n) is (finds ahead x 0 n n (omega arith)) in
    (found.0, found.1, λ j lj. found.2 j (omega arith) lj)

pub smallest_none : (ahead : ℕ → ℕ) (n : ℕ) → reduce min (some ahead 0 n) ≡ None → (k : ℕ) → k < n → ahead k ≡ 0
smallest_none ahead n is k lk = subst (Tells ahead 0 n) is (smallest ahead 0 n n (omega arith)) k (omega arith) lk

pub smallest_some : (ahead : ℕ → ℕ) (n x : ℕ) → reduce min (some ahead 0 n) ≡ Some x
    → (0 < x) × ((k : ℕ) × (k < n) × (ahead k ≡ x)) × ((k : ℕ) → k < n → 0 < ahead k → x ≤ ahead k)
smallest_some ahead n x is =
    let told = subst (Tells ahead 0 n) is (smallest ahead 0 n n (omega arith)) in
    (told.0, told.1, λ k lk some. told.2 k (omega arith) lk some)
