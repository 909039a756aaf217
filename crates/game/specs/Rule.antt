-- What a duty means: an objective that is broken after finitely many marks (a safety objective), and the codes by
-- which it follows a list of marks (the states of a monitor for it).
use Rattle.std.specs.Prelude.{◌≡◌, ℕ, ◌<◌, ◌≤◌, List, [], ◌∷◌, ◌++◌, length, Some, None, Option, slice_index}

pub record Rule : Type 1 where
  -- how many codes there are; they are numbered from 0
  pub codes : ℕ
  pub start : ℕ
  -- the lists of marks that are broken (bad prefixes)
  pub Breaks : List ℕ → Type 0
  -- the code of an unbroken list
  pub code : List ℕ → ℕ
  -- the step from a code on a mark: the next code, or None, which says broken
  pub step : ℕ → ℕ → Option ℕ

-- a list of marks from 0 to 15
abbrev pub Marks : List ℕ → Type 0
Marks ms = (i : ℕ) → i < length ms → slice_index ms i ≤ 15

pub record Lawful (d : Rule) : Type 0 where
  -- 1 to 249 codes, the start code among them
  pub some : 1 ≤ d.codes
  pub most : d.codes ≤ 249
  pub begins : d.start < d.codes
  -- first fact: the empty list is unbroken and has the start code
  pub empty_unbroken : d.Breaks [] → ⊥
  pub empty_code : d.code [] ≡ d.start
  -- second fact: a list that begins with a broken list is broken
  pub longer : (ms ns : List ℕ) → Marks (ms ++ ns) → d.Breaks ms → d.Breaks (ms ++ ns)
  -- third fact: one more mark breaks an unbroken list exactly if the step says broken; else the step answers the longer list's code
  pub breaks : (ms : List ℕ) (m : ℕ) → Marks ms → m ≤ 15 → (d.Breaks ms → ⊥) → d.step (d.code ms) m ≡ None → d.Breaks (ms ++ m ∷ [])
  pub goes_on : (ms : List ℕ) (m c : ℕ) → Marks ms → m ≤ 15 → (d.Breaks ms → ⊥) → d.step (d.code ms) m ≡ Some c → (d.Breaks (ms ++ m ∷ []) → ⊥) × (d.code (ms ++ m ∷ []) ≡ c)
  -- fourth fact: a step answers a code only from a code and on a mark, and a code of the duty
  pub settled : (c m e : ℕ) → d.step c m ≡ Some e → (c < d.codes) × (m ≤ 15) × (e < d.codes)
