-- A line of a kind is that kind's fields joined, and what a ruling that leads on says of the fields.
use Rattle.std.proofs.Common.{◌≡◌, ℕ, ◌<◌, ◌≤◌, List, [], ◌∷◌, Some, None, codes, Option, sym, refl, ap, ◌∙◌, arith}
use Rattle.std.proofs.lemmas.Slice.Eq.{bytes_eq-Decides}
use Rattle.std.proofs.lemmas.Bool.Decides.{nat_tests}
use Rattle.job.specs.declared.records.DutyWord.{DutyWord}
use Rattle.job.specs.declared.records.DutyWord.TheVariants.{Window}
use Rattle.job.specs.Text.{comma, fields, joined}
use Rattle.job.specs.Number.{Numeral}
use Rattle.job.specs.Job.{Job, word_text}
use Rattle.job.specs.Kind.{Kind, duty_line, site_line, queue_line, place_line, way_line, close_line, kind_of_fields, kind}
use Rattle.job.specs.Reading.{State, Ruling, next, within, worded, duty_word, ruled, judged, Outcome, job, after}
use Rattle.std.proofs.lemmas.List.Splits.{join_with_byte-slice_split}
use Rattle.job.proofs.Numbers.{number_reads, numeral_number}

-- the fields of a line of each kind
abbrev pub parts : Kind → List (List ℕ)
parts (duty_line w None) = codes "duty" ∷ w ∷ []
parts (duty_line w (Some b)) = codes "duty" ∷ w ∷ b ∷ []
parts (site_line n) = codes "site" ∷ n ∷ []
parts (queue_line q) = codes "queue" ∷ q ∷ []
parts (place_line v s m) = codes "place" ∷ v ∷ s ∷ m ∷ []
parts (way_line f t) = codes "way" ∷ f ∷ t ∷ []
parts (close_line f t) = codes "close" ∷ f ∷ t ∷ []

kind_parts : (fs : List (List ℕ)) (k : Kind) → kind_of_fields fs ≡ Some k → fs ≡ parts k
kind_parts fs k e = grind (arith, bytes_eq-Decides)

pub duty_word_is : (f : List ℕ) (w : DutyWord) → duty_word f ≡ Some w → f ≡ word_text w
duty_word_is f w e = grind (arith, bytes_eq-Decides)

pub duty_word_text : (w : DutyWord) → duty_word (word_text w) ≡ Some w
duty_word_text Window = refl

-- a number's field that leads on, and one that is within its limits
module _ (n i low top : ℕ) (go : ℕ → Ruling) (f : List ℕ) where
  pub within_next : (s : State) → within n i low top f go ≡ next s
      → (k : ℕ) × Numeral k f × (low ≤ k) × (k < top) × (go k ≡ next s)
  within_next s e = grind (arith, nat_tests, number_reads)

  pub within_go : (k : ℕ) → Numeral k f → low ≤ k → k < top → within n i low top f go ≡ go k
  within_go k h l t = grind (arith, nat_tests, numeral_number)

pub worded_next : {A : Type 0} (n i : ℕ) (o : Option A) (go : A → Ruling) (s : State) → worded n i o go ≡ next s
    → (a : A) × (o ≡ Some a) × (go a ≡ next s)
worded_next n i o go s e = grind arith

judged_next : (n : ℕ) (s t : State) (o : Option Kind) → judged n s o ≡ next t → (k : Kind) × (o ≡ Some k) × (ruled n s k ≡ next t)
judged_next n s t o e = grind arith

-- a line that leads on is the fields of a kind, joined
pub took : (n : ℕ) (s t : State) (l : List ℕ) → judged n s (kind l) ≡ next t
    → (k : Kind) × (l ≡ joined (parts k)) × (ruled n s k ≡ next t)
took n s t l e =
    let r = judged_next n s t (kind l) e in
    (r.0, sym (join_with_byte-slice_split comma l) ∙ ap joined (kind_parts (fields l) r.0 r.1), r.2)

pub after_job : (r : Ruling) (go : State → Outcome) (j : Job) → after r go ≡ job j → (s : State) × (r ≡ next s) × (go s ≡ job j)
after_job r go j e = grind arith
