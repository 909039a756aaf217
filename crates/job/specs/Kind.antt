-- The six kinds of lines, and how a line is told by its keyword and its number of fields.
use Rattle.std.specs.Prelude.{ℕ, cond, List, [], ◌∷◌, Some, None, codes, Option}
use Rattle.std.specs.Option.{option_map}
use Rattle.std.specs.Str.{bytes_eq}
use Rattle.job.specs.declared.records.Keyword.{Keyword}
use Rattle.job.specs.declared.records.Keyword.TheVariants.{Duty, Site, Queue, Place, Way, Close}
use Rattle.job.specs.Text.{fields}

-- a line by its kind, with the fields after its keyword; a duty's bound may be left out
pub data Kind : Type 0 where
  duty_line : (word : List ℕ) (bound : Option (List ℕ)) → Kind
  site_line : (count : List ℕ) → Kind
  queue_line : (capacity : List ℕ) → Kind
  place_line : (number side mark : List ℕ) → Kind
  way_line : (from to : List ℕ) → Kind
  close_line : (from to : List ℕ) → Kind

abbrev pub keyword : List ℕ → Option Keyword
keyword w =
    cond (bytes_eq w (codes "duty")) (Some Duty)
    (cond (bytes_eq w (codes "site")) (Some Site)
    (cond (bytes_eq w (codes "queue")) (Some Queue)
    (cond (bytes_eq w (codes "place")) (Some Place)
    (cond (bytes_eq w (codes "way")) (Some Way)
    (cond (bytes_eq w (codes "close")) (Some Close) None)))))

-- the one, two or three fields that there are, if there are just so many
abbrev pub one : List (List ℕ) → Option (List ℕ)
one [] = None
one (f ∷ []) = Some f
one (f ∷ g ∷ fs) = None

abbrev pub two : List (List ℕ) → Option (List ℕ × List ℕ)
two [] = None
two (f ∷ fs) = option_map (λ g. (f, g)) (one fs)

abbrev pub three : List (List ℕ) → Option (List ℕ × List ℕ × List ℕ)
three [] = None
three (f ∷ fs) = option_map (λ p. (f, p.0, p.1)) (two fs)

abbrev pub duty_kind : List (List ℕ) → Option Kind
duty_kind [] = None
duty_kind (w ∷ []) = Some (duty_line w None)
duty_kind (w ∷ b ∷ []) = Some (duty_line w (Some b))
duty_kind (w ∷ b ∷ x ∷ fs) = None

-- the kind of a line by its keyword and the fields after it
abbrev pub kind_by : Keyword → List (List ℕ) → Option Kind
kind_by Duty fs = duty_kind fs
kind_by Site fs = option_map site_line (one fs)
kind_by Queue fs = option_map queue_line (one fs)
kind_by Place fs = option_map (λ p. place_line p.0 p.1 p.2) (three fs)
kind_by Way fs = option_map (λ p. way_line p.0 p.1) (two fs)
kind_by Close fs = option_map (λ p. close_line p.0 p.1) (two fs)

abbrev pub kind_if : Option Keyword → List (List ℕ) → Option Kind
kind_if None fs = None
kind_if (Some k) fs = kind_by k fs

abbrev pub kind_of_fields : List (List ℕ) → Option Kind
kind_of_fields [] = None
kind_of_fields (w ∷ fs) = kind_if (keyword w) fs

-- the kind of a line: none where its keyword is none, or its number of fields is wrong
abbrev pub kind : List ℕ → Option Kind
kind l = kind_of_fields (fields l)
