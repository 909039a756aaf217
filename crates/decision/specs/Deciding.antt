-- What deciding a text answers and leaves in the listing space.
use Rattle.std.specs.Prelude.{◌≡◌, ℕ, ◌<◌, ◌≤◌, List, [], ◌∷◌, ◌++◌, length, drop, codes, decimal}
use Rattle.game.specs.declared.Refusal.{Refusal}
use Rattle.game.specs.declared.Refusal.TheVariants.{Space}
use Rattle.game.specs.Graph.{Graph}
use Rattle.game.specs.Rule.{Rule}
use Rattle.game.specs.Refusals.{refusal_number}
use Rattle.game.specs.Table.{Table, Solved, Verdict}
use Rattle.job.specs.Faults.{report}
use Rattle.job.specs.Job.{Job}
use Rattle.job.specs.Reading.{outcome, job, fault}
use Rattle.job.specs.Spelling.{Spells}
use Rattle.job.specs.Laws.{Blames}
use Rattle.listing.specs.Listing.{line, listing, least_space}
use Rattle.job.specs.Meaning.{graph_of, rule_of}
use Rattle.decision.specs.declared.Declined.{Declined}
use Rattle.decision.specs.declared.Declined.TheVariants.{Text, Call}

-- number, line and field: those of the text's fault, or those of a refused call, which names no line
abbrev pub number_of : Declined → ℕ
number_of (Text f) = (report f).number
number_of (Call e) = refusal_number e

abbrev pub line_of : Declined → ℕ
line_of (Text f) = (report f).line
line_of (Call e) = 0

abbrev pub field_of : Declined → ℕ
field_of (Text f) = (report f).field
field_of (Call e) = 0

-- how it is told: `refused,number,line,field`
abbrev pub refused_line : Declined → List ℕ
refused_line r = line (codes "refused") (decimal (number_of r) ∷ decimal (line_of r) ∷ decimal (field_of r) ∷ [])

-- the space held `before`, and now holds `after`
module _ (g : Graph) (d : Rule) (before after : List ℕ) where
  -- the space begins with the listing, `long` bytes of it, of the table that the rounds give, and beyond it is as it was
  pub record Lists (long : ℕ) : Type 0 where
    pub table : Table
    pub solved : Solved g d table
    pub verdicts : (v : ℕ) → v < g.size → Verdict g d table v
    pub written : after ≡ listing g d table ++ drop long before
    pub size : long ≡ length (listing g d table)
    pub most : long ≤ least_space

-- the space is too small for a listing, and as it was
abbrev pub LacksSpace : List ℕ → List ℕ → Refusal → Type 0
LacksSpace before after e = (e ≡ Space) × (length before < least_space) × (after ≡ before)

-- the space held `before` and now holds `after`
module _ (text before after : List ℕ) where
  -- the text spells a job and is read as it, and the space begins with the listing of that job's solved table
  pub record Decides (long : ℕ) : Type 0 where
    pub asked : Job
    pub spelled : Spells asked text
    pub read : outcome text ≡ job asked
    pub table : Table
    -- the table is the rounds', so it tells who can keep the duty from each place, over all plans
    pub solved : Solved (graph_of asked) (rule_of asked) table
    pub verdicts : (v : ℕ) → v < (graph_of asked).size → Verdict (graph_of asked) (rule_of asked) table v
    pub written : after ≡ listing (graph_of asked) (rule_of asked) table ++ drop long before
    pub size : long ≡ length (listing (graph_of asked) (rule_of asked) table)
    pub most : long ≤ least_space

  -- the text's fault, in the first line with which no text of a job begins, or else a space that is too small; and the
  -- space is as it was
  abbrev pub Declines : Declined → Type 0
  Declines (Text f) = (outcome text ≡ fault f) × Blames text f × (after ≡ before)
  Declines (Call e) = (e ≡ Space) × ((j : Job) × (outcome text ≡ job j)) × (length before < least_space) × (after ≡ before)
