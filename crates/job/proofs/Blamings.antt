-- A fault's line is the first that no job's text can have there.
use Rattle.std.proofs.Common.{◌≡◌, ℕ, suc, ◌+◌, ◌≤◌, List, [], ◌∷◌, ◌++◌, length, codes, Option, sym, refl, ap, ◌∙◌, subst, inl, append_assoc, add-zero, arith}
use Rattle.job.specs.declared.records.DutyWord.TheVariants.{Window}
use Rattle.job.specs.declared.faults.CutFault.TheVariants.{NoEnd, TooLong}
use Rattle.job.specs.declared.faults.RecordFault.TheVariants.{Cut}
use Rattle.job.specs.declared.faults.JobFault.{JobFault}
use Rattle.job.specs.declared.faults.JobFault.TheVariants.{Record, EndsEarly}
use Rattle.job.specs.Text.{line_end, Lines, done, torn, long, cut, lines, joined, text_of, Cleans}
use Rattle.job.specs.Job.{Duty, queue, Job, made_duty, made_job, default_bound}
use Rattle.job.specs.Kind.{Kind, kind}
use Rattle.job.specs.Faults.{report}
use Rattle.job.specs.Reading.{State, due_duty, due_map, due_close, Ruling, next, unfit, judged, job, fault, at_end, after, reading, outcome}
use Rattle.job.specs.Spelling.{SaysDuty, SaysMap}
use Rattle.job.specs.Laws.{BeginsFit, Why, early_end, torn_line, long_line, unfit_line, Blames, ReadLaw}
use Rattle.job.proofs.Cuts.{chain, lines_back, chain_back, lines_chain, lines_all, lines_long}
use Rattle.job.proofs.Jobs.{map_complete, map_clean, duty_clean, duty_go, reads}

-- lines, the first of them the n-th, lead from a state to a state
abbrev Walk : ℕ → State → List (List ℕ) → State → Type 0
Walk n s [] t = s ≡ t
Walk n s (l ∷ ls) t = (u : State) × (judged n s (kind l) ≡ next u) × Walk (suc n) u ls t

read_walk : (n : ℕ) (s t : State) (ls : List (List ℕ)) (rest : Lines) → Walk n s ls t
    → reading s n (chain ls rest) ≡ reading t (n + length ls) rest
read_walk n s t [] rest w = grind arith
read_walk n s t (l ∷ ls) rest w = grind (arith, w.1, read_walk (suc n) w.0 t ls rest w.2)

-- why lines lead no further where line n is due
abbrev Stuck : ℕ → State → JobFault → Lines → Type 0
Stuck n t e done = e ≡ EndsEarly n
Stuck n t e torn = e ≡ Record (Cut (NoEnd n))
Stuck n t e long = e ≡ Record (Cut (TooLong n))
Stuck n t e (cut l rest) = judged n t (kind l) ≡ unfit e

abbrev Found : ℕ → State → Lines → JobFault → Type 0
Found n s all e = (ls : List (List ℕ)) × (t : State) × (rest : Lines) × (all ≡ chain ls rest) × Walk n s ls t × Stuck (n + length ls) t e rest

end_fault : (s : State) (n : ℕ) (e : JobFault) → at_end s n ≡ fault e → e ≡ EndsEarly n
end_fault s n e h = grind arith

found_here : (n : ℕ) (s : State) (all : Lines) (e : JobFault) → Stuck n s e all → Found n s all e
found_here n s all e h =
    ([], s, all, refl, refl, rw (add-zero n) h)

found_step : (n : ℕ) (s : State) (l : List ℕ) (rest : Lines) (e : JobFault) (r : Ruling) → judged n s (kind l) ≡ r
    → after r (λ t. reading t (suc n) rest) ≡ fault e
    → ((t : State) → reading t (suc n) rest ≡ fault e → Found (suc n) t rest e) → Found n s (cut l rest) e
found_step n s l rest e (next t) g h ih =
    let r = ih t h in
    let z : suc n + length r.0 ≡ n + suc (length r.0) = omega arith in
    (l ∷ r.0, r.1, r.2, ap (cut l) r.3, (t, g, r.4), subst (λ (x : ℕ). Stuck x r.1 e r.2) z r.5)
found_step n s l rest e (unfit f) g h ih = found_here n s (cut l rest) e cc

found : (n : ℕ) (s : State) (all : Lines) (e : JobFault) → reading s n all ≡ fault e → Found n s all e
found n s done e h = found_here n s done e (end_fault s n e h)
found n s torn e h = found_here n s torn e cc
found n s long e h = found_here n s long e cc
found n s (cut l rest) e h = found_step n s l rest e (judged n s (kind l)) refl h (λ t g. found (suc n) t rest e g)

-- a fault of line n names that line, and where it is the line's own its number is none of the cutter's
judged_line : (n : ℕ) (s : State) (o : Option Kind) (e : JobFault) → judged n s o ≡ unfit e → (report e).line ≡ n
judged_line n s o e h = grind arith

judged_number : (n : ℕ) (s : State) (o : Option Kind) (e : JobFault) → judged n s o ≡ unfit e → 12 ≤ (report e).number
judged_number n s o e h = grind arith

stuck_line : (n : ℕ) (t : State) (e : JobFault) (rest : Lines) → Stuck n t e rest → (report e).line ≡ n
stuck_line n t e done h = grind arith
stuck_line n t e torn h = grind arith
stuck_line n t e long h = grind arith
stuck_line n t e (cut l rest) h = judged_line n t (kind l) e h

-- some lines make a job of what has come
abbrev Completes : State → Type 0
Completes s = (j : Job) × (ls : List (List ℕ)) × Cleans ls × ((n : ℕ) → reading s n (chain ls done) ≡ job j)

small_queue : List (List ℕ)
small_queue = joined (codes "queue" ∷ codes "1" ∷ []) ∷ []

small_queue_said : SaysMap (queue 1) small_queue
unfolding small_queue
small_queue_said = (codes "1", (omega arith, omega arith, refl), (omega arith, omega arith), refl)

map_completes : (d : Duty) → Completes (due_map d)
map_completes d = (made_job d (queue 1), small_queue, map_clean (queue 1) small_queue small_queue_said, λ n. map_complete d n (queue 1) small_queue small_queue_said)

completes : (s : State) → Completes s
completes due_duty =
    let d = made_duty Window default_bound in
    let l = joined (codes "duty" ∷ codes "window" ∷ []) in
    let said : SaysDuty d l = inl (refl, refl) in
    let r = map_completes d in
    (r.0, l ∷ r.1, (duty_clean d l said, r.2), λ n. ap (λ (x : Ruling). after x (λ t. reading t (suc n) (chain r.1 done))) (duty_go n d l said) ∙ r.3 (suc n))
completes (due_map d) = map_completes d
completes (due_close d m) = (made_job d m, [], tt, λ n. refl)

module _ (ls : List (List ℕ)) (clean : Cleans ls) (t : State) (w : Walk 1 due_duty ls t) where
  goes_on : (text : List ℕ) → outcome (text_of ls ++ text) ≡ reading t (1 + length ls) (lines text)
  goes_on text = ap (reading due_duty 1) (lines_chain ls text clean) ∙ read_walk 1 due_duty t ls (lines text) w

  fit_before : BeginsFit (text_of ls)
  fit_before =
      let c = completes t in
      let more = text_of c.1 in
      let e = goes_on more ∙ ap (reading t (1 + length ls)) (lines_all c.1 c.2) ∙ c.3 (1 + length ls) in
      (c.0, more, (reads (text_of ls ++ more) c.0).0 e)

  none_fit : (head : List ℕ) (e : JobFault)
      → ((more : List ℕ) → reading t (1 + length ls) (lines (head ++ more)) ≡ fault e) → BeginsFit (text_of ls ++ head)
      → ⊥
  none_fit head e stop b =
      let j = b.0 in
      let more = b.1 in
      let g = ap outcome (append_assoc (text_of ls) head more) ∙ goes_on (head ++ more) ∙ stop more in
      cc (sym g ∙ (reads ((text_of ls ++ head) ++ more) j).1 b.2)

  reason : (rest : List ℕ) (all : Lines) (e : JobFault) → lines rest ≡ all → Stuck (1 + length ls) t e all
      → Why (text_of ls) rest (1 + length ls) e
  reason rest done e h s = early_end (lines_back rest done h) s
  reason rest torn e h s = let b = lines_back rest torn h in torn_line b.0 b.1 b.2 s
  reason rest long e h s =
      let b = lines_back rest long h in
      long_line b.0 b.1 b.2 b.3 b.4
      (none_fit b.0 (Record (Cut (TooLong (1 + length ls)))) (λ more. ap (reading t (1 + length ls)) (lines_long b.0 more b.3 b.4))) s
  reason rest (cut l tail) e h s =
      let b = lines_back rest (cut l tail) h in
      unfit_line l b.0 b.1 b.2
      (none_fit (l ++ (line_end ∷ [])) e
      (λ more. ap (reading t (1 + length ls)) (lines_chain (l ∷ []) more (b.2, tt)) ∙ ap (λ (x : Ruling). after x (λ u. reading u (suc (1 + length ls)) (lines more))) s))
      (judged_number (1 + length ls) t (kind l) e s)

blames : (text : List ℕ) (e : JobFault) → outcome text ≡ fault e → Blames text e
blames text e h =
    let r = found 1 due_duty (lines text) e h in
    let b = chain_back text r.0 r.2 r.3 in
    let z : 1 + length r.0 ≡ suc (length r.0) = omega arith in
    record {
      lines_before = r.0;
      rest = b.0;
      split = b.1;
      clean = b.2;
      numbered = stuck_line (1 + length r.0) r.1 e r.2 r.5 ∙ z;
      fit_so_far = fit_before r.0 b.2 r.1 r.4;
      why = subst (λ (x : ℕ). Why (text_of r.0) b.0 x e) z (reason r.0 b.2 r.1 r.4 b.0 r.2 e b.3 r.5);
    }

pub lawful : (text : List ℕ) → ReadLaw text (outcome text)
lawful text = record { reads = reads text; blames = blames text }
