-- A text is read as a job exactly if it spells that job, phase by phase.
use Rattle.std.proofs.Common.{◌≡◌, ℕ, suc, ◌<◌, ◌≤◌, List, [], ◌∷◌, Some, None, codes, Option, sym, refl, ap, ◌∙◌, subst, inl, inr, arith}
use Rattle.job.specs.declared.records.DutyWord.{DutyWord}
use Rattle.job.specs.declared.records.DutyWord.TheVariants.{Window}
use Rattle.job.specs.Text.{Lines, done, torn, long, cut, lines, joined, Clean, Cleans}
use Rattle.job.specs.Job.{Duty, Map, queue, Job, made_duty, made_job, word_text, bound_top, default_bound, capacity_top}
use Rattle.job.specs.Kind.{Kind, duty_line, queue_line, kind_of_fields, kind}
use Rattle.job.specs.Reading.{State, within, due_duty, due_map, due_close, Ruling, next, worded, duty_word, bounded, ruled, judged, job, after, reading, outcome}
use Rattle.job.specs.Spelling.{FitBound, SaysDuty, SaysMap, Spells}
use Rattle.job.proofs.Cuts.{chain, all_back, lines_all}
use Rattle.job.proofs.Texts.{Neat, Neats, fields_joined, joined_clean}
use Rattle.job.proofs.Numbers.{numeral_neat}
use Rattle.job.proofs.Rulings.{parts, duty_word_is, duty_word_text, within_next, within_go, worded_next, took, after_job}

-- a fit line is judged by its fields
judged_joined : (n : ℕ) (s : State) (l f : List ℕ) (fs : List (List ℕ)) → Neats (f ∷ fs) → l ≡ joined (f ∷ fs)
    → judged n s (kind l) ≡ judged n s (kind_of_fields (f ∷ fs))
judged_joined n s l f fs h e = grind (arith, fields_joined f fs h)

-- the lines after the map
module _ (d : Duty) (m : Map) where
  pub close_step : (n : ℕ) (k : Kind) (t : State) → ruled n (due_close d m) k ≡ next t → ⊥
  close_step n k t e = grind arith

  close_sound : (n : ℕ) (rest : Lines) (j : Job) → reading (due_close d m) n rest ≡ job j → (rest ≡ done) × (j ≡ made_job d m)
  close_sound n done j e = (refl, cc)
  close_sound n torn j e = cc
  close_sound n long j e = cc
  close_sound n (cut l rest) j e = absurd (grind (arith, close_step n))

-- the lines of the map
module _ (d : Duty) where
  queue_line_is : (n : ℕ) (k : Kind) (t : State) → ruled n (due_map d) k ≡ next t
      → (a : List ℕ) × (k ≡ queue_line a) × (within n 2 1 capacity_top a (λ q. next (due_close d (queue q))) ≡ next t)
  queue_line_is n k t e = grind arith

  map_step : (n : ℕ) (k : Kind) (l : List ℕ) (t : State) → l ≡ joined (parts k) → ruled n (due_map d) k ≡ next t
      → (m : Map) × SaysMap m (l ∷ []) × (t ≡ due_close d m)
  map_step n k l t h e =
      let r = queue_line_is n k t e in
      let q = within_next n 2 1 capacity_top (λ q. next (due_close d (queue q))) r.0 t r.2 in
      (queue q.0, (r.0, q.1, (q.2, omega (arith, q.3)), grind (arith, r.1)), cc (q.4))

  map_sound : (n : ℕ) (rest : Lines) (j : Job) → reading (due_map d) n rest ≡ job j
      → (m : Map) × (ls : List (List ℕ)) × (rest ≡ chain ls done) × SaysMap m ls × (j ≡ made_job d m)
  map_sound n done j e = cc
  map_sound n torn j e = cc
  map_sound n long j e = cc
  map_sound n (cut l rest) j e =
      let r = after_job (judged n (due_map d) (kind l)) (λ t. reading t (suc n) rest) j e in
      let c = took n (due_map d) r.0 l r.1 in
      let s = map_step n c.0 l r.0 c.1 c.2 in
      let q = close_sound d s.0 (suc n) rest j (subst (λ (x : State). reading x (suc n) rest ≡ job j) s.2 r.2) in
      (s.0, l ∷ [], ap (cut l) q.0, s.1, q.1)

  pub map_complete : (n : ℕ) (m : Map) (ls : List (List ℕ)) → SaysMap m ls
      → reading (due_map d) n (chain ls done) ≡ job (made_job d m)
  map_complete n (queue q) ls h =
      let l = joined (codes "queue" ∷ h.0 ∷ []) in
      let neat : Neats (codes "queue" ∷ h.0 ∷ []) = ((refl, refl, omega arith), (numeral_neat h.0 q h.1, tt)) in
      let go = judged_joined n (due_map d) l (codes "queue") (h.0 ∷ []) neat refl ∙ within_go n 2 1 capacity_top (λ k. next (due_close d (queue k))) h.0 q h.1 h.2.0 (omega (arith, h.2.1)) in
      ap (λ (x : List (List ℕ)). reading (due_map d) n (chain x done)) h.3
      ∙ ap (λ (x : Ruling). after x (λ t. reading t (suc n) done)) go

pub map_clean : (m : Map) (ls : List (List ℕ)) → SaysMap m ls → Cleans ls
map_clean (queue q) ls h = subst Cleans (sym h.3) (joined_clean (codes "queue" ∷ h.0 ∷ []) ((refl, refl, omega arith), (numeral_neat h.0 q h.1, tt)) (omega arith), tt)

-- the limits of a bound, as they are tested and as they are said
fit_bound : (w : DutyWord) (b : ℕ) → 1 ≤ b → b < bound_top w → FitBound w b
fit_bound Window b l h = (l, omega arith)

bound_low : (w : DutyWord) (b : ℕ) → FitBound w b → 1 ≤ b
bound_low Window b h = h.0

bound_high : (w : DutyWord) (b : ℕ) → FitBound w b → b < bound_top w
bound_high Window b h = omega (arith, h.1)

-- the line of the duty
bounded_step : (n : ℕ) (b : Option (List ℕ)) (w : DutyWord) (f l : List ℕ) (t : State) → f ≡ word_text w
    → l ≡ joined (parts (duty_line f b)) → bounded n b w ≡ next t → (d : Duty) × SaysDuty d l × (t ≡ due_map d)
bounded_step n None w f l t g h e =
    (made_duty w default_bound, inl (refl, h ∙ ap (λ (x : List ℕ). joined (codes "duty" ∷ x ∷ [])) g), cc)
bounded_step n (Some b) w f l t g h e =
    let r = within_next n 3 1 (bound_top w) (λ k. next (due_map (made_duty w k))) b t e in
    (made_duty w r.0, inr (b, r.1, fit_bound w r.0 r.2 r.3, h ∙ ap (λ (x : List ℕ). joined (codes "duty" ∷ x ∷ b ∷ [])) g), cc (r.4))

duty_line_is : (n : ℕ) (k : Kind) (t : State) → ruled n due_duty k ≡ next t
    → (f : List ℕ) × (b : Option (List ℕ)) × (k ≡ duty_line f b) × (worded n 2 (duty_word f) (bounded n b) ≡ next t)
duty_line_is n k t e = grind arith

duty_step : (n : ℕ) (k : Kind) (l : List ℕ) (t : State) → l ≡ joined (parts k) → ruled n due_duty k ≡ next t
    → (d : Duty) × SaysDuty d l × (t ≡ due_map d)
duty_step n k l t h e =
    let r = duty_line_is n k t e in
    let w = worded_next n 2 (duty_word r.0) (bounded n r.1) t r.3 in
    bounded_step n r.1 w.0 r.0 l t (duty_word_is r.0 w.0 w.1) (h ∙ ap (λ (x : Kind). joined (parts x)) r.2) w.2

word_neat : (w : DutyWord) → Neat (word_text w)
word_neat Window = (refl, refl, omega arith)

short_neat : (w : DutyWord) → Neats (codes "duty" ∷ word_text w ∷ [])
short_neat w = ((refl, refl, omega arith), (word_neat w, tt))

full_neat : (w : DutyWord) (b : List ℕ) → Neat b → Neats (codes "duty" ∷ word_text w ∷ b ∷ [])
full_neat w b h = ((refl, refl, omega arith), (word_neat w, (h, tt)))

pub duty_clean : (d : Duty) (l : List ℕ) → SaysDuty d l → Clean l
duty_clean d l (inl h) = subst Clean (sym h.1) (joined_clean (codes "duty" ∷ word_text d.word ∷ []) (short_neat d.word) (omega arith))
duty_clean d l (inr h) = subst Clean (sym h.3) (joined_clean (codes "duty" ∷ word_text d.word ∷ h.0 ∷ []) (full_neat d.word h.0 (numeral_neat h.0 d.bound h.1)) (omega arith))

pub duty_go : (n : ℕ) (d : Duty) (l : List ℕ) → SaysDuty d l → judged n due_duty (kind l) ≡ next (due_map d)
duty_go n d l (inl h) =
    judged_joined n due_duty l (codes "duty") (word_text d.word ∷ []) (short_neat d.word) h.1
    ∙ ap (λ (o : Option DutyWord). worded n 2 o (bounded n None)) (duty_word_text d.word)
    ∙ ap (λ (b : ℕ). next (due_map (made_duty d.word b))) (sym h.0)
duty_go n d l (inr h) =
    judged_joined n due_duty l (codes "duty") (word_text d.word ∷ h.0 ∷ []) (full_neat d.word h.0 (numeral_neat h.0 d.bound h.1)) h.3
    ∙ ap (λ (o : Option DutyWord). worded n 2 o (bounded n (Some h.0))) (duty_word_text d.word)
    ∙ within_go n 3 1 (bound_top d.word) (λ k. next (due_map (made_duty d.word k))) h.0 d.bound h.1 (bound_low d.word d.bound h.2) (bound_high d.word d.bound h.2)

sound : (all : Lines) (j : Job) (text : List ℕ) → lines text ≡ all → reading due_duty 1 all ≡ job j → Spells j text
sound done j text g e = cc
sound torn j text g e = cc
sound long j text g e = cc
sound (cut l rest) j text g e =
    let r = after_job (judged 1 due_duty (kind l)) (λ t. reading t 2 rest) j e in
    let c = took 1 due_duty r.0 l r.1 in
    let s = duty_step 1 c.0 l r.0 c.1 c.2 in
    let q = map_sound s.0 2 rest j (subst (λ (x : State). reading x 2 rest ≡ job j) s.2 r.2) in
    let said : Spells (made_job s.0 q.0) text = record {
      first = l;
      others = q.1;
      whole = all_back text (l ∷ q.1) (g ∙ ap (cut l) q.2);
      duty_said = s.1;
      map_said = q.3;
    } in
    subst (λ (x : Job). Spells x text) (sym q.4) said

complete : (j : Job) (text : List ℕ) → Spells j text → outcome text ≡ job j
complete j text h =
    let clean : Cleans (h.first ∷ h.others) = (duty_clean j.duty h.first h.duty_said, map_clean j.map h.others h.map_said) in
    grind (arith, h.whole, lines_all (h.first ∷ h.others) clean, duty_go 1 j.duty h.first h.duty_said, map_complete j.duty 2 j.map h.others h.map_said)

pub reads : (text : List ℕ) (j : Job) → (outcome text ≡ job j → Spells j text) × (Spells j text → outcome text ≡ job j)
reads text j = (sound (lines text) j text refl, complete j text)
