-- What the lines that are cut say of the text, and which lines are cut from a text.
use Rattle.std.proofs.Common.{◌≡◌, ℕ, suc, ◌+◌, ◌<◌, ◌≤◌, true, false, cond, eqb, ltb, List, [], ◌∷◌, ◌++◌, length, sym, refl, ap, ◌∙◌, subst, append_assoc, append-nil, arith}
use Rattle.std.proofs.lemmas.Bool.{cond_both, ltb-true, ltb-false, eqb-true}
use Rattle.std.proofs.lemmas.Bool.Decides.{nat_tests}
use Rattle.std.proofs.lemmas.List.{length_push}
use Rattle.job.proofs.Texts.{lacks_append}
use Rattle.job.specs.Text.{line_end, line_limit, Lines, done, torn, long, cut, left, lines_from, lines, lacks, text_of, Clean, Cleans}

-- lines before other lines
abbrev pub chain : List (List ℕ) → Lines → Lines
chain [] rest = rest
chain (l ∷ ls) rest = cut l (chain ls rest)

lacks_push : (l : List ℕ) (x : ℕ) → lacks line_end l ≡ true → eqb x line_end ≡ false → lacks line_end (l ++ (x ∷ [])) ≡ true
lacks_push l x c e = grind (arith, nat_tests, lacks_append)

-- what a text is, by what it is cut into
abbrev pub Back : List ℕ → Lines → Type 0
Back text done = text ≡ []
Back text torn = (lacks line_end text ≡ true) × (0 < length text) × (length text ≤ line_limit)
Back text long = (head tail : List ℕ) × (text ≡ head ++ tail) × (lacks line_end head ≡ true) × (length head ≡ suc line_limit)
Back text (cut l ls) = (tail : List ℕ) × (text ≡ l ++ (line_end ∷ tail)) × Clean l × (lines tail ≡ ls)

back : (so_far text : List ℕ) → lacks line_end so_far ≡ true → length so_far ≤ line_limit
    → Back (so_far ++ text) (lines_from so_far text)
back [] [] c h = refl
back (b ∷ bs) [] c h = subst (λ (x : List ℕ). Back x torn) (sym (append-nil (b ∷ bs))) (c, omega arith, h)
back so_far (b ∷ bs) c h =
    let more = so_far ++ (b ∷ []) in
    let whole = append_assoc so_far (b ∷ []) bs in
    let all = so_far ++ (b ∷ bs) in
    cond_both (eqb b line_end) (cut so_far (lines_from [] bs)) (cond (ltb (length so_far) line_limit) (lines_from more bs) long) (Back all)
    (λ t. (bs, ap (λ (x : ℕ). so_far ++ (x ∷ bs)) (eqb-true b line_end t), (c, h), refl))
    (λ f. cond_both (ltb (length so_far) line_limit) (lines_from more bs) long (Back all)
    (λ t. subst (λ (x : List ℕ). Back x (lines_from more bs)) whole (back more bs (lacks_push so_far b c f) (omega (arith, ltb-true (length so_far) line_limit t, length_push so_far b))))
    (λ g. (more, bs, sym whole, lacks_push so_far b c f, omega (arith, ltb-false (length so_far) line_limit g, length_push so_far b))))

pub lines_back : (text : List ℕ) (ls : Lines) → lines text ≡ ls → Back text ls
lines_back text ls e = subst (Back text) e (back [] text refl (omega arith))

pub chain_back : (text : List ℕ) (ls : List (List ℕ)) (rest : Lines) → lines text ≡ chain ls rest
    → (tail : List ℕ) × (text ≡ text_of ls ++ tail) × Cleans ls × (lines tail ≡ rest)
chain_back text [] rest e = (text, refl, tt, e)
chain_back text (l ∷ ls) rest e =
    let r = lines_back text (cut l (chain ls rest)) e in
    let ih = chain_back r.0 ls rest r.3 in
    (ih.0, grind (arith, r.1, ih.1, append_assoc), (r.2, ih.2), ih.3)

-- a text that is cut into these lines and no more is these lines
pub all_back : (text : List ℕ) (ls : List (List ℕ)) → lines text ≡ chain ls done → text ≡ text_of ls
all_back text ls e = let r = chain_back text ls done e in grind (arith, r.1, lines_back r.0 done r.3, append-nil)

line_on : (so_far l rest : List ℕ) → lacks line_end l ≡ true → length so_far + length l ≤ line_limit
    → lines_from so_far (l ++ (line_end ∷ rest)) ≡ cut (so_far ++ l) (lines rest)
line_on so_far [] rest c h = grind (arith, append-nil)
line_on so_far (b ∷ bs) rest c h = grind (arith, nat_tests, append_assoc, length_push, line_on (so_far ++ (b ∷ [])) bs rest)

pub lines_line : (l rest : List ℕ) → Clean l → lines (l ++ (line_end ∷ rest)) ≡ cut l (lines rest)
lines_line l rest c = line_on [] l rest c.0 (omega (arith, c.1))

torn_on : (so_far text : List ℕ) → lacks line_end text ≡ true → length so_far + length text ≤ line_limit
    → lines_from so_far text ≡ left (so_far ++ text)
torn_on so_far [] c h = grind (arith, append-nil)
torn_on so_far (b ∷ bs) c h = grind (arith, nat_tests, append_assoc, length_push, torn_on (so_far ++ (b ∷ [])) bs)

pub lines_torn : (text : List ℕ) → Clean text → 0 < length text → lines text ≡ torn
lines_torn text c h = torn_on [] text c.0 (omega (arith, c.1)) ∙ grind arith

pub lines_chain : (ls : List (List ℕ)) (text : List ℕ) → Cleans ls → lines (text_of ls ++ text) ≡ chain ls (lines text)
lines_chain [] text c = refl
lines_chain (l ∷ ls) text c = grind (arith, append_assoc, lines_line l (text_of ls ++ text) c.0, lines_chain ls text c.1)

pub lines_all : (ls : List (List ℕ)) → Cleans ls → lines (text_of ls) ≡ chain ls done
lines_all ls c = grind (arith, append-nil, lines_chain ls [] c)

long_on : (so_far head tail : List ℕ) → lacks line_end head ≡ true → length so_far ≤ line_limit
    → length so_far + length head ≡ suc line_limit → lines_from so_far (head ++ tail) ≡ long
long_on so_far [] tail c h e = grind arith
long_on so_far (b ∷ bs) tail c h e = grind (arith, nat_tests, append_assoc, length_push, long_on (so_far ++ (b ∷ [])) bs tail)

pub lines_long : (head tail : List ℕ) → lacks line_end head ≡ true → length head ≡ suc line_limit → lines (head ++ tail) ≡ long
lines_long head tail c e = long_on [] head tail c (omega arith) (omega arith)
