use Rattle.std.proofs.Common.{◌≡◌, ℕ, suc, List, [], ◌∷◌, Option}
use Rattle.job.specs.Inside.{padded}
use Rattle.job.specs.Text.{fields}
use Rattle.job.proofs.records.Line.read.Goals as goal

-- what comes after the first of some padded values is padded too
after_first : (n : ℕ) (x : Option (List ℕ)) (xs : List (Option (List ℕ))) (fs : List (List ℕ)) → x ∷ xs ≡ padded (suc n) fs
    → (gs : List (List ℕ)) × (xs ≡ padded n gs)
after_first n x xs [] is = ([], cc)
after_first n x xs (f ∷ fs) is = (fs, cc)

pub after-requires : goal.after-requires
after-requires c = after_first 4 _ _ (fields c.args.line.now) c.first_fields.ensures
