-- One line more.
use Rattle.std.proofs.Common.{◌≡◌, ℕ, ◌+◌, List, [], ◌∷◌, ◌++◌, ap, ◌∙◌, sym, arith}
use Rattle.std.proofs.lemmas.List.{flat_map_more}
use Rattle.std.proofs.lemmas.List.FromFn.{map-range_with_len_more}
use Rattle.game.specs.Graph.{Graph}
use Rattle.game.specs.Rule.{Rule}
use Rattle.game.specs.Table.{Table, table, place_count}
use Rattle.listing.specs.Listing.{ended, text_of, header_line, house_places, place_line, place_lines}
use Rattle.listing.proofs.Counts.push_listing.Goals as goal

line_more : (g : Graph) (d : Rule) (t : Table) (first : List ℕ) (v k : ℕ) → k ≡ place_count g d t v
    → text_of (first ∷ place_lines g d t v) ++ ended (place_line v k) ≡ text_of (first ∷ place_lines g d t (v + 1))
line_more g d t first v k counted =
    let line : ℕ → List ℕ = λ u. place_line u (place_count g d t u) in
    rw counted
    (flat_map_more ended (ended first) (place_lines g d t v) (line v)
    ∙ ap (λ (lines : List (List ℕ)). text_of (first ∷ lines)) (sym (map-range_with_len_more line 0 v v (omega arith))))

pub loop-v-preserved : goal.loop-v-preserved
loop-v-preserved g c =
    let G = g.M.Map.graph c.args.self.now.map.now in
    let D = g.D.Duty.rule c.args.self.now.duty.now in
    let t = table [] c.args.self.now.count.now in
    let first = header_line G.size D.codes (house_places G D t G.size) in (
      rw (c.push_place.ensures.text, c.loop-v.invariant.0)
          (line_more G D t first c.loop-v.v _ c.of_place.ensures),
      omega arith,
    )
