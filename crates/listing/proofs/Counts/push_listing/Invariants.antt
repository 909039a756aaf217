-- So far the first line and the lines of the places below v are written.
use Rattle.std.proofs.Common.{◌≡◌, ◌+◌, ◌*◌, ◌≤◌, [], ◌∷◌}
use Rattle.game.specs.Table.{table}
use Rattle.arrayvec.specs.ArrayString.{array_string_len}
use Rattle.listing.specs.Listing.{text_of, header_line, house_places, place_lines}
use Rattle.listing.proofs.Counts.push_listing.Given as goal

abbrev pub invariant-loop-v : goal.invariant-loop-v
invariant-loop-v g l =
    let G = g.M.Map.graph l.self.map.now in
    let D = g.D.Duty.rule l.self.duty.now in
    let t = table [] l.self.count.now in
    (l.text.bytes ≡ text_of (header_line G.size D.codes (house_places G D t G.size) ∷ place_lines G D t l.v))
    × (array_string_len l.text ≤ 22 + 22 * l.v)
