use Rattle.std.proofs.Common.{◌≡◌, ◌*◌, ◌≤◌, drop}
use Rattle.lists.specs.Private.{up_to}
use Rattle.grids.specs.Text.{line_of}
use Rattle.grids.specs.Grid.{corner_in}
use Rattle.grids.specs.Private.{after_lines}
use Rattle.grids.proofs.filling.fill_triangles.Given as goal

-- k triangles are filled
abbrev pub invariant-loop-k : goal.invariant-loop-k
invariant-loop-k l =
    let u = drop l.from l.text in
    (l.k ≤ l.e) × ((drop l.at l.text ≡ after_lines l.k u) × (l.tri ≡ up_to (3 * l.k) (corner_in (line_of u)) l.initial.tri))
