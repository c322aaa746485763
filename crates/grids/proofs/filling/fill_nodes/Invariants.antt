use Rattle.std.proofs.Common.{◌≡◌, ◌≤◌, drop}
use Rattle.lists.specs.Private.{up_to}
use Rattle.grids.specs.Text.{line_of}
use Rattle.grids.specs.Grid.{x_in, y_in, h_in}
use Rattle.grids.specs.Private.{after_lines}
use Rattle.grids.proofs.filling.fill_nodes.Given as goal

-- i nodes are filled
abbrev pub invariant-loop-i : goal.invariant-loop-i
invariant-loop-i l =
    let u = drop l.from l.text in
    (l.i ≤ l.n) × ((drop l.at l.text ≡ after_lines l.i u) × ((l.x ≡ up_to l.i (x_in (line_of u)) l.initial.x) × ((l.y ≡ up_to l.i (y_in (line_of u)) l.initial.y) × (l.h ≡ up_to l.i (h_in (line_of u)) l.initial.h))))
