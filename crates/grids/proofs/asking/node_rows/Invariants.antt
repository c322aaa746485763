use Rattle.std.proofs.Common.{◌≡◌, ℕ, ◌<◌, drop}
use Rattle.grids.specs.Grid.{node_line_rows}
use Rattle.grids.specs.Private.{after_lines}
use Rattle.grids.proofs.TextLaws.{asked}
use Rattle.grids.proofs.asking.node_rows.Given as goal

-- i lines were asked and accepted
abbrev pub invariant-loop-i : goal.invariant-loop-i
invariant-loop-i l =
    (drop l.at l.text ≡ after_lines l.i (drop l.from l.text)) × ((k : ℕ) → k < l.i → (asked node_line_rows (drop l.from l.text) k).number ≡ 0)
