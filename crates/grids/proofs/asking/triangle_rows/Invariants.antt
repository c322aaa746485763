use Rattle.std.proofs.Common.{◌≡◌, ℕ, ◌<◌, drop}
use Rattle.grids.specs.Grid.{triangle_line_rows}
use Rattle.grids.specs.Private.{after_lines}
use Rattle.grids.proofs.TextLaws.{asked}
use Rattle.grids.proofs.asking.triangle_rows.Given as goal

-- k lines were asked and accepted
abbrev pub invariant-loop-k : goal.invariant-loop-k
invariant-loop-k l =
    (drop l.at l.text ≡ after_lines l.k (drop l.from l.text)) × ((j : ℕ) → j < l.k → (asked (triangle_line_rows l.n) (drop l.from l.text) j).number ≡ 0)
