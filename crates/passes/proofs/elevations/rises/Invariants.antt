use Prim.Native.Nat.{ℕ, ◌≤◌}
use mathlib.Core.Path.{◌≡◌}
use lib.Dec.{eqb}
use Rattle.rows.specs.declared.Answer.{Answer}
use Rattle.rows.specs.Scan.{scan}
use Rattle.passes.specs.Equations.{Given, node, rise}
use Rattle.outcomes.specs.Outcomes.{rise_row}
use Rattle.passes.proofs.PassLaws.{rises_to}
use Rattle.passes.specs.Private.{given_of}
use Rattle.passes.proofs.elevations.rises.Given as goal

-- row 13 of z' at a node
abbrev row_at : Given → ℕ → Answer
row_at g i = rise_row (node g i).h (rise g i) i

abbrev pub invariant-loop-i : goal.invariant-loop-i
invariant-loop-i l = let g = given_of l.g in
    (l.i ≤ l.n) × ((l.work ≡ rises_to g l.i) × (l.all ≡ eqb (scan (row_at g) l.i).number 0))
