use Prim.Native.Nat.{ℕ, ◌≤◌}
use mathlib.Core.Path.{◌≡◌}
use lib.Dec.{eqb}
use Rattle.rows.specs.declared.Answer.{Answer}
use Rattle.rows.specs.Scan.{scan}
use Rattle.passes.specs.Equations.{Given, flow_at}
use Rattle.outcomes.specs.Outcomes.{flow_row}
use Rattle.passes.proofs.PassLaws.{flows_to}
use Rattle.passes.specs.Private.{given_of}
use Rattle.passes.proofs.velocities.flows.Given as goal

-- row 13 of U' and V' at a node
abbrev row_at : Given → ℕ → Answer
row_at g i = flow_row (flow_at g i) i

abbrev pub invariant-loop-i : goal.invariant-loop-i
invariant-loop-i l = let g = given_of l.g in
    (l.i ≤ l.n) × ((l.work ≡ flows_to g l.i) × (l.all ≡ eqb (scan (row_at g) l.i).number 0))
