use Prim.Native.Nat.{◌≤◌}
use mathlib.Core.Path.{◌≡◌}
use Rattle.lists.specs.Table.{table}
use Rattle.passes.specs.Equations.{count}
use Rattle.passes.proofs.PassLaws.{sums_to, S_to}
use Rattle.passes.specs.Private.{given_of}
use Rattle.passes.proofs.elevations.assemble.Given as goal

abbrev pub invariant-loop-t : goal.invariant-loop-t
invariant-loop-t l = let g = given_of l.g in
    (l.t ≤ l.e) × ((l.work ≡ sums_to g l.t) × (l.sums ≡ table (count g) (S_to g l.t)))
