use Prim.Native.Nat.{◌≤◌}
use mathlib.Core.Path.{◌≡◌}
use Rattle.passes.proofs.PassLaws.{slopes_to}
use Rattle.passes.specs.Private.{given_of}
use Rattle.passes.proofs.velocities.slopes.Given as goal

abbrev pub invariant-loop-t : goal.invariant-loop-t
invariant-loop-t l =
    let g = given_of l.g in
    (l.t ≤ l.e) × (l.work ≡ slopes_to g l.t)
