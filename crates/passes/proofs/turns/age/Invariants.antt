use Prim.Native.Nat.{◌≤◌}
use mathlib.Core.Path.{◌≡◌}
use Rattle.lists.specs.Runs.{in_run}
use Rattle.lists.specs.Private.{up_to}
use Rattle.passes.proofs.turns.age.Given as goal

abbrev pub invariant-loop-i : goal.invariant-loop-i
invariant-loop-i l = (l.i ≤ l.n) × (l.next ≡ up_to l.i (in_run l.n 1 l.initial.next) l.initial.next)
