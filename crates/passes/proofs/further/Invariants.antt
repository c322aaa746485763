use Prim.Native.Nat.{◌+◌, ◌-◌, ◌*◌, ◌≤◌}
use mathlib.Core.Path.{◌≡◌}
use lib.ListN.{length}
use Rattle.mesh.specs.Lent.{mesh_of}
use Rattle.bounds.specs.State.{state_runs}
use Rattle.bounds.specs.Forcing.{forcing_at}
use Rattle.passes.specs.Settle.{work_runs}
use Rattle.passes.specs.Private.{onward}
use Rattle.passes.proofs.further.Given as goal

abbrev pub invariant-loop-j : goal.invariant-loop-j
invariant-loop-j l = let steps = onward (mesh_of l.m) l.p l.from (forcing_at (length l.m.x.now) l.list) in
    ((l.j ≤ l.count) × (l.step ≡ l.from + l.j) × (l.step ≤ 4294967295))
    × ((length l.next ≡ state_runs * length l.m.x.now) × (length l.work ≡ work_runs * length l.m.x.now) × (length l.sums ≡ length l.m.x.now))
    × (steps (l.count - l.j) l.j l.next ≡ steps (l.count - 1) 1 l.initial.next)
