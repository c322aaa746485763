use Prim.Native.Nat.{◌-◌, ◌≤◌}
use mathlib.Core.Path.{◌≡◌}
use Rattle.areas.specs.Areas.{total, counted}
use Rattle.areas.proofs.twice_areas.Given as goal

-- t triangles are counted
abbrev pub invariant-loop-t : goal.invariant-loop-t
invariant-loop-t l = (l.t ≤ l.e) × (l.sum ≡ total (counted l.m.x.now l.m.y.now l.m.tri.now) l.t)

abbrev pub decreases-loop-t : goal.decreases-loop-t
decreases-loop-t l = l.e - l.t
