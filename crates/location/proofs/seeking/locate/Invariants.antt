use Rattle.std.proofs.Common.{◌≡◌, ℕ, ◌<◌, false}
use Rattle.location.specs.Location.{contains}
use Rattle.location.proofs.seeking.locate.Given as goal

-- no triangle that was passed contains the point
abbrev pub invariant-loop-t : goal.invariant-loop-t
invariant-loop-t l = (k : ℕ) → k < l.t → contains l.m.x.now l.m.y.now l.m.tri.now l.p k ≡ false
