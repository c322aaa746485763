use Prim.Native.Nat.{◌+◌, ◌-◌, ◌≤◌}
use mathlib.Core.Path.{◌≡◌}
use lib.ListN.{length}
use Rattle.frames.specs.Bytes.{field}
use Rattle.lines.specs.Building.{laid}
use Rattle.crossing.proofs.put_number.Given as goal

-- what is left to write makes of b what the whole field makes of b₀
abbrev pub invariant-loop-k : goal.invariant-loop-k
invariant-loop-k l =
    (length l.b ≡ length l.initial.b) × (l.at + l.w ≤ length l.initial.b) × (laid l.b l.at (field (l.w - l.k) l.rest) ≡ laid l.initial.b l.at (field l.w l.v))
