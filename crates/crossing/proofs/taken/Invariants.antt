use Prim.Native.Nat.{◌<◌, ◌^◌}
use mathlib.Core.Path.{◌≡◌}
use lib.ListN.{take, drop}
use Rattle.frames.specs.Bytes.{number}
use Rattle.crossing.proofs.taken.Given as goal

abbrev pub invariant-loop-k : goal.invariant-loop-k
invariant-loop-k l = (l.v < 256 ^ l.k) × (l.v ≡ number (take l.k (drop l.at l.b)))
