use Rattle.std.proofs.Common.{◌≡◌, ◌^◌, ◌<◌, take, drop}
use Rattle.frames.specs.Bytes.{bytes, number}
use Rattle.frames.proofs.reading.value.Given as goal

abbrev pub invariant-loop-k : goal.invariant-loop-k
invariant-loop-k l = (l.v < 256 ^ l.k) × (l.v ≡ number (take l.k (drop l.at (bytes l.line))))
