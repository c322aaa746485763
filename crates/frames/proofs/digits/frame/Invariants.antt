use Rattle.std.proofs.Common.{◌≡◌, take}
use Rattle.frames.specs.Bytes.{bytes}
use Rattle.frames.proofs.digits.frame.Given as goal

abbrev pub invariant-loop-k : goal.invariant-loop-k
invariant-loop-k l = take l.k l.out ≡ take l.k (bytes l.text)
