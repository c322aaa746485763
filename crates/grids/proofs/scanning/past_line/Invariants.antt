use Rattle.std.proofs.Common.{◌≡◌, drop}
use Rattle.grids.specs.Numbers.{after_first}
use Rattle.grids.proofs.scanning.past_line.Given as goal

-- what stands after the line stays the same
abbrev pub invariant-loop-at : goal.invariant-loop-at
invariant-loop-at l = after_first 10 (drop l.at l.text) ≡ after_first 10 (drop l.from l.text)
