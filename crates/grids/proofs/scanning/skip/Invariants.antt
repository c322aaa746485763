use Rattle.std.proofs.Common.{◌≡◌, ◌+◌, ◌≤◌, drop}
use Rattle.grids.specs.Private.{unspaced}
use Rattle.grids.proofs.scanning.skip.Given as goal

-- what is left once its spaces are passed over stays the same
abbrev pub invariant-loop-j : goal.invariant-loop-j
invariant-loop-j l = (l.j ≤ 8) × (unspaced (drop (l.from + l.j) l.text) ≡ unspaced (drop l.from l.text))
