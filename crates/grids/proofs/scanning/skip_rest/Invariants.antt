use Rattle.std.proofs.Common.{◌≡◌, drop}
use Rattle.grids.specs.Private.{unspaced}
use Rattle.grids.proofs.scanning.skip_rest.Given as goal

-- what is left once its spaces are passed over stays the same
abbrev pub invariant-loop-at : goal.invariant-loop-at
invariant-loop-at l = unspaced (drop l.at l.text) ≡ unspaced (drop l.from l.text)
