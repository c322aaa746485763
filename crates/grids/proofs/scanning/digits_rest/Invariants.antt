use Rattle.std.proofs.Common.{◌≤◌}
use Rattle.grids.specs.Private.{most}
use Rattle.grids.proofs.LeftLaws.{Going}
use Rattle.grids.proofs.scanning.digits_rest.Given as goal

abbrev pub invariant-loop-at : goal.invariant-loop-at
invariant-loop-at l = (l.value ≤ most) × Going l.text l.from l.first l.value l.at
