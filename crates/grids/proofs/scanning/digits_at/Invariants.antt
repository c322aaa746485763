use Rattle.std.proofs.Common.{◌+◌, ◌^◌, ◌<◌, ◌≤◌}
use Rattle.grids.proofs.LeftLaws.{Going}
use Rattle.grids.proofs.scanning.digits_at.Given as goal

-- so few digits need no limit
abbrev pub invariant-loop-j : goal.invariant-loop-j
invariant-loop-j l = (l.j ≤ 5) × ((l.value < 10 ^ l.j) × Going l.text l.from 0 l.value (l.from + l.j))
