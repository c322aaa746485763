use Rattle.std.proofs.Common.{rules}
use Rattle.geometry.proofs.SizeLaws.{Gap, gap_fits}
use Rattle.geometry.proofs.gap.Goals as goal
use Rattle.geometry.proofs.gap.Goals.{Start}

both : (c : Start) → Gap c.args.p c.args.q
both c = gap_fits _ _ c.ranges.p c.ranges.q

pub overflow_cast-result : goal.overflow_cast-result
overflow_cast-result c = let g = both (goal.at.overflow_cast-result c).Start in search rules

pub overflow_cast-result-2 : goal.overflow_cast-result-2
overflow_cast-result-2 c = let g = both (goal.at.overflow_cast-result-2 c).Start in search rules

pub overflow_sub-result : goal.overflow_sub-result
overflow_sub-result c = let g = both (goal.at.overflow_sub-result c).Start in search rules

pub returns : goal.returns
returns c = let g = both (goal.at.returns c).Start in search rules
