use Rattle.std.proofs.Common.{rules}
use Rattle.geometry.proofs.GeometryLaws.{Fit}
use Rattle.location.proofs.SpreadLaws.{fitted}
use Rattle.location.proofs.seeking.twice_area.Goals as goal
use Rattle.location.proofs.seeking.twice_area.Goals.{Start}

its : (c : Start) → Fit c.args.s
its c =
    let g = c.well_formed.0.1.1 in
    fitted _ c.requires g.1.0.1 g.1.1.0.1 g.1.1.1.1.0.1 g.1.1.1.1.1.0.1

pub overflow_mul-result : goal.overflow_mul-result
overflow_mul-result c = let f = its (goal.at.overflow_mul-result c).Start in search rules

pub overflow_mul-result-2 : goal.overflow_mul-result-2
overflow_mul-result-2 c = let f = its (goal.at.overflow_mul-result-2 c).Start in search rules

pub overflow_sub-result : goal.overflow_sub-result
overflow_sub-result c = let f = its (goal.at.overflow_sub-result c).Start in search rules

pub returns : goal.returns
returns c = let f = its (goal.at.returns c).Start in search rules
