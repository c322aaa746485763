use borrow.Author.Rules.{rules}
use Rattle.geometry.proofs.GeometryLaws.{fit}
use Rattle.passes.proofs.reading.twice_area.Goals as goal

pub overflow_mul-result : goal.overflow_mul-result
overflow_mul-result c = let f = fit _ c.requires in search rules

pub overflow_mul-result-2 : goal.overflow_mul-result-2
overflow_mul-result-2 c = let f = fit _ c.requires in search rules

pub overflow_sub-result : goal.overflow_sub-result
overflow_sub-result c = let f = fit _ c.requires in search rules

pub returns : goal.returns
returns c = let f = fit _ c.requires in search rules
